use Rattle.std.proofs.Common.{rules, ◌<◌, ◌%◌, ◌^◌, ◌/◌, arith, get_or}
use Rattle.std.proofs.Math.Nat.{div-le_self}
use Rattle.bit_sets.proofs.BitSets.{first-rest, no-rest, rest, same-word-place}
use Rattle.bit_sets.proofs.bits.Bits.first_from.Goals as goal

pub returns-then-rest-ne0-clause-some : goal.returns-then-rest-ne0-clause-some
returns-then-rest-ne0-clause-some g c =
    let words = c.args.self.now.words in
    let n = c.loop-n.n in
    let small : get_or words (n / 64) 0 < 2 ^ 64 = search rules in
    let some : 0 < rest words n = omega (arith, c.if-rest-ne0.true) in
    let fits : rest words n < 2 ^ 64 = omega (arith, small, div-le_self (get_or words (n / 64) 0) (2 ^ (n % 64))) in
    let same = same-word-place words c.args.from n small some fits in
    (omega (arith, same, c.loop-n-test.true), first-rest words c.args.from n small some fits c.loop-n.invariant.low c.loop-n.invariant.before)

pub loop-n-preserved : goal.loop-n-preserved
loop-n-preserved g c =
    let before = c.loop-n.invariant in
    record {
      low = omega (arith, before.low);
      before = no-rest c.args.self.now.words c.args.from c.loop-n.n c.if-rest-ne0.false before.before;
    }
