use Rattle.std.proofs.Common.{◌≤◌, length, arith}
use Rattle.serializability.specs.LevelRows.{touched_bits, written_bits}
use Rattle.signatures_simd.specs.Bits.{bit}
use Rattle.mixer.proofs.rows.Rows.place.Goals as goal

pub returns-clause-level : goal.returns-clause-level
returns-clause-level c = λ done are. c.level_of-level.ensures.level done c.args.footprint.now are c.sign-own.ensures

pub returns-clause-rows : goal.returns-clause-rows
returns-clause-rows c = λ done are.
    let reads : c.level_of-level.result ≤ length c.args.self.now.reads.items = omega (arith, c.level_of-level.ensures.bound, are.same) in
    let writes : c.level_of-level.result ≤ length c.args.self.now.writes.items = omega (arith, c.level_of-level.ensures.bound, are.same) in
    record {
      touched = c.in_ok-join.ensures.row (touched_bits bit) done c.args.footprint.now reads are.touched c.sign-own.ensures.touched;
      written = c.in_ok-join-2.ensures.row (written_bits bit) done c.args.footprint.now writes are.written c.sign-own.ensures.written;
      same = omega (arith, are.same, c.in_ok-join.ensures.len reads, c.in_ok-join-2.ensures.len writes);
    }
