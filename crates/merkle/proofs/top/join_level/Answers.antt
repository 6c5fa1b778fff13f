use Rattle.std.proofs.Common.{◌≡◌, ◌<◌, ◌+◌, ◌*◌, arith, length, subst, take, true, ◌∙◌}
use Rattle.std.proofs.lemmas.Bool.{cond-true}
use Rattle.merkle.specs.Jobs.{AreGathered}
use Rattle.merkle.specs.Nodes.{at, join_at}
use Rattle.merkle.proofs.Placing.{done-put, done-there}
use Rattle.merkle.proofs.top.join_level.Goals as goal

pub put_hashes-requires : goal.put_hashes-requires
put_hashes-requires c =
    let width = c.args.width in
    let all : c.loop-n.n ≡ width = omega (arith, c.loop-n-test.false, c.loop-n.auto.n-end) in
    let gathered = subst (λ m. AreGathered (λ i. i < 2 * width) (λ i. true) width (width + m) (take m c.loop-n.jobs)) all c.loop-n.invariant.gathered in
    done-there (join_at c.args.top.now) (take width c.loop-n.jobs) c.do_jobs.new.jobs c.do_jobs.ensures (λ n. n < length c.args.top.now) (λ k d h. omega (arith, (gathered.range k d h).2, c.requires.full, c.requires.width))

pub returns-clause-joins : goal.returns-clause-joins
returns-clause-joins c = λ n small.
    let width = c.args.width in
    let all : c.loop-n.n ≡ width = omega (arith, c.loop-n-test.false, c.loop-n.auto.n-end) in
    let gathered = subst (λ m. AreGathered (λ i. i < 2 * width) (λ i. true) width (width + m) (take m c.loop-n.jobs)) all c.loop-n.invariant.gathered in
    let value = join_at c.args.top.now in
    done-put value (take width c.loop-n.jobs) c.do_jobs.new.jobs c.do_jobs.ensures c.args.top.now c.put_hashes.new.hashes (c.put_hashes.ensures.each value) (width + n)
    ∙ cond-true _ (value (width + n)) (at c.args.top.now (width + n)) (gathered.found (width + n) (omega arith) (omega (arith, small)) (omega (arith, small)))
