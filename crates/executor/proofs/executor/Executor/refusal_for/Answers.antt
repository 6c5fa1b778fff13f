use Rattle.std.proofs.Common.{rules, ◌≡◌, ◌∙◌, ap, length, sym}
use Rattle.executor.specs.Chains.{Chain}
use Rattle.executor.proofs.ChainFacts.{length-states_of}
use Rattle.executor.proofs.executor.Executor.refusal_for.Goals as goal

pub returns-then-len-ge-POINTS : goal.returns-then-len-ge-POINTS
returns-then-len-ge-POINTS c =
    let count : length c.args.self.now.earlier ≡ length c.self.inside.earlier.items =
    sym (ap (λ (l : Chain). length l.earlier) c.self.view_is) ∙ length-states_of c.self.inside.engine.store.points c.self.inside.earlier.items c.self.invariant.stamped in
    search (rules, count)

pub returns-else-len-ge-POINTS : goal.returns-else-len-ge-POINTS
returns-else-len-ge-POINTS c =
    let count : length c.args.self.now.earlier ≡ length c.self.inside.earlier.items =
    sym (ap (λ (l : Chain). length l.earlier) c.self.view_is) ∙ length-states_of c.self.inside.engine.store.points c.self.inside.earlier.items c.self.invariant.stamped in
    search (rules, count)
