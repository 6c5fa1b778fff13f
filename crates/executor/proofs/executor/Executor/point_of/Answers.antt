use Rattle.std.proofs.Common.{◌==◌, ◌∙◌, ap}
use Rattle.std.specs.List.{position}
use Rattle.executor.specs.Chains.{Chain}
use Rattle.executor.specs.declared.stamp.Stamp.{Stamp}
use Rattle.executor.proofs.ChainFacts.{is_numbered, position-by-stamps}
use Rattle.executor.proofs.executor.Executor.point_of.Goals as goal

pub returns : goal.returns
returns c =
    c.point_among.ensures ∙ ap (position (λ (stamp : Stamp). stamp.sequence == c.args.sequence)) c.as_slice.ensures.value
    ∙ position-by-stamps c.args.sequence c.self.inside.engine.store.points c.self.inside.earlier.items c.self.invariant.stamped
    ∙ ap (λ (chain : Chain). position (is_numbered c.args.sequence) chain.earlier) c.self.view_is
