use Rattle.std.proofs.Common.{ap, subst, sym, ◌∙◌}
use Rattle.gather.specs.Merged.{IsUnion, merged}
use Rattle.tpcc_rows.specs.Changing.{after}
use Rattle.tpcc_rows.specs.RowMap.{Changes}
use Rattle.gather.proofs.Deltas.{after-merged, all-put, one-more, union-merged}
use Rattle.gather.proofs.merging.merge.Goals as goal

pub loop-delta-preserved : goal.loop-delta-preserved
loop-delta-preserved c =
    one-more c.loop-delta.merged c.append.new.self c.in-Some.delta (merged c.args.deltas.items) c.loop-delta.delta-iterator.rest.items c.next.new.self.rest.items c.in-Some.ensures.steps.0 c.in_ok-append.ensures.ok c.loop-delta.invariant

pub returns-clause-in_turn : goal.returns-clause-in_turn
returns-clause-in_turn c rows =
    let all = all-put c.loop-delta.merged (merged c.args.deltas.items) c.loop-delta.delta-iterator.rest.items (sym c.loop-delta.delta-iterator.rest.ok.0 ∙ c.in-None.ensures.steps.0) c.loop-delta.invariant in
    ap (after rows) all ∙ after-merged c.args.deltas.items rows

pub returns-clause-union : goal.returns-clause-union
returns-clause-union c apart =
    let all = all-put c.loop-delta.merged (merged c.args.deltas.items) c.loop-delta.delta-iterator.rest.items (sym c.loop-delta.delta-iterator.rest.ok.0 ∙ c.in-None.ensures.steps.0) c.loop-delta.invariant in
    subst (λ (delta : Changes). IsUnion c.args.deltas.items delta) (sym all) (union-merged c.args.deltas.items apart)
