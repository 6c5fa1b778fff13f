use Rattle.std.proofs.Common.{ap, ◌∙◌}
use Rattle.std.specs.FinMap as map
use Rattle.row_tables.proofs.Counting.{counted-fewer}
use Rattle.row_tables.proofs.Keyed.{kept-removed, keyed-removed, new-fit-at, row-at}
use Rattle.row_tables.proofs.store.RowTables.remove.Goals as goal

pub invariant_of-self : goal.invariant_of-self
invariant_of-self c = record {
  are_kept = kept-removed _ c.self.invariant.are_kept c.args.key.now c.rank.ensures.limits c.rank.result c.rank.ensures.value _ c.remove-was.ensures.after;
  counted = counted-fewer _ _ c.self.invariant c.rank.result _ _ _ c.remove-was.ensures.value c.remove-was.ensures.after c.fewer-self-inside.ensures;
}

pub returns-clause-value : goal.returns-clause-value
returns-clause-value c = c.remove-was.ensures.value ∙ row-at _ c.self.invariant.are_kept c.args.key.now c.rank.ensures.limits c.rank.result c.rank.ensures.value ∙ ap (λ m. map.get m c.args.key.now) c.self.view_is

pub returns-clause-after : goal.returns-clause-after
returns-clause-after c = keyed-removed _ c.self.invariant.are_kept c.args.key.now c.rank.ensures.limits c.rank.result c.rank.ensures.value _ c.remove-was.ensures.after ∙ ap (λ m. map.remove m c.args.key.now) c.self.view_is

pub returns-clause-kind : goal.returns-clause-kind
returns-clause-kind c = new-fit-at _ c.self.invariant.are_kept c.args.key.now c.rank.ensures.limits c.rank.result c.rank.ensures.value _ c.remove-was.ensures.value
