use Rattle.std.proofs.Common.{ap, ◌∙◌}
use Rattle.std.specs.FinMap as map
use Rattle.row_tables.proofs.Keyed.{fit-at, row-at}
use Rattle.row_tables.proofs.store.RowTables.get.Goals as goal

pub returns-clause-value : goal.returns-clause-value
returns-clause-value c = c.get.ensures ∙ row-at _ c.self.invariant.are_kept c.args.key.now c.rank.ensures.limits c.rank.result c.rank.ensures.value ∙ ap (λ m. map.get m c.args.key.now) c.self.view_is

pub returns-clause-kind : goal.returns-clause-kind
returns-clause-kind c = fit-at _ c.self.invariant.are_kept c.args.key.now c.rank.ensures.limits c.rank.result c.rank.ensures.value _ c.get.ensures
