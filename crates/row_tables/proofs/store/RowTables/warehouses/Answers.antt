use Rattle.std.proofs.Common.{◌∙◌}
use Rattle.row_tables.proofs.store.RowTables.warehouses.Goals as goal

pub returns : goal.returns
returns c = c.walk_between.ensures.left ∙ c.walk_between.ensures.parts.of_table 0
