use Rattle.std.proofs.Common.{◌∙◌}
use Rattle.row_tables.proofs.store.RowTables.walk.Goals as goal

pub returns-clause-left : goal.returns-clause-left
returns-clause-left c = c.walk_between.ensures.left ∙ c.walk_between.ensures.parts.all

pub returns-clause-few : goal.returns-clause-few
returns-clause-few c = c.walk_between.ensures.parts.few
