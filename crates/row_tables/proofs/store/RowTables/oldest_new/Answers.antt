use Rattle.std.proofs.Common.{◌∙◌}
use Rattle.row_tables.proofs.NewNumbers.{first-oldest}
use Rattle.row_tables.proofs.store.RowTables.oldest_new.Goals as goal

pub returns : goal.returns
returns c = c.nth_new_order.ensures ∙ first-oldest c.args.warehouse c.args.district c.args.self.now
