use Rattle.std.proofs.Common.{ap, ◌∙◌}
use Rattle.tpcc_rows.specs.Rows.{district_ytd_row}
use Rattle.pointed_tables.proofs.Besides.{seen-alone}
use Rattle.pointed_tables.proofs.roomy.RoomyTables.district_ytd.Goals as goal

pub returns-then-is_empty : goal.returns-then-is_empty
returns-then-is_empty c = c.district_ytd.ensures ∙ ap (λ rows. district_ytd_row rows c.args.warehouse c.args.district) (seen-alone _ _ _ c.args.self.now c.self.view_is (c.is_empty.ensures c.if-is_empty.true))
