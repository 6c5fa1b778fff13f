use Rattle.std.proofs.Common.{refl, ap, ◌∙◌, arith}
use Rattle.std.specs.Prelude.{option_map}
use Rattle.std.specs.FinMap as map
use Rattle.tpcc_rows.specs.declared.row.Row.TheVariants as row
use Rattle.row_tables.proofs.ByKind.{get-kind}
use Rattle.row_tables.proofs.kinds.KindTables.history.Goals as goal

pub returns : goal.returns
returns c = ap (option_map (λ r. row.History r)) c.get_near.ensures ∙ get-kind (λ r. row.History r) _ c.self.invariant 6 c.args.rank c.requires (omega arith) c.self.inside.history refl ∙ ap (λ m. map.get m c.args.rank) c.self.view_is
