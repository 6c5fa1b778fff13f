use Rattle.std.proofs.Common.{None, refl, ap, ◌∙◌, arith}
use Rattle.std.specs.Prelude.{option_map}
use Rattle.std.specs.FinMap as map
use Rattle.tpcc_rows.specs.declared.row.Row.TheVariants as row
use Rattle.row_tables.proofs.ByKind.{get-kind, kinds-changed, union-changed}
use Rattle.row_tables.proofs.kinds.KindTables.remove_history.Goals as goal

pub invariant_of-self : goal.invariant_of-self
invariant_of-self c = kinds-changed (λ r. row.History r) _ c.self.invariant 6 c.args.rank c.requires (omega arith) c.self.inside.history refl _ None c.remove.ensures.after

pub returns-clause-value : goal.returns-clause-value
returns-clause-value c = ap (option_map (λ r. row.History r)) c.remove.ensures.value ∙ get-kind (λ r. row.History r) _ c.self.invariant 6 c.args.rank c.requires (omega arith) c.self.inside.history refl ∙ ap (λ m. map.get m c.args.rank) c.self.view_is

pub returns-clause-after : goal.returns-clause-after
returns-clause-after c = union-changed (λ r. row.History r) _ c.self.invariant 6 c.args.rank c.requires (omega arith) c.self.inside.history refl _ None c.remove.ensures.after ∙ ap (λ m. map.remove m c.args.rank) c.self.view_is
