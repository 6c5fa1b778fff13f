use Rattle.std.proofs.Common.{refl, sym, ap, ◌∙◌, arith}
use Rattle.std.specs.Prelude.{option_map}
use Rattle.std.specs.FinMap as map
use Rattle.std.proofs.lemmas.Result.{IfOk-weaker, on_err_weaker}
use Rattle.tpcc_rows.specs.declared.row.Row.TheVariants as row
use Rattle.row_tables.proofs.ByKind.{get-kind, kinds-tried, union-refused, union-tried}
use Rattle.row_tables.proofs.kinds.KindTables.put_history.Goals as goal

pub invariant_of-self : goal.invariant_of-self
invariant_of-self c = kinds-tried (λ r. row.History r) _ c.self.invariant 6 c.args.rank c.requires (omega arith) c.self.inside.history refl c.put_near.result _ c.args.row c.put_near.ensures.ok c.put_near.ensures.err

pub returns-clause-value : goal.returns-clause-value
returns-clause-value c = IfOk-weaker c.put_near.result _ _ (λ _ e. ap (option_map (λ r. row.History r)) e ∙ get-kind (λ r. row.History r) _ c.self.invariant 6 c.args.rank c.requires (omega arith) c.self.inside.history refl ∙ ap (λ m. map.get m c.args.rank) c.self.view_is) c.put_near.ensures.value

pub returns-clause-ok : goal.returns-clause-ok
returns-clause-ok c = union-tried (λ r. row.History r) _ c.self.invariant 6 c.args.rank c.requires (omega arith) c.self.inside.history refl c.put_near.result _ c.args.row c.put_near.ensures.ok c.put_near.ensures.err _ c.self.view_is

pub returns-clause-err : goal.returns-clause-err
returns-clause-err c = union-refused (λ r. row.History r) _ c.self.invariant 6 c.args.rank c.requires (omega arith) c.self.inside.history refl c.put_near.result _ c.args.row c.put_near.ensures.ok c.put_near.ensures.err _ c.self.view_is

pub returns-clause-new : goal.returns-clause-new
returns-clause-new c = on_err_weaker c.put_near.result (λ e. sym (ap (option_map (λ r. row.History r)) (sym e) ∙ get-kind (λ r. row.History r) _ c.self.invariant 6 c.args.rank c.requires (omega arith) c.self.inside.history refl ∙ ap (λ m. map.get m c.args.rank) c.self.view_is)) c.put_near.ensures.new
