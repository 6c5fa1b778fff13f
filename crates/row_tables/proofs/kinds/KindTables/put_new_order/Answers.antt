use Rattle.std.proofs.Common.{refl, sym, ap, ◌∙◌, arith}
use Rattle.std.specs.Prelude.{option_map}
use Rattle.std.specs.FinMap as map
use Rattle.std.proofs.lemmas.Result.{IfOk-weaker, on_err_weaker}
use Rattle.tpcc_rows.specs.declared.row.Row.TheVariants as row
use Rattle.row_tables.proofs.ByKind.{get-kind, kinds-tried, union-refused, union-tried}
use Rattle.row_tables.proofs.kinds.KindTables.put_new_order.Goals as goal

pub invariant_of-self : goal.invariant_of-self
invariant_of-self c = kinds-tried (λ _. row.NewOrder) _ c.self.invariant 4 c.args.rank c.requires (omega arith) c.self.inside.new_orders refl c.put.result _ tt c.put.ensures.ok c.put.ensures.err

pub returns-clause-value : goal.returns-clause-value
returns-clause-value c = IfOk-weaker c.put.result _ _ (λ _ e. ap (option_map (λ _. row.NewOrder)) e ∙ get-kind (λ _. row.NewOrder) _ c.self.invariant 4 c.args.rank c.requires (omega arith) c.self.inside.new_orders refl ∙ ap (λ m. map.get m c.args.rank) c.self.view_is) c.put.ensures.value

pub returns-clause-ok : goal.returns-clause-ok
returns-clause-ok c = union-tried (λ _. row.NewOrder) _ c.self.invariant 4 c.args.rank c.requires (omega arith) c.self.inside.new_orders refl c.put.result _ tt c.put.ensures.ok c.put.ensures.err _ c.self.view_is

pub returns-clause-err : goal.returns-clause-err
returns-clause-err c = union-refused (λ _. row.NewOrder) _ c.self.invariant 4 c.args.rank c.requires (omega arith) c.self.inside.new_orders refl c.put.result _ tt c.put.ensures.ok c.put.ensures.err _ c.self.view_is

pub returns-clause-new : goal.returns-clause-new
returns-clause-new c = on_err_weaker c.put.result (λ e. sym (ap (option_map (λ _. row.NewOrder)) (sym e) ∙ get-kind (λ _. row.NewOrder) _ c.self.invariant 4 c.args.rank c.requires (omega arith) c.self.inside.new_orders refl ∙ ap (λ m. map.get m c.args.rank) c.self.view_is)) c.put.ensures.new
