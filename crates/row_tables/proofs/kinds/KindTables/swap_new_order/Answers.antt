use Rattle.std.proofs.Common.{◌≡◌, ℕ, Bool, cond, Option, None, Some, is_some, unwrap_or, sym, ap, refl, ◌∙◌, arith}
use Rattle.std.specs.FinMap as map
use Rattle.std.specs.Prelude.{⊤, option_map}
use Rattle.tables.proofs.Shelved.{insert-same}
use Rattle.tpcc_rows.specs.declared.row.Row.TheVariants as row
use Rattle.row_tables.specs.RankRows.{RankRows}
use Rattle.row_tables.proofs.ByKind.{found-kind, get-kind, row-kind}
use Rattle.row_tables.proofs.kinds.KindTables.swap_new_order.Goals as goal

-- a new order's row in exchange for its like
same-rows : (m : RankRows) (r : ℕ) (o : Option ⊤) (b : Bool) → b ≡ is_some o → option_map (λ _. row.NewOrder) o ≡ map.get m r → m ≡ cond b (map.insert m r row.NewOrder) m
same-rows m r None b is here = ap (λ a. cond a (map.insert m r row.NewOrder) m) (sym is)
same-rows m r (Some u) b is here = insert-same m r row.NewOrder (sym here) ∙ ap (λ a. cond a (map.insert m r row.NewOrder) m) (sym is)

pub returns-clause-found : goal.returns-clause-found
returns-clause-found c =
    c.is_some.ensures ∙ ap is_some c.get.ensures
    ∙ found-kind (λ _. row.NewOrder) _ c.self.invariant 4 c.args.rank c.requires (omega arith) c.self.inside.new_orders refl ∙ ap (λ m. is_some (map.get m c.args.rank)) c.self.view_is

pub returns-clause-row : goal.returns-clause-row
returns-clause-row c = row-kind (λ _. row.NewOrder) _ c.self.invariant 4 c.args.rank c.requires (omega arith) c.self.inside.new_orders refl tt ∙ ap (λ m. unwrap_or (map.get m c.args.rank) (row.NewOrder)) c.self.view_is

pub returns-clause-after : goal.returns-clause-after
returns-clause-after c = same-rows c.args.self.now c.args.rank c.get.result c.is_some.result c.is_some.ensures
    (ap (option_map (λ _. row.NewOrder)) c.get.ensures
    ∙ get-kind (λ _. row.NewOrder) _ c.self.invariant 4 c.args.rank c.requires (omega arith) c.self.inside.new_orders refl ∙ ap (λ m. map.get m c.args.rank) c.self.view_is)
