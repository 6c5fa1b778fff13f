use Rattle.std.proofs.Common.{refl, cond, is_some, unwrap_or, ap, ◌∙◌, arith}
use Rattle.std.specs.FinMap as map
use Rattle.tpcc_rows.specs.declared.row.Row.TheVariants as row
use Rattle.row_tables.proofs.ByKind.{found-kind, kinds-swapped, row-kind, union-swapped}
use Rattle.row_tables.proofs.kinds.KindTables.swap_stock.Goals as goal

pub invariant_of-self : goal.invariant_of-self
invariant_of-self c = kinds-swapped (λ r. row.Stock r) _ c.self.invariant 2 c.args.rank c.requires (omega arith) c.self.inside.stocks refl _ c.args.row.now c.swap.result c.swap.ensures.after

pub returns-clause-found : goal.returns-clause-found
returns-clause-found c = c.swap.ensures.found ∙ found-kind (λ r. row.Stock r) _ c.self.invariant 2 c.args.rank c.requires (omega arith) c.self.inside.stocks refl ∙ ap (λ m. is_some (map.get m c.args.rank)) c.self.view_is

pub returns-clause-row : goal.returns-clause-row
returns-clause-row c = ap (λ r. row.Stock r) c.swap.ensures.row ∙ row-kind (λ r. row.Stock r) _ c.self.invariant 2 c.args.rank c.requires (omega arith) c.self.inside.stocks refl c.args.row.now ∙ ap (λ m. unwrap_or (map.get m c.args.rank) (row.Stock c.args.row.now)) c.self.view_is

pub returns-clause-after : goal.returns-clause-after
returns-clause-after c = union-swapped (λ r. row.Stock r) _ c.self.invariant 2 c.args.rank c.requires (omega arith) c.self.inside.stocks refl _ c.args.row.now c.swap.result c.swap.ensures.after ∙ ap (λ m. cond c.swap.result (map.insert m c.args.rank (row.Stock c.args.row.now)) m) c.self.view_is
