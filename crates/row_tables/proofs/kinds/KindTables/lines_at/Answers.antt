use Rattle.std.proofs.Common.{◌≡◌, None, cond, true, eqb, refl, ap, ◌∙◌, arith}
use Rattle.std.proofs.lemmas.Bool.Decides.{nat_tests}
use Rattle.std.specs.Prelude.{option_map}
use Rattle.std.specs.FinMap as map
use Rattle.tables.specs.Shelves.{place_of}
use Rattle.tables.proofs.Shelved.{get-rows_at}
use Rattle.tpcc_rows.specs.declared.row.Row.TheVariants as row
use Rattle.row_tables.proofs.ByKind.{get-kind}
use Rattle.row_tables.proofs.kinds.KindTables.lines_at.Goals as goal

pub returns : goal.returns
returns c r same five =
    let here : eqb (place_of r) (place_of c.args.rank) ≡ true = grind (arith, nat_tests) in
    ap (λ t. option_map (λ x. row.OrderLine x) (map.get t r)) c.table_at.ensures
    ∙ ap (option_map (λ x. row.OrderLine x)) (get-rows_at place_of _ (place_of c.args.rank) r ∙ ap (λ b. cond b (map.get c.self.inside.lines r) None) here)
    ∙ get-kind (λ x. row.OrderLine x) _ c.self.invariant 5 r five (omega arith) c.self.inside.lines refl ∙ ap (λ m. map.get m r) c.self.view_is
