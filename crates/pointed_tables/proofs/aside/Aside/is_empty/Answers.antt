use Rattle.std.proofs.Common.{◌≡◌, vec_len, sym, ◌∙◌, arith}
use Rattle.std.proofs.lemmas.Bool.{eqb-true}
use Rattle.tpcc_rows.proofs.Keys.{row_key_cmp_total, exact_keys}
use Rattle.tpcc_rows.proofs.Places.{no-entries}
use Rattle.pointed_tables.proofs.Placing.{nothing-in, rows-are}
use Rattle.pointed_tables.proofs.aside.Aside.is_empty.Goals as goal

pub returns : goal.returns
returns c empty =
    let none : vec_len c.self.inside.rows ≡ 0 = eqb-true (vec_len c.self.inside.rows) 0 (sym c.is_empty.ensures ∙ empty) in
    sym (rows-are _ _ _ c.self.view_is) ∙ no-entries row_key_cmp_total exact_keys c.self.inside.rows.items (nothing-in _ (omega (arith, none)))
