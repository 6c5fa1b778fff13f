use Rattle.std.proofs.Common.{eqb, refl, sym, ap, ◌∙◌, slice_get, arith}
use Rattle.std.proofs.lemmas.Bool.Decides.{nat_tests}
use Rattle.std.specs.Prelude.{option_map}
use Rattle.tpcc_rows.specs.declared.row.Row.TheVariants as row
use Rattle.row_tables.proofs.Parts.{both-maps, nth-payment, past-payments}
use Rattle.row_tables.proofs.kinds.KindTables.nth_history.Goals as goal

pub returns-then-part-ne0 : goal.returns-then-part-ne0
returns-then-part-ne0 c = sym (ap (λ es. slice_get es c.args.n) (past-payments c.args.self.now c.args.part c.requires (let no = c.if-part-ne0.true in grind (arith, nat_tests))))

pub returns : goal.returns
returns c =
    both-maps (λ e. (e.0, e.1.now)) (λ e. (e.0, row.History e.1)) c.nth.result ∙ ap (option_map (λ e. (e.0, row.History e.1))) c.nth.ensures
    ∙ nth-payment (λ r. row.History r) _ c.self.invariant _ c.self.view_is c.self.inside.history (omega arith) refl c.args.part c.requires (ap (λ n. eqb n 0) c.if-part-ne0.false) c.as_slice.result.now c.as_slice.ensures c.args.n
