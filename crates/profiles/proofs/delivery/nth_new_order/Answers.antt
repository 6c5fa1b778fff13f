use Rattle.std.proofs.Common.{rules, ◌≡◌, ◌+◌, ℕ, None, Some, sym, ap, ◌∙◌}
use Rattle.std.specs.FinMap.{get}
use Rattle.tpcc_laws.proofs.Doing.{between-some}
use Rattle.tpcc_rows.specs.Picks.{oldest}
use Rattle.tpcc_rows.specs.References.{row_of}
use Rattle.tpcc_rows.specs.declared.key.RowKey.TheVariants as key
use Rattle.profiles.proofs.NewOrders.{nth-above, nth-gone, nth-none, nth-there}
use Rattle.profiles.proofs.delivery.nth_new_order.Goals as goal

pub returns-in_err-oldest : goal.returns-in_err-oldest
returns-in_err-oldest c = λ cards sound.
    let none : c.from_residual.result ≡ None = search rules in
    none ∙ sym (nth-none c.args.warehouse c.args.district c.args.store.now.rows c.args.n (ap (λ rows. oldest rows c.args.warehouse c.args.district) (sym c.rows.ensures) ∙ sym c.in_err-oldest.ensures))

pub returns-in_err-order : goal.returns-in_err-order
returns-in_err-order c = λ cards sound.
    let none : c.from_residual-in_err-order.result ≡ None = search rules in
    none ∙ sym (nth-above c.args.warehouse c.args.district cards c.args.store.now.rows c.in_ok-oldest.oldest c.args.n sound (ap (λ rows. oldest rows c.args.warehouse c.args.district) (sym c.rows.ensures) ∙ sym c.in_ok-oldest.ensures) (sym c.in_err-order.ensures))

pub returns-in_err-get : goal.returns-in_err-get
returns-in_err-get c = λ cards sound.
    let rows = c.args.store.now.rows in
    let at : c.in_ok-oldest.oldest + c.args.n ≡ c.in_ok-order.order = (between-some 1 9999999 _ _ (sym c.in_ok-order.ensures)).0 in
    let gone : get rows (key.NewOrder c.args.warehouse c.args.district (c.in_ok-oldest.oldest + c.args.n)) ≡ None = ap (λ (o : ℕ). get rows (key.NewOrder c.args.warehouse c.args.district o)) at ∙ sym c.in_err-get.ensures.value in
    let none : c.from_residual-in_err-get.result ≡ None = search rules in
    none ∙ sym (nth-gone c.args.warehouse c.args.district cards rows c.in_ok-oldest.oldest c.args.n sound (ap (λ rows. oldest rows c.args.warehouse c.args.district) (sym c.rows.ensures) ∙ sym c.in_ok-oldest.ensures) gone)

pub returns : goal.returns
returns c = λ cards sound.
    let rows = c.args.store.now.rows in
    let at : c.in_ok-oldest.oldest + c.args.n ≡ c.in_ok-order.order = (between-some 1 9999999 _ _ (sym c.in_ok-order.ensures)).0 in
    let there : get rows (key.NewOrder c.args.warehouse c.args.district (c.in_ok-oldest.oldest + c.args.n)) ≡ Some (row_of c.in_ok-get.field-0) = ap (λ (o : ℕ). get rows (key.NewOrder c.args.warehouse c.args.district o)) at ∙ sym c.in_ok-get.ensures.value in
    ap (λ (o : ℕ). Some o) (sym at) ∙ sym (nth-there c.args.warehouse c.args.district cards rows c.in_ok-oldest.oldest c.args.n sound (ap (λ rows. oldest rows c.args.warehouse c.args.district) (sym c.rows.ensures) ∙ sym c.in_ok-oldest.ensures) (row_of c.in_ok-get.field-0) there)
