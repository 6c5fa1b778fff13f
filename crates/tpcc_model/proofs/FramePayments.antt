-- A payment does the same where its rows are the same, and changes no others.
use Rattle.std.proofs.Common.{◌≡◌, ℕ, [], Ok, Err, Result, inl, inr, refl, ap}
use Rattle.catalog.specs.CardMap.{Cards}
use Rattle.requests.specs.declared.request.Payment.{Payment}
use Rattle.requests.specs.declared.reply.RequestRefusal.{RequestRefusal}
use Rattle.tpcc_rows.specs.RowMap.{Rows}
use Rattle.tpcc_rows.specs.declared.granule.Granule.TheVariants as part
use Rattle.tpcc_rows.specs.declared.key.RowKey.TheVariants as key
use Rattle.tpcc_model.specs.Database.{Database, database}
use Rattle.tpcc_model.specs.Payments.{Paid, PaymentCards, found_cards, found_rows, paid_customer, paid_district, paid_rows, paid_warehouse, payment, payment_changes}
use Rattle.tpcc_model.specs.Staging.{◌>>=◌, known}
use Rattle.tpcc_model.specs.Steps.{payment_outcome}
use Rattle.tpcc_model.specs.Touches.{Agree, ArePlaced, paid_touch, payment_touch, touch_by}
use Rattle.tpcc_model.proofs.Agreeing.{same_customer, same_district_ytd, same_warehouse}
use Rattle.tpcc_model.proofs.Placing.{in_granule, placed-insert, placed-none}
use Rattle.tpcc_model.proofs.Stages.{after-stage, same-stage}

module _ (p : Payment) (moment : ℕ) where
  abbrev paid_by : Rows → Result PaymentCards RequestRefusal → Result Paid RequestRefusal
  paid_by rows r = r >>= λ cards. found_rows rows p cards.customer_id >>= λ found. paid_rows p moment cards found

  module _ (s t : Rows) where
    same_rows : (c : ℕ) → Agree s t (paid_touch p c).reads → found_rows t p c ≡ found_rows s p c
    unfolding found_rows
    same_rows c agree =
        let gs = (paid_touch p c).reads in
        same-stage _ _ _ _ (ap known (same_warehouse s t gs agree p.warehouse (inl refl))) λ warehouse e1.
        same-stage _ _ _ _ (ap known (same_district_ytd s t gs agree p.warehouse p.district (inr (inl refl)))) λ district e2.
        same-stage _ _ _ _ (ap known (same_customer s t gs agree p.customer_warehouse p.customer_district c (inr (inr (inl refl))))) λ customer e3. refl

    same_paid : (r : Result PaymentCards RequestRefusal) → Agree s t (touch_by (λ cards. paid_touch p cards.customer_id) r).reads → paid_by t r ≡ paid_by s r
    same_paid (Ok cards) agree = ap (λ found. found >>= λ rows. paid_rows p moment cards rows) (same_rows cards.customer_id agree)
    same_paid (Err why) agree = refl

  paid-placed : (rows : Rows) (number : ℕ) (r : Result PaymentCards RequestRefusal) → ArePlaced number (touch_by (λ cards. paid_touch p cards.customer_id) r).writes (payment_outcome p number (paid_by rows r)).changes
  unfolding paid_rows payment_changes
  paid-placed rows number (Err why) = placed-none number []
  paid-placed rows number (Ok cards) =
      let c = cards.customer_id in
      let gs = (paid_touch p c).writes in
      let P = λ (made : Result Paid RequestRefusal). ArePlaced number gs (payment_outcome p number made).changes in
      let none = λ (why : RequestRefusal). placed-none number gs in
      after-stage P (found_rows rows p c) (λ found. paid_rows p moment cards found) none λ found e1.
      after-stage P (paid_warehouse found.warehouse p.amount) _ none λ warehouse e2.
      after-stage P (paid_district found.district p.amount) _ none λ district e3.
      after-stage P (paid_customer p c cards.customer.credit found.customer) _ none λ customer e4.
      placed-insert number gs _ (key.History number) _ (inl refl)
      (placed-insert number gs _ (key.Customer p.customer_warehouse p.customer_district c) _ (in_granule number gs _ (part.Customer p.customer_warehouse p.customer_district c) refl (inr (inr (inl refl))))
      (placed-insert number gs _ (key.DistrictYtd p.warehouse p.district) _ (in_granule number gs _ (part.DistrictYtd p.warehouse p.district) refl (inr (inl refl)))
      (placed-insert number gs _ (key.Warehouse p.warehouse) _ (in_granule number gs _ (part.Warehouse p.warehouse) refl (inl refl))
      (placed-none number gs))))

pub same_payment : (cards : Cards) (s t : Rows) (p : Payment) (moment : ℕ) → Agree s t (payment_touch (database cards s) p).reads → payment (database cards t) p moment ≡ payment (database cards s) p moment
unfolding payment payment_touch
same_payment cards s t p moment agree = same_paid p moment s t (found_cards cards p) agree

pub payment_placed : (db : Database) (p : Payment) (number moment : ℕ) → ArePlaced number (payment_touch db p).writes (payment_outcome p number (payment db p moment)).changes
unfolding payment payment_touch
payment_placed db p number moment = paid-placed p moment db.rows number (found_cards db.cards p)
