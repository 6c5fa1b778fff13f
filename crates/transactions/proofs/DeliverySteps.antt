-- Turns of a delivery's loops, and one write after the other.
use Rattle.std.proofs.Common.{◌≡◌, ◌≤◌, ◌<◌, ◌+◌, ℕ, List, [], ◌∷◌, ◌++◌, get_or, length, map, take, take_all, Option, Result, Ok, Err, refl, sym, ap, ◌∙◌, arith}
use Rattle.std.proofs.lemmas.List.{get_or-map}
use Rattle.std.proofs.lemmas.List.FromFn.{get_or-range_with_len}
use Rattle.std.specs.FinMap.{empty}
use Rattle.std.specs.Prelude.{option_map}
use Rattle.requests.specs.declared.request.Delivery.{Delivery}
use Rattle.requests.specs.declared.reply.DeliveryReply.{DeliveryReply}
use Rattle.requests.specs.declared.reply.Reply.TheVariants as reply
use Rattle.requests.specs.declared.reply.RequestRefusal.{RequestRefusal}
use Rattle.tpcc_model.specs.Deliveries.{Delivered, districts_delivered}
use Rattle.tpcc_model.specs.Staging.{◌>>=◌, for_each}
use Rattle.tpcc_model.specs.Steps.{delivery_outcome}
use Rattle.tpcc_rows.specs.Limits.{ten}
use Rattle.tpcc_rows.specs.Picks.{oldest}
use Rattle.tpcc_rows.specs.RowMap.{Changes, Rows}
use Rattle.transactions.specs.DeliveryParts.{FoundOrder, found_district, found_oldest, found_order_of, line_written, lines_written, oldest_written, orders_of, orders_written}
use Rattle.transactions.specs.declared.delivery.DatedLine.{DatedLine}
use Rattle.transactions.specs.declared.delivery.DeliveredOrder.{DeliveredOrder}
use Rattle.transactions.specs.Outcomes.{IsOutcome}
use Rattle.transactions.proofs.ForEach.{for_each_more, for_each_stop}
use Rattle.transactions.proofs.OtherDistricts.{ten_as_found}

-- the district at a place
pub district_at : (ds : List ℕ) (i d : ℕ) → ds ≡ ten → i < 10 → get_or ds i d ≡ i + 1
district_at ds i d is below = ap (λ xs. get_or xs i d) is ∙ get_or-range_with_len 1 10 i d below ∙ (let e : 1 + i ≡ i + 1 = omega arith in e)

module _ (rows : Rows) (p : Delivery) (moment : ℕ) where
  ten_refused : (why : RequestRefusal) → for_each (found_district rows p moment) ten ≡ Err why → districts_delivered rows p moment ten empty ≡ Err why
  ten_refused why refused = ten_as_found rows p moment ∙ ap (λ (r : Result (List (Option FoundOrder)) RequestRefusal). r >>= λ found. Ok (orders_written p.warehouse found empty)) refused

  -- all districts are found
  pub ten_found : (i : ℕ) → 10 ≤ i → (found : List (Option DeliveredOrder)) → for_each (found_district rows p moment) (take i ten) ≡ Ok (orders_of found)
      → districts_delivered rows p moment ten empty ≡ Ok (orders_written p.warehouse (orders_of found) empty)
  ten_found i past found all =
      ten_as_found rows p moment
      ∙ ap (λ (r : Result (List (Option FoundOrder)) RequestRefusal). r >>= λ found. Ok (orders_written p.warehouse found empty)) (ap (for_each (found_district rows p moment)) (sym (take_all i ten past)) ∙ all)

  module _ (i d : ℕ) (ds : List ℕ) (is : ds ≡ ten) (below : i < 10) (os : List (Option ℕ)) (are : os ≡ map (oldest rows p.warehouse) ten) (o : Option ℕ) (found : List (Option DeliveredOrder))
      (so_far : for_each (found_district rows p moment) (take i ten) ≡ Ok (orders_of found)) where
    -- the district at hand is found by its oldest new order
    found_here : found_oldest rows p moment (get_or ds i d) (get_or os i o) ≡ found_district rows p moment (i + 1)
    found_here =
        let order : get_or os i o ≡ oldest rows p.warehouse (i + 1) =
        ap (λ xs. get_or xs i o) are ∙ get_or-map (oldest rows p.warehouse) ten i d o below ∙ ap (oldest rows p.warehouse) (district_at ten i d refl below) in
        ap (λ e. found_oldest rows p moment e (get_or os i o)) (district_at ds i d is below) ∙ ap (found_oldest rows p moment (i + 1)) order

    -- one district more
    pub district_found : (one : Option DeliveredOrder) → found_oldest rows p moment (get_or ds i d) (get_or os i o) ≡ Ok (option_map found_order_of one)
        → for_each (found_district rows p moment) (take (i + 1) ten) ≡ Ok (orders_of (found ++ one ∷ []))
    district_found one done =
        for_each_more (found_district rows p moment) ten i (i + 1) below (sym (district_at ten i (i + 1) refl below)) (option_map found_order_of) found one so_far (sym done ∙ found_here)

    -- the district that is refused
    pub district_refused : (why : RequestRefusal) → found_oldest rows p moment (get_or ds i d) (get_or os i o) ≡ Err why → districts_delivered rows p moment ten empty ≡ Err why
    district_refused why refused =
        ten_refused why (for_each_stop (found_district rows p moment) ten i (i + 1) below (sym (district_at ten i (i + 1) refl below)) (orders_of found) why so_far (sym refused ∙ found_here))

-- none is left to write
pub lines_end : (w d o : ℕ) (lines : List DatedLine) (changes made : Changes) → length lines ≡ 0 → lines_written w d o lines changes ≡ made → changes ≡ made
lines_end w d o [] changes made none leads = leads
lines_end w d o (line ∷ lines) changes made none leads = cc

pub orders_end : (w : ℕ) (orders : List (Option DeliveredOrder)) (changes made : Changes) → length orders ≡ 0 → orders_written w (orders_of orders) changes ≡ made → changes ≡ made
orders_end w [] changes made none leads = leads
orders_end w (order ∷ orders) changes made none leads = cc

-- one line and one order less to write
pub lines_step : (w d o : ℕ) (before left : List DatedLine) (line : DatedLine) (changes made : Changes) → before ≡ line ∷ left → lines_written w d o before changes ≡ made → lines_written w d o left (line_written w d o line changes) ≡ made
lines_step w d o before left line changes made is leads = sym (ap (λ lines. lines_written w d o lines changes) is) ∙ leads

pub orders_step : (w : ℕ) (before left : List (Option DeliveredOrder)) (found : Option DeliveredOrder) (changes made : Changes) → before ≡ found ∷ left → orders_written w (orders_of before) changes ≡ made
    → orders_written w (orders_of left) (oldest_written w (option_map found_order_of found) changes) ≡ made
orders_step w before left found changes made is leads = sym (ap (λ orders. orders_written w (orders_of orders) changes) is) ∙ leads

-- the outcome, where the changes are those of a delivery that isn't refused
pub outcome_is : (result : Result Delivered RequestRefusal) (answer : DeliveryReply) (changes made : Changes) → result ≡ Ok (record { reply = answer; changes = made }) → changes ≡ made
    → IsOutcome (delivery_outcome result) (reply.Delivery answer, changes)
outcome_is result answer changes made is same = record {
  reply = sym (ap (λ (r : Result Delivered RequestRefusal). (delivery_outcome r).reply) is);
  changes = same ∙ sym (ap (λ (r : Result Delivered RequestRefusal). (delivery_outcome r).changes) is);
}
