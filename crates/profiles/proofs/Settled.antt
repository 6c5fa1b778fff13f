-- A settled request stays within what it touches by the cards.
use Rattle.std.proofs.Common.{◌≡◌, ℕ, true, false, not, List, [], ◌∷◌, inl, inr, refl, sym, ap, subst}
use Rattle.std.proofs.lemmas.Bool.{and_from}
use Rattle.catalog.specs.CardMap.{Cards}
use Rattle.requests.specs.declared.request.Request.{Request}
use Rattle.requests.specs.declared.request.Request.TheVariants as request
use Rattle.serializability.specs.Footprints.{Footprint, Has, among, within}
use Rattle.serializability.specs.Levels.{job_strays}
use Rattle.serializability.proofs.Footprints.{list_any-Has}
use Rattle.tpcc_model.specs.Machine.{tpcc}
use Rattle.tpcc_model.specs.Touches.{new_order_touch, order_status_touch, payment_touch, touch}
use Rattle.tpcc_rows.specs.Granules.{same_granule}
use Rattle.tpcc_rows.specs.RowMap.{Rows}
use Rattle.tpcc_rows.specs.declared.granule.Granule.{Granule}
use Rattle.tpcc_rows.proofs.Footprints.{same_granule-Decides}
use Rattle.profiles.specs.Settled.{SettledTouchesAreByCards, is_settled, touch_by_cards}

pub settled_touches : SettledTouchesAreByCards
unfolding touch new_order_touch payment_touch order_status_touch
settled_touches cards rows (request.NewOrder p) settled = refl
settled_touches cards rows (request.Payment p) settled = refl
settled_touches cards rows (request.OrderStatus p) settled = refl
settled_touches cards rows (request.Delivery p) settled = cc
settled_touches cards rows (request.StockLevel p) settled = cc

-- it stays within what it touches by the cards
pub among_those : (gs hs : List Granule) → ((g : Granule) → Has gs g → Has hs g) → among same_granule gs hs ≡ true
among_those [] hs f = refl
among_those (x ∷ gs) hs f = and_from _ _ (list_any-Has (same_granule x) hs x (f x (inl refl)) ((same_granule-Decides x x).1 refl)) (among_those gs hs (λ g h. f g (inr h)))

pub settled_stays : (cards : Cards) (moment number : ℕ) (rows : Rows) (q : Request) → is_settled q ≡ true
    → job_strays (tpcc cards moment) rows (record { number = number; request = q; declared = touch_by_cards cards q }) ≡ false
settled_stays cards moment number rows q settled =
    let declared = touch_by_cards cards q in
    let inside : within same_granule declared declared ≡ true =
    and_from _ _ (among_those declared.reads declared.reads (λ g h. h)) (among_those declared.writes declared.writes (λ g h. h)) in
    ap not (subst (λ (f : Footprint Granule). within same_granule f declared ≡ true) (sym (settled_touches cards rows q settled)) inside)
