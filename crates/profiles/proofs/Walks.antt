-- The orders of a district before a place of a batch, the nearest first: each tells where the one before it stands.
use Rattle.std.proofs.Common.{◌≡◌, ◌≤◌, ◌<◌, Bool, ℕ, zero, suc, cond, true, false, inl, inr, List, [], ◌∷◌, length, map, take, Some, slice_get, refl, sym, ap, ap₂, subst, ◌∙◌, arith}
use Rattle.std.proofs.lemmas.Bool.{cases_Bool}
use Rattle.std.proofs.lemmas.Bool.Decides.{nat_tests}
use Rattle.std.proofs.lemmas.List.{length-reverse, length-take}
use Rattle.catalog.specs.CardMap.{Cards}
use Rattle.requests.specs.declared.request.NewOrder.{NewOrder}
use Rattle.requests.specs.declared.request.Request.{Request}
use Rattle.requests.specs.declared.request.Request.TheVariants as request
use Rattle.requests.specs.declared.request.StockLevel.{StockLevel}
use Rattle.serializability.specs.Footprints.{Footprint, joined, joined_all, untouched}
use Rattle.tpcc_rows.specs.declared.granule.Granule.{Granule}
use Rattle.profiles.specs.Declarations.{earlier_touch, is_order_of, ordered_items_touch}
use Rattle.profiles.specs.Earlier.{before, known_of, last_order_of}
use Rattle.profiles.proofs.Counts.{before-more}
use Rattle.profiles.proofs.Declarations.{some-of, some_at}
use Rattle.profiles.proofs.Joining.{joined-joined}

pub length-before : (requests : List Request) (n : ℕ) → n ≤ length requests → length (before requests n) ≡ n
length-before requests n within = length-reverse (take n requests) ∙ omega (arith, length-take n requests, within)

pub last-most : (w d : ℕ) (qs : List Request) → last_order_of w d qs ≤ length qs
last-most w d [] = omega arith
last-most w d (q ∷ qs) = at (is_order_of w d q) (last-most w d qs)
  where
    at : (b : Bool) → last_order_of w d qs ≤ length qs → cond b (suc (length qs)) (last_order_of w d qs) ≤ suc (length qs)
    at true h = omega arith
    at false h = omega (arith, h)

module _ (cards : Cards) (p : StockLevel) where
  abbrev pub all_earlier : List Request → Footprint Granule
  all_earlier qs = joined_all (map (earlier_touch cards p) qs)

  -- a new order of the district knows where the one before it stands
  known_ours : (earlier : List Request) (q : Request) → is_order_of p.warehouse p.district q ≡ true → known_of earlier q ≡ last_order_of p.warehouse p.district earlier
  known_ours earlier (request.NewOrder order) ours =
      let w : order.warehouse ≡ p.warehouse = grind (arith, nat_tests, ours) in
      let d : order.district ≡ p.district = grind (arith, nat_tests, ours) in
      ap₂ (λ (v e : ℕ). last_order_of v e earlier) w d
  known_ours earlier (request.Payment _) ours = cc
  known_ours earlier (request.OrderStatus _) ours = cc
  known_ours earlier (request.Delivery _) ours = cc
  known_ours earlier (request.StockLevel _) ours = cc

  other_untouched : (q : Request) → is_order_of p.warehouse p.district q ≡ false → earlier_touch cards p q ≡ untouched
  other_untouched (request.NewOrder order) h = ap (λ b. cond b (ordered_items_touch cards p order) untouched) h
  other_untouched _ h = refl

  -- no order is left
  pub none_left : (qs : List Request) → last_order_of p.warehouse p.district qs ≡ 0 → all_earlier qs ≡ untouched
  none_left [] h = refl
  none_left (q ∷ qs) h = elim (cases_Bool (is_order_of p.warehouse p.district q)) [
    | inl t ↦ (let no : suc (length qs) ≡ 0 = sym (ap (λ b. cond b (suc (length qs)) (last_order_of p.warehouse p.district qs)) t) ∙ h in cc)
    | inr f ↦
        let rest : last_order_of p.warehouse p.district qs ≡ 0 = sym (ap (λ b. cond b (suc (length qs)) (last_order_of p.warehouse p.district qs)) f) ∙ h in
        ap (λ (e : Footprint Granule). joined e (all_earlier qs)) (other_untouched q f) ∙ none_left qs rest
  ]

  -- the place just below is that of the nearest order
  pub record IsNearest (requests : List Request) (n m : ℕ) : Type 0 where
    pub below : m < n
    pub order : Request
    pub there : slice_get requests m ≡ Some order
    pub ours : is_order_of p.warehouse p.district order ≡ true
    pub touch : all_earlier (before requests n) ≡ joined (earlier_touch cards p order) (all_earlier (before requests m))

  pub nearest : (requests : List Request) (n m : ℕ) → n ≤ length requests → suc m ≡ last_order_of p.warehouse p.district (before requests n) → IsNearest requests n m
  nearest requests zero m within h = cc
  nearest requests (suc k) m within h =
      let q = some_at requests k within in
      let one : before requests (suc k) ≡ q.0 ∷ before requests k = before-more requests k q.0 q.1 in
      let is : suc m ≡ cond (is_order_of p.warehouse p.district q.0) (suc (length (before requests k))) (last_order_of p.warehouse p.district (before requests k)) = h ∙ ap (last_order_of p.warehouse p.district) one in
      let touches : all_earlier (before requests (suc k)) ≡ joined (earlier_touch cards p q.0) (all_earlier (before requests k)) = ap all_earlier one in
      elim (cases_Bool (is_order_of p.warehouse p.district q.0)) [
        | inl t ↦
            let place : suc m ≡ suc (length (before requests k)) = is ∙ ap (λ b. cond b (suc (length (before requests k))) (last_order_of p.warehouse p.district (before requests k))) t in
            let long = length-before requests k (omega (arith, within)) in
            let same : k ≡ m = omega (arith, place, long) in
            record {
              below = omega (arith, same);
              order = q.0;
              there = subst (λ j. slice_get requests j ≡ Some q.0) same q.1;
              ours = t;
              touch = touches ∙ ap (λ j. joined (earlier_touch cards p q.0) (all_earlier (before requests j))) same;
            }
        | inr f ↦
            let rest = nearest requests k m (omega (arith, within)) (is ∙ ap (λ b. cond b (suc (length (before requests k))) (last_order_of p.warehouse p.district (before requests k))) f) in
            let below : m < k = rest.below in
            record {
              below = omega (arith, below);
              order = rest.order;
              there = rest.there;
              ours = rest.ours;
              touch = touches ∙ ap (λ (e : Footprint Granule). joined e (all_earlier (before requests k))) (other_untouched q.0 f) ∙ rest.touch;
            }
      ]

  -- what the nearest order knows, and where its items lead
  module _ (requests : List Request) (n m : ℕ) (within : n ≤ length requests) (last : suc m ≡ last_order_of p.warehouse p.district (before requests n)) (q : Request) (there : slice_get requests m ≡ Some q) where
    near : IsNearest requests n m
    near = nearest requests n m within last

    ours : is_order_of p.warehouse p.district q ≡ true
    ours = (let same : near.order ≡ q = some-of (sym near.there ∙ there) in subst (λ r. is_order_of p.warehouse p.district r ≡ true) same near.ours)

    pub nearest_below : m < n
    nearest_below = near.below

    pub nearest_known : known_of (before requests m) q ≡ last_order_of p.warehouse p.district (before requests m)
    nearest_known = known_ours (before requests m) q ours

    pub nearest_is_order : (order : NewOrder) × (q ≡ request.NewOrder order)
    nearest_is_order = at q ours
      where
        at : (r : Request) → is_order_of p.warehouse p.district r ≡ true → (order : NewOrder) × (r ≡ request.NewOrder order)
        at (request.NewOrder order) h = (order, refl)
        at _ h = cc

    pub nearest_touched : (order : NewOrder) → q ≡ request.NewOrder order → (so_far more total : Footprint Granule) → more ≡ joined so_far (ordered_items_touch cards p order)
        → joined so_far (all_earlier (before requests n)) ≡ total → joined more (all_earlier (before requests m)) ≡ total
    nearest_touched order is so_far more total one whole =
        let same : near.order ≡ request.NewOrder order = some-of (sym near.there ∙ there) ∙ is in
        let test : is_order_of p.warehouse p.district (request.NewOrder order) ≡ true = subst (λ r. is_order_of p.warehouse p.district r ≡ true) same near.ours in
        let touch : earlier_touch cards p near.order ≡ ordered_items_touch cards p order = ap (earlier_touch cards p) same ∙ ap (λ b. cond b (ordered_items_touch cards p order) untouched) test in
        let rest = all_earlier (before requests m) in
        ap (λ (e : Footprint Granule). joined e rest) one ∙ joined-joined so_far (ordered_items_touch cards p order) rest
        ∙ ap (λ (e : Footprint Granule). joined so_far (joined e rest)) (sym touch) ∙ ap (joined so_far) (sym near.touch) ∙ whole
