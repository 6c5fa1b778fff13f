-- The counts of the requests so far, when one more is counted.
use Rattle.std.proofs.Common.{◌≡◌, ◌≤◌, ◌<◌, ◌+◌, ◌*◌, ◌++◌, ◌==◌, ◌&&◌, Bool, ℕ, zero, suc, cond, true, false, inl, inr, List, [], ◌∷◌, length, get_or, set, reverse, take, Some, slice_get, sym, ap, subst, subst₂, ◌∙◌, add-one, arith}
use Rattle.std.specs.List.{filter}
use Rattle.std.proofs.lemmas.Bool.{cases_Bool, cases_eq, eq-eqb, ne_eqb}
use Rattle.std.proofs.lemmas.Bool.Decides.{nat_tests}
use Rattle.std.proofs.lemmas.List.{get_or-set_same, get_or-set_other, reverse-append}
use Rattle.requests.specs.declared.request.Delivery.{Delivery}
use Rattle.requests.specs.declared.request.NewOrder.{NewOrder}
use Rattle.requests.specs.declared.request.Request.{Request}
use Rattle.requests.specs.declared.request.Request.TheVariants as request
use Rattle.tpcc_rows.specs.Limits.{IsBetween}
use Rattle.profiles.specs.Declarations.{deliveries_of, is_delivery_of}
use Rattle.profiles.specs.Earlier.{AreCounts, before, last_order_of}
use Rattle.profiles.proofs.Declarations.{some-of}

-- the first requests, and one more
take-more : {A : Type 0} (xs : List A) (n : ℕ) (x : A) → slice_get xs n ≡ Some x → take (suc n) xs ≡ take n xs ++ (x ∷ [])
take-more [] n x h = cc
take-more (y ∷ ys) zero x h = ap (λ z. z ∷ []) (some-of h)
take-more (y ∷ ys) (suc n) x h = ap (λ zs. y ∷ zs) (take-more ys n x h)

pub before-more : (requests : List Request) (n : ℕ) (q : Request) → slice_get requests n ≡ Some q → before requests (suc n) ≡ q ∷ before requests n
before-more requests n q h = ap reverse (take-more requests n q h) ∙ reverse-append (take n requests) (q ∷ [])

-- ---- deliveries
pub deliveries-most : (w : ℕ) (qs : List Request) → deliveries_of w qs ≤ length qs
deliveries-most w [] = omega arith
deliveries-most w (q ∷ qs) = at (is_delivery_of w q) (deliveries-most w qs)
  where
    at : (b : Bool) → deliveries_of w qs ≤ length qs → length (cond b (q ∷ filter (is_delivery_of w) qs) (filter (is_delivery_of w) qs)) ≤ suc (length qs)
    at true h = omega (arith, h)
    at false h = omega (arith, h)

pub delivery-counted : (ds os : List ℕ) (earlier : List Request) (p : Delivery) (n : ℕ) → p.warehouse < length ds → AreCounts ds os earlier → n ≡ deliveries_of p.warehouse earlier + 1
    → AreCounts (set ds p.warehouse n) os (request.Delivery p ∷ earlier)
delivery-counted ds os earlier p n there counts more = record {
  deliveries = λ w range. elim (cases_eq w p.warehouse) [
    | inl e ↦
        ap (λ k. get_or (set ds p.warehouse n) k 0) e ∙ get_or-set_same ds p.warehouse n 0 there ∙ more ∙ add-one (deliveries_of p.warehouse earlier)
        ∙ ap (λ k. suc (deliveries_of k earlier)) (sym e)
        ∙ sym (ap (λ b. length (cond b (request.Delivery p ∷ filter (is_delivery_of w) earlier) (filter (is_delivery_of w) earlier))) (eq-eqb p.warehouse w (sym e)))
    | inr e ↦
        get_or-set_other ds p.warehouse w n 0 e ∙ counts.deliveries w range
        ∙ sym (ap (λ b. length (cond b (request.Delivery p ∷ filter (is_delivery_of w) earlier) (filter (is_delivery_of w) earlier))) (ne_eqb p.warehouse w (λ same. e (sym same))))
  ];
  orders = counts.orders;
}

-- ---- new orders
pub order-counted : (ds os : List ℕ) (earlier : List Request) (p : NewOrder) (n : ℕ) → p.warehouse * 10 + p.district < length os → IsBetween 1 10 p.district → AreCounts ds os earlier → n ≡ length earlier + 1
    → AreCounts ds (set os (p.warehouse * 10 + p.district) n) (request.NewOrder p ∷ earlier)
order-counted ds os earlier p n there small counts more =
    let at = p.warehouse * 10 + p.district in
    let low : 1 ≤ p.district = small.0 in
    let high : p.district ≤ 10 = small.1 in
    record {
      deliveries = counts.deliveries;
      orders = λ w d w_range d_range. elim (cases_eq (w * 10 + d) at) [
        | inl e ↦
            let d_low : 1 ≤ d = d_range.0 in
            let d_high : d ≤ 10 = d_range.1 in
            let same_w : p.warehouse ≡ w = omega (arith, e, low, high, d_low, d_high) in
            let same_d : p.district ≡ d = omega (arith, e, low, high, d_low, d_high) in
            let both : (p.warehouse == w && p.district == d) ≡ true = grind (arith, nat_tests, same_w, same_d) in
            ap (λ k. get_or (set os at n) k 0) e ∙ get_or-set_same os at n 0 there ∙ more ∙ add-one (length earlier)
            ∙ sym (ap (λ b. cond b (suc (length earlier)) (last_order_of w d earlier)) both)
        | inr e ↦
            let apart : (p.warehouse == w && p.district == d) ≡ false = elim (cases_Bool (p.warehouse == w && p.district == d)) [
              | inl t ↦ (let a : p.warehouse ≡ w = grind (arith, nat_tests, t) in let b : p.district ≡ d = grind (arith, nat_tests, t) in absurd (e (omega (arith, a, b))))
              | inr f ↦ f
            ] in
            get_or-set_other os at (w * 10 + d) n 0 e ∙ counts.orders w d w_range d_range
            ∙ sym (ap (λ b. cond b (suc (length earlier)) (last_order_of w d earlier)) apart)
      ];
    }

-- ---- either of them, where it is the request that is counted
pub counted-delivery : (ds os : List ℕ) (earlier : List Request) (p : Delivery) (q : Request) (k n : ℕ) → k ≡ p.warehouse → q ≡ request.Delivery p → k < length ds → AreCounts ds os earlier → n ≡ deliveries_of p.warehouse earlier + 1
    → AreCounts (set ds k n) os (q ∷ earlier)
counted-delivery ds os earlier p q k n at is there counts more =
    subst₂ (λ (j : ℕ) (r : Request). AreCounts (set ds j n) os (r ∷ earlier)) (sym at) (sym is) (delivery-counted ds os earlier p n (subst (λ j. j < length ds) at there) counts more)

pub counted-order : (ds os : List ℕ) (earlier : List Request) (p : NewOrder) (q : Request) (k n : ℕ) → k ≡ p.warehouse * 10 + p.district → q ≡ request.NewOrder p → k < length os → IsBetween 1 10 p.district → AreCounts ds os earlier → n ≡ length earlier + 1
    → AreCounts ds (set os k n) (q ∷ earlier)
counted-order ds os earlier p q k n at is there small counts more =
    subst₂ (λ (j : ℕ) (r : Request). AreCounts ds (set os j n) (r ∷ earlier)) (sym at) (sym is) (order-counted ds os earlier p n (subst (λ j. j < length os) at there) small counts more)
