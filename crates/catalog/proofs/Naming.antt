-- The names of the customers of a catalog's cards, put in order.
use Rattle.std.proofs.Common.{◌≡◌, ℕ, suc, ◌+◌, ◌<◌, ◌≤◌, List, [], ◌∷◌, length, map, get_or, cond, Bool, true, T, refl, sym, ap, subst, ◌∙◌, inl, inr, arith}
use Rattle.std.specs.FinMap as finmap
use Rattle.std.specs.FinMap.{is_sorted}
use Rattle.std.specs.FinMap.Entries.{below_all}
use Rattle.std.specs.List.{count_by}
use Rattle.std.specs.List.Sorted.{IsPermutation, IsSorted}
use Rattle.std.specs.Ordering.{eq_by_cmp, is_lt}
use Rattle.std.specs.declared.cmp.Ordering.TheVariants.{Less}
use Rattle.std.proofs.lemmas.Bool.{cases_Bool}
use Rattle.std.proofs.lemmas.Cmp.{tied_itself}
use Rattle.std.proofs.lemmas.List.{get_or_default}
use Rattle.std.proofs.lemmas.List.Sorted.{sum_by-IsPermutation}
use Rattle.std.proofs.lemmas.List.Sums.{sum_by-cons}
use Rattle.tpcc_rows.specs.Places.{are_in_order}
use Rattle.tpcc_rows.proofs.Places.{entries-map_of, got, sorted as in_order-sorted}
use Rattle.tpcc_rows.proofs.Singles.{first, less, second}
use Rattle.catalog.specs.declared.card.Card.{Card}
use Rattle.catalog.specs.declared.card.Card.TheVariants as card
use Rattle.catalog.specs.declared.card.CardKey.{CardKey}
use Rattle.catalog.specs.declared.card.CardKey.TheVariants as key
use Rattle.catalog.specs.declared.card.CustomerCard.{CustomerCard}
use Rattle.catalog.specs.declared.last_names.NamedCustomer.{NamedCustomer}
use Rattle.catalog.specs.CardKinds.{card_key}
use Rattle.catalog.specs.CardMap.{AreKeyed, card_key_cmp, cards_in}
use Rattle.catalog.specs.LastNames.{customer_cards, customers_among}
use Rattle.catalog.specs.NameOrder.{AreInOrder, named, named_cmp}
use Rattle.catalog.proofs.CardKeys.{card_key_cmp_total, exact_cards}
use Rattle.catalog.proofs.Counts.{count_no, count_yes}
use Rattle.catalog.proofs.NameOrders.{exact_named, is_equal}

abbrev key_of : NamedCustomer → CardKey
key_of c = key.Customer c.warehouse c.district c.customer

-- the customer's own name
abbrev is_own : NamedCustomer → CustomerCard → Bool
is_own c x = eq_by_cmp named_cmp c (named x)

own_key : (c : NamedCustomer) (x : CustomerCard) → is_own c x ≡ true → key_of c ≡ card_key (card.Customer x)
own_key c x h = ap key_of (exact_named c (named x) (is_equal _ h))

-- each card stands at its own key
abbrev EachKeyed : List (CardKey × Card) → Type 0
EachKeyed es = (i : ℕ) (d : CardKey × Card) → i < length es → card_key (get_or es i d).1 ≡ (get_or es i d).0

rest_keyed : (e : CardKey × Card) (es : List (CardKey × Card)) → EachKeyed (e ∷ es) → EachKeyed es
rest_keyed e es each i d h = each (suc i) d (omega arith)

rest_above : (q : CardKey) (e : CardKey × Card) (es : List (CardKey × Card)) → T (below_all card_key_cmp q (e ∷ es)) → T (below_all card_key_cmp q es)
rest_above q e es h = second (is_lt (card_key_cmp q e.0)) (below_all card_key_cmp q es) h

rest_rising : (e : CardKey × Card) (es : List (CardKey × Card)) → T (is_sorted card_key_cmp (e ∷ es)) → T (is_sorted card_key_cmp es)
rest_rising e es h = second (below_all card_key_cmp e.0 es) (is_sorted card_key_cmp es) h

-- it comes in no entry of a greater key
none_above : (es : List (CardKey × Card)) (c : NamedCustomer) → T (below_all card_key_cmp (key_of c) es) → EachKeyed es → count_by (is_own c) (customers_among es) ≡ 0
none_above [] c above each = refl
none_above ((k, card.Customer x) ∷ es) c above each = elim (cases_Bool (is_own c x)) [
  | inl own ↦
      let same : key_of c ≡ k = own_key c x own ∙ each 0 (k, card.Customer x) (omega arith) in
      let above_itself : card_key_cmp k k ≡ Less = subst (λ q. card_key_cmp q k ≡ Less) same (less _ (first (is_lt (card_key_cmp (key_of c) k)) (below_all card_key_cmp (key_of c) es) above)) in
      let tie = tied_itself card_key_cmp_total k in
      cc
  | inr other ↦ count_no (is_own c) x (customers_among es) other ∙ none_above es c (rest_above (key_of c) (k, card.Customer x) es above) (rest_keyed _ es each)
]
none_above ((k, card.Warehouse x) ∷ es) c above each = none_above es c (rest_above (key_of c) (k, card.Warehouse x) es above) (rest_keyed _ es each)
none_above ((k, card.District x) ∷ es) c above each = none_above es c (rest_above (key_of c) (k, card.District x) es above) (rest_keyed _ es each)
none_above ((k, card.Stock x) ∷ es) c above each = none_above es c (rest_above (key_of c) (k, card.Stock x) es above) (rest_keyed _ es each)
none_above ((k, card.Item x) ∷ es) c above each = none_above es c (rest_above (key_of c) (k, card.Item x) es above) (rest_keyed _ es each)

-- and in one at most
one_own : (es : List (CardKey × Card)) (c : NamedCustomer) → T (is_sorted card_key_cmp es) → EachKeyed es → count_by (is_own c) (customers_among es) ≤ 1
one_own [] c rising each = omega arith
one_own ((k, card.Customer x) ∷ es) c rising each = elim (cases_Bool (is_own c x)) [
  | inl own ↦
      let same : key_of c ≡ k = own_key c x own ∙ each 0 (k, card.Customer x) (omega arith) in
      let one = count_yes (is_own c) x (customers_among es) own in
      let more = none_above es c (subst (λ q. T (below_all card_key_cmp q es)) (sym same) (first (below_all card_key_cmp k es) (is_sorted card_key_cmp es) rising)) (rest_keyed _ es each) in
      omega arith
  | inr other ↦
      let one = count_no (is_own c) x (customers_among es) other in
      let more = one_own es c (rest_rising (k, card.Customer x) es rising) (rest_keyed _ es each) in
      omega arith
]
one_own ((k, card.Warehouse x) ∷ es) c rising each = one_own es c (rest_rising (k, card.Warehouse x) es rising) (rest_keyed _ es each)
one_own ((k, card.District x) ∷ es) c rising each = one_own es c (rest_rising (k, card.District x) es rising) (rest_keyed _ es each)
one_own ((k, card.Stock x) ∷ es) c rising each = one_own es c (rest_rising (k, card.Stock x) es rising) (rest_keyed _ es each)
one_own ((k, card.Item x) ∷ es) c rising each = one_own es c (rest_rising (k, card.Item x) es rising) (rest_keyed _ es each)

count_by-map : (test : NamedCustomer → Bool) (xs : List CustomerCard) → count_by test (map named xs) ≡ count_by (λ x. test (named x)) xs
count_by-map test [] = refl
count_by-map test (x ∷ xs) =
    sum_by-cons (λ c. cond (test c) 1 0) (named x) (map named xs)
    ∙ ap (λ n. cond (test (named x)) 1 0 + n) (count_by-map test xs)
    ∙ sym (sum_by-cons (λ y. cond (test (named y)) 1 0) x xs)

-- the cards' names, sorted
pub in_order : (cards : List (CardKey × Card)) (items names : List NamedCustomer) → are_in_order card_key_cmp cards ≡ true → AreKeyed (cards_in cards) → items ≡ map named (customers_among cards) → IsPermutation items names → IsSorted named_cmp names
    → AreInOrder (customer_cards (cards_in cards)) names
in_order cards items names rising keyed all moved sorted =
    let whole : customers_among (finmap.entries (cards_in cards)) ≡ customers_among cards = ap customers_among (entries-map_of card_key_cmp cards rising) in
    let each : EachKeyed cards = λ i d h.
    let e = get_or cards i d in
    keyed e.0 e.1 (got card_key_cmp_total exact_cards cards e.0 i rising (h, λ f. ap (λ x. x.0) (get_or_default cards i f d h)) d) in
    let same : (test : NamedCustomer → Bool) → count_by test names ≡ count_by (λ c. test (named c)) (customer_cards (cards_in cards)) = λ test.
    sum_by-IsPermutation (λ c. cond (test c) 1 0) items names moved ∙ ap (count_by test) all ∙ count_by-map test (customers_among cards) ∙ sym (ap (count_by (λ c. test (named c))) whole) in
    record {
      sorted = sorted;
      same = same;
      once = λ c.
          let few = one_own cards c (in_order-sorted card_key_cmp cards rising) each in
          let alike = same (eq_by_cmp named_cmp c) ∙ ap (count_by (is_own c)) whole in
          omega arith;
    }
