-- The orders of a rank's district after a change at the rank, and what is kept of their last ones.
use Rattle.std.proofs.Common.{◌≡◌, ◌≤◌, ◌<◌, ◌+◌, ◌-◌, ℕ, suc, Bool, true, false, cond, eqb, T, List, [], ◌∷◌, ◌++◌, length, set, slice_index_or, take, Option, Some, None, Ok, Err, is_some, inl, inr, refl, sym, ap, subst, ◌∙◌, arith, append-nil}
use Rattle.std.specs.Prelude.{option_map, unwrap_or}
use Rattle.std.specs.FinMap as map
use Rattle.std.specs.FinMap.{entries, entries_sorted, get, get-empty, is_sorted, get-entries, get-from_sorted, insert, len-entries, len-insert, len-remove, remove, same_map}
use Rattle.std.specs.FinMap.Entries.{same_entries}
use Rattle.std.specs.List as list
use Rattle.std.specs.Ordering.{eq_by_cmp, nat_cmp}
use Rattle.std.proofs.Math.Seq.{get_or-append_seam}
use Rattle.std.proofs.lemmas.Bool.{cases_Bool, cases_lt, eqb-true, eqb-false}
use Rattle.std.proofs.lemmas.List.{drop_all, get_or_append_left, get_or-set_same, get_or-set_other, length-map, length-set, map-append, take_all, take_more}
use Rattle.std.proofs.lemmas.List.Edits.{insert_end}
use Rattle.serializability.specs.Changes.{changed}
use Rattle.serializability.proofs.Changes.{get-changed}
use Rattle.tpcc_rows.proofs.Places as places
use Rattle.tpcc_rows.proofs.Singles.{tied}
use Rattle.tpcc_rows.specs.Places.{IsPlaceOf, are_in_order}
use Rattle.tpcc_rows.specs.declared.row.OrderRow.{OrderRow}
use Rattle.tables.specs.declared.keys.TheConstants.{PLACES}
use Rattle.tables.specs.declared.last_orders.LastOrders.{LastOrders}
use Rattle.tables.specs.ByRank.{ByRank}
use Rattle.tables.specs.LastOrders.{AreLastOrders, AreLinked, AreLinkedAt, HasPlaces, orders_of, owners}
use Rattle.tables.specs.Shelves.{place_of, rows_at}
use Rattle.tables.proofs.Each.{find-each, sorted-each}
use Rattle.tables.proofs.Grouped.{no-rows, same-number}
use Rattle.tables.proofs.Shelved.{get-rows_at, other_place}
use Rattle.tables.proofs.Tables.{rank_total, exact_ranks, table_of}

holds : (b : Bool) → T b → b ≡ true
holds true h = refl
holds false h = absurd h

module _ {X : Type 0} where
  -- ---- the rows of the rank's place
  chosen : (b : Bool) (c o : Option X) → cond true (cond b c o) None ≡ cond b c (cond true o None)
  chosen true c o = refl
  chosen false c o = refl

  pub rows-changed : (m : ByRank X) (k : ℕ) (c : Option X) → rows_at place_of (changed m k c) (place_of k) ≡ changed (rows_at place_of m (place_of k)) k c
  rows-changed m k c = same_map rank_total exact_ranks _ _ (λ q.
      get-rows_at place_of (changed m k c) (place_of k) q
      ∙ ap (λ o. cond (eqb (place_of q) (place_of k)) o None) (get-changed rank_total exact_ranks m k c q)
      ∙ at q
      ∙ ap (cond (eq_by_cmp nat_cmp q k) c) (sym (get-rows_at place_of m (place_of k) q))
      ∙ sym (get-changed rank_total exact_ranks (rows_at place_of m (place_of k)) k c q))
    where
      at : (q : ℕ) → cond (eqb (place_of q) (place_of k)) (cond (eq_by_cmp nat_cmp q k) c (get m q)) None
          ≡ cond (eq_by_cmp nat_cmp q k) c (cond (eqb (place_of q) (place_of k)) (get m q) None)
      at q = elim (cases_Bool (eqb (place_of q) (place_of k))) [
        | inl same ↦
            ap (λ b. cond b (cond (eq_by_cmp nat_cmp q k) c (get m q)) None) same ∙ chosen (eq_by_cmp nat_cmp q k) c (get m q)
            ∙ ap (λ b. cond (eq_by_cmp nat_cmp q k) c (cond b (get m q) None)) (sym same)
        | inr apart ↦
            ap (λ b. cond b (cond (eq_by_cmp nat_cmp q k) c (get m q)) None) apart
            ∙ ap (λ b. cond b c None) (sym (other_place place_of q k apart))
            ∙ ap (λ b. cond (eq_by_cmp nat_cmp q k) c (cond b (get m q) None)) (sym apart)
      ]

  pub rows-elsewhere : (m : ByRank X) (k : ℕ) (c : Option X) (n : ℕ) → eqb n (place_of k) ≡ false → rows_at place_of (changed m k c) n ≡ rows_at place_of m n
  rows-elsewhere m k c n other = same_map rank_total exact_ranks _ _ (λ q.
      get-rows_at place_of (changed m k c) n q
      ∙ ap (λ o. cond (eqb (place_of q) n) o None) (get-changed rank_total exact_ranks m k c q)
      ∙ at q
      ∙ sym (get-rows_at place_of m n q))
    where
      at : (q : ℕ) → cond (eqb (place_of q) n) (cond (eq_by_cmp nat_cmp q k) c (get m q)) None ≡ cond (eqb (place_of q) n) (get m q) None
      at q = elim (cases_Bool (eqb (place_of q) n)) [
        | inl same ↦
            let q_at : place_of q ≡ n = eqb-true (place_of q) n same in
            let apart : eqb (place_of q) (place_of k) ≡ false = ap (λ p. eqb p (place_of k)) q_at ∙ other in
            ap (λ b. cond (eqb (place_of q) n) (cond b c (get m q)) None) (other_place place_of q k apart)
        | inr apart ↦ ap (λ b. cond b (cond (eq_by_cmp nat_cmp q k) c (get m q)) None) apart ∙ ap (λ b. cond b (get m q) None) (sym apart)
      ]

  pub get-own : (m : ByRank X) (k : ℕ) → get (rows_at place_of m (place_of k)) k ≡ get m k
  get-own m k = get-rows_at place_of m (place_of k) k ∙ ap (λ b. cond b (get m k) None) (same-number (place_of k))

  -- ---- the entries of a table
  module _ (t : ByRank X) where
    pub in-order : are_in_order nat_cmp (entries t) ≡ true
    in-order = holds _ (entries_sorted t)

    whole : table_of (entries t) ≡ t
    whole = same_map rank_total exact_ranks _ _ (λ q. get-from_sorted nat_cmp (entries t) q (entries_sorted t) ∙ sym (get-entries t q))

    pub none-behind : (k i : ℕ) → IsPlaceOf nat_cmp k (entries t) (Err i) → get t k ≡ None
    none-behind k i absent = ap (λ (x : ByRank X). get x k) (sym whole) ∙ places.got-none rank_total exact_ranks (entries t) k i in-order absent

    pub entries-behind : (k : ℕ) (x : X) → IsPlaceOf nat_cmp k (entries t) (Err (length (entries t))) → entries (insert t k x) ≡ entries t ++ (k, x) ∷ []
    entries-behind k x absent =
        let es = entries t in
        let h = in-order in
        ap (λ (u : ByRank X). entries (insert u k x)) (sym whole)
        ∙ ap (λ u. entries u) (sym (places.map_of-inserted rank_total exact_ranks es k (length es) h absent x))
        ∙ places.entries-map_of nat_cmp (list.insert es (length es) (k, x)) (places.in_order-inserted rank_total exact_ranks es k (length es) h absent x)
        ∙ insert_end es (k, x)

    module _ (k : ℕ) (x : X) (there : IsPlaceOf nat_cmp k (entries t) (Ok (length (entries t) - 1))) (got : get t k ≡ Some x) where
      entries-removed : entries (remove t k) ≡ list.remove (entries t) (length (entries t) - 1)
      entries-removed =
          ap (λ (u : ByRank X). entries (remove u k)) (sym whole)
          ∙ ap (λ u. entries u) (sym (places.map_of-removed rank_total exact_ranks (entries t) k (length (entries t) - 1) in-order there))
          ∙ places.entries-map_of nat_cmp (list.remove (entries t) (length (entries t) - 1)) (places.in_order-removed rank_total exact_ranks (entries t) k (length (entries t) - 1) in-order there)

      pub entries-last : entries t ≡ entries (remove t k) ++ (k, x) ∷ []
      entries-last =
          let es = entries t in
          let i = length es - 1 in
          let few : i < length es = there.0 in
          let key : (slice_index_or es i (k, x)).0 ≡ k = there.1 (k, x) in
          let some : Some (slice_index_or es i (k, x)).1 ≡ Some x =
          sym (places.got rank_total exact_ranks es k i in-order there (k, x)) ∙ ap (λ (u : ByRank X). get u k) whole ∙ got in
          let value : (slice_index_or es i (k, x)).1 ≡ x = cc in
          let entry : slice_index_or es i (k, x) ≡ (k, x) = ap (λ r. (r, (slice_index_or es i (k, x)).1)) key ∙ ap (λ y. (k, y)) value in
          let rest : entries (remove t k) ≡ take i es = entries-removed ∙ ap (λ xs. take i es ++ xs) (drop_all (suc i) es (omega (arith, few))) ∙ append-nil (take i es) in
          sym (take_all (i + 1) es (omega (arith, few))) ∙ take_more es i (k, x) few ∙ ap (λ e. take i es ++ e ∷ []) entry ∙ ap (λ xs. xs ++ (k, x) ∷ []) (sym rest)

    one-more-at-most : (b : Bool) (n : ℕ) → cond b n (n + 1) ≤ n + 1
    one-more-at-most true n = omega arith
    one-more-at-most false n = omega arith

    one-fewer-at-least : (b : Bool) (n : ℕ) → cond b (n - 1) n ≤ n
    one-fewer-at-least true n = omega arith
    one-fewer-at-least false n = omega arith

    pub length-put : (k : ℕ) (x : X) → length (entries (insert t k x)) ≤ length (entries t) + 1
    length-put k x =
        subst (λ n. n ≤ length (entries t) + 1)
        (sym (sym (len-entries (insert t k x)) ∙ len-insert rank_total t k x ∙ ap (λ n. cond (is_some (get t k)) n (n + 1)) (len-entries t)))
        (one-more-at-most (is_some (get t k)) (length (entries t)))

    pub length-replaced : (k : ℕ) (x : X) → is_some (get t k) ≡ true → length (entries (insert t k x)) ≡ length (entries t)
    length-replaced k x there = sym (len-entries (insert t k x)) ∙ len-insert rank_total t k x ∙ ap (λ b. cond b (map.len t) (map.len t + 1)) there ∙ len-entries t

    pub length-removed : (k : ℕ) → length (entries (remove t k)) ≤ length (entries t)
    length-removed k =
        subst (λ n. n ≤ length (entries t))
        (sym (sym (len-entries (remove t k)) ∙ len-remove rank_total t k ∙ ap (λ n. cond (is_some (get t k)) (n - 1) n) (len-entries t)))
        (one-fewer-at-least (is_some (get t k)) (length (entries t)))

-- ---- a rank without an order
either_none : (b : Bool) (o : Option OrderRow) → (b ≡ true → o ≡ None) → cond b None o ≡ o
either_none true o h = sym (h refl)
either_none false o h = refl

pub nothing-removed : (m : ByRank OrderRow) (k : ℕ) → get m k ≡ None → remove m k ≡ m
nothing-removed m k none = same_map rank_total exact_ranks _ _ (λ q.
    get-changed rank_total exact_ranks m k None q
    ∙ either_none (eq_by_cmp nat_cmp q k) (get m q) (λ ties. ap (get m) (exact_ranks q k (tied _ ties)) ∙ none))

-- the order that was found
pub what-was : (o : Option OrderRow) (d x : OrderRow) → is_some o ≡ true → x ≡ unwrap_or o d → o ≡ Some x
what-was None d x some is = (let no : false ≡ true = some in cc)
what-was (Some y) d x some is = ap (λ (z : OrderRow). Some z) (sym is)

-- ---- the owners of the orders of a rank's district
abbrev customer : OrderRow → ℕ
customer x = x.customer

sorted-owners : (t : ByRank OrderRow) → T (is_sorted nat_cmp (owners (entries t)))
sorted-owners t = subst T (sym (sorted-each customer (entries t))) (entries_sorted t)

owners-replaced : (t : ByRank OrderRow) (k : ℕ) (x y : OrderRow) → get t k ≡ Some y → y.customer ≡ x.customer → owners (entries (insert t k x)) ≡ owners (entries t)
owners-replaced t k x y got same = same_entries nat_cmp rank_total exact_ranks _ _ (sorted-owners (insert t k x)) (sorted-owners t) (λ q.
    find-each customer (entries (insert t k x)) q
    ∙ ap (option_map customer) (sym (get-entries (insert t k x) q) ∙ get-changed rank_total exact_ranks t k (Some x) q)
    ∙ at q
    ∙ ap (option_map customer) (get-entries t q)
    ∙ sym (find-each customer (entries t) q))
  where
    at : (q : ℕ) → option_map customer (cond (eq_by_cmp nat_cmp q k) (Some x) (get t q)) ≡ option_map customer (get t q)
    at q = elim (cases_Bool (eq_by_cmp nat_cmp q k)) [
      | inl ties ↦
          ap (λ b. option_map customer (cond b (Some x) (get t q))) ties
          ∙ ap (λ (n : ℕ). Some n) (sym same)
          ∙ ap (option_map customer) (sym (ap (get t) (exact_ranks q k (tied _ ties)) ∙ got))
      | inr apart ↦ ap (λ b. option_map customer (cond b (Some x) (get t q))) apart
    ]

pub has-fewer : (kept : LastOrders) (n m : ℕ) → HasPlaces kept n → m ≤ n → HasPlaces kept m
has-fewer kept n m h less = record { orders = (let most = h.orders in omega (arith, most, less)); customers = λ some. h.customers (omega (arith, some, less)) }

module _ (m : ByRank OrderRow) (k : ℕ) where
  count : length (owners (orders_of m k)) ≡ length (orders_of m k)
  count = length-map (orders_of m k) (λ (e : ℕ × OrderRow). (e.0, e.1.customer))

  pub owners-behind : (x : OrderRow) → IsPlaceOf nat_cmp k (orders_of m k) (Err (length (orders_of m k))) → owners (orders_of (insert m k x) k) ≡ owners (orders_of m k) ++ (k, x.customer) ∷ []
  owners-behind x behind =
      ap (λ t. owners (entries t)) (rows-changed m k (Some x)) ∙ ap (λ xs. owners xs) (entries-behind (rows_at place_of m (place_of k)) k x behind)
      ∙ map-append (λ (e : ℕ × OrderRow). (e.0, e.1.customer)) (orders_of m k) ((k, x) ∷ [])

  pub none-there : (i : ℕ) → IsPlaceOf nat_cmp k (orders_of m k) (Err i) → get m k ≡ None
  none-there i absent = sym (get-own m k) ∙ none-behind (rows_at place_of m (place_of k)) k i absent

  pub owners-last : (x : OrderRow) → IsPlaceOf nat_cmp k (orders_of m k) (Ok (length (orders_of m k) - 1)) → get m k ≡ Some x
      → owners (orders_of m k) ≡ owners (orders_of (remove m k) k) ++ (k, x.customer) ∷ []
  owners-last x there got =
      ap (λ xs. owners xs) (entries-last (rows_at place_of m (place_of k)) k x there (get-own m k ∙ got))
      ∙ map-append (λ (e : ℕ × OrderRow). (e.0, e.1.customer)) (entries (remove (rows_at place_of m (place_of k)) k)) ((k, x) ∷ [])
      ∙ ap (λ t. owners (entries t) ++ (k, x.customer) ∷ []) (sym (rows-changed m k None))

  pub owners-same : (x y : OrderRow) → get m k ≡ Some y → y.customer ≡ x.customer → owners (orders_of (insert m k x) k) ≡ owners (orders_of m k)
  owners-same x y got same = ap (λ t. owners (entries t)) (rows-changed m k (Some x)) ∙ owners-replaced (rows_at place_of m (place_of k)) k x y (get-own m k ∙ got) same

  -- places enough after a change
  module _ (kept : LastOrders) (h : AreLinkedAt m k kept) where
    pub places-replaced : (x : OrderRow) → is_some (get m k) ≡ true → HasPlaces kept (length (orders_of (insert m k x) k))
    places-replaced x there =
        let same : length (orders_of (insert m k x) k) ≡ length (orders_of m k) =
        ap (λ t. length (entries t)) (rows-changed m k (Some x)) ∙ length-replaced (rows_at place_of m (place_of k)) k x (ap is_some (get-own m k) ∙ there) in
        subst (HasPlaces kept) (count ∙ sym same) h.places

    pub places-removed : HasPlaces kept (length (orders_of (remove m k) k))
    places-removed =
        let fewer : length (orders_of (remove m k) k) ≤ length (orders_of m k) =
        subst (λ t. length (entries t) ≤ length (orders_of m k)) (sym (rows-changed m k None)) (length-removed (rows_at place_of m (place_of k)) k) in
        has-fewer kept (length (owners (orders_of m k))) _ h.places (omega (arith, fewer, count))

    pub places-put : (longer : LastOrders) (x : OrderRow) → ((n : ℕ) → HasPlaces kept n → HasPlaces longer (n + 1)) → HasPlaces longer (length (orders_of (insert m k x) k))
    places-put longer x one =
        let most : length (orders_of (insert m k x) k) ≤ length (orders_of m k) + 1 =
        subst (λ t. length (entries t) ≤ length (orders_of m k) + 1) (sym (rows-changed m k (Some x))) (length-put (rows_at place_of m (place_of k)) k x) in
        has-fewer longer (length (owners (orders_of m k)) + 1) _ (one (length (owners (orders_of m k))) h.places) (omega (arith, most, count))

    pub places-kept : (longer : LastOrders) → ((n : ℕ) → HasPlaces kept n → HasPlaces longer (n + 1)) → HasPlaces longer (length (orders_of m k))
    places-kept longer one = has-fewer longer (length (owners (orders_of m k)) + 1) _ (one (length (owners (orders_of m k))) h.places) (omega (arith, count))

-- ---- the other districts
-- at other places the rows are the same
pub record IsElsewhere (m new : ByRank OrderRow) (k : ℕ) : Type 0 where
  pub same : (p : ℕ) → eqb p (place_of k) ≡ false → rows_at place_of new p ≡ rows_at place_of m p

pub elsewhere-changed : (m new : ByRank OrderRow) (k : ℕ) (c : Option OrderRow) → new ≡ changed m k c → IsElsewhere m new k
elsewhere-changed m new k c is = record { same = λ p other. ap (λ t. rows_at place_of t p) is ∙ rows-elsewhere m k c p other }

pub elsewhere-same : (m new : ByRank OrderRow) (k : ℕ) → new ≡ m → IsElsewhere m new k
elsewhere-same m new k is = record { same = λ p other. ap (λ t. rows_at place_of t p) is }

pub elsewhere-either : (m new : ByRank OrderRow) (k : ℕ) (x : OrderRow) (b : Bool) → new ≡ cond b (insert m k x) m → IsElsewhere m new k
elsewhere-either m new k x true is = elsewhere-changed m new k (Some x) is
elsewhere-either m new k x false is = elsewhere-same m new k is

module _ (m : ByRank OrderRow) (kept : List LastOrders) (k n : ℕ) (h : AreLastOrders m kept) (at : n ≡ place_of k) (small : n < PLACES) where
  pub linked-at : (old : LastOrders) → old ≡ slice_index_or kept n old → AreLinkedAt m k old
  linked-at old here =
      subst (λ j. AreLinked old (owners (entries (rows_at place_of m j)))) at
      (subst (λ (x : LastOrders). AreLinked x (owners (entries (rows_at place_of m n)))) (sym here) (h.linked n old small))

  pub linked-set : (new : ByRank OrderRow) (after : LastOrders) → IsElsewhere m new k → AreLinkedAt new k after → AreLastOrders new (set kept n after)
  linked-set new after elsewhere linked = record {
    full = length-set kept n after ∙ h.full;
    linked = λ p d few. elim (cases_Bool (eqb p (place_of k))) [
      | inl here ↦
          let is : p ≡ place_of k = eqb-true p (place_of k) here in
          let room : n < length kept = subst (λ l. n < l) (sym h.full) small in
          let got : slice_index_or (set kept n after) p d ≡ after = ap (λ j. slice_index_or (set kept n after) j d) (is ∙ sym at) ∙ get_or-set_same kept n after d room in
          subst (λ (x : LastOrders). AreLinked x (owners (entries (rows_at place_of new p)))) (sym got) (subst (λ j. AreLinked after (owners (entries (rows_at place_of new j)))) (sym is) linked)
      | inr other ↦
          let got : slice_index_or (set kept n after) p d ≡ slice_index_or kept p d = get_or-set_other kept n p after d (λ e. eqb-false p (place_of k) other (e ∙ at)) in
          subst (λ (x : LastOrders). AreLinked x (owners (entries (rows_at place_of new p)))) (sym got)
          (subst (λ t. AreLinked (slice_index_or kept p d) (owners (entries t))) (sym (elsewhere.same p other)) (h.linked p d few))
    ];
  }

-- ---- no orders
pub linked-more : (xs : List LastOrders) (y : LastOrders) (n : ℕ) → length xs ≡ n → ((p : ℕ) (d : LastOrders) → p < n → AreLinked (slice_index_or xs p d) []) → AreLinked y []
    → (p : ℕ) (d : LastOrders) → p < n + 1 → AreLinked (slice_index_or (xs ++ y ∷ []) p d) []
linked-more xs y n is h new p d few = elim (cases_lt p n) [
  | inl earlier ↦ subst (λ (x : LastOrders). AreLinked x []) (sym (get_or_append_left xs (y ∷ []) d p (omega (arith, is, earlier)))) (h p d earlier)
  | inr last ↦
      let same : p ≡ length xs = omega (arith, is, last, few) in
      subst (λ (x : LastOrders). AreLinked x []) (sym (ap (λ j. slice_index_or (xs ++ y ∷ []) j d) same ∙ get_or-append_seam xs y [] d)) new
]

either_no : {X : Type 0} (b : Bool) → cond {A = Option X} b None None ≡ None
either_no true = refl
either_no false = refl

no-orders : (p : ℕ) → entries (rows_at place_of (map.empty {X = OrderRow} {R = nat_cmp}) p) ≡ []
no-orders p =
    ap (λ (t : ByRank OrderRow). entries t)
    (same_map rank_total exact_ranks (rows_at place_of map.empty p) map.empty
    (λ q. get-rows_at place_of map.empty p q ∙ ap (λ o. cond (eqb (place_of q) p) o None) (get-empty nat_cmp q) ∙ either_no (eqb (place_of q) p) ∙ sym (get-empty nat_cmp q)))
    ∙ sym no-rows

pub linked-none : (m : ByRank OrderRow) (kept : List LastOrders) → m ≡ map.empty → length kept ≡ PLACES → ((p : ℕ) (d : LastOrders) → p < PLACES → AreLinked (slice_index_or kept p d) []) → AreLastOrders m kept
linked-none m kept none full h = record {
  full = full;
  linked = λ p d few. subst (λ es. AreLinked (slice_index_or kept p d) (owners es)) (sym (ap (λ (t : ByRank OrderRow). entries (rows_at place_of t p)) none ∙ no-orders p)) (h p d few);
}
