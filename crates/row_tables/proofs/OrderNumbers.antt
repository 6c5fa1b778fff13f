-- A customer's last order among those of its district.
use Rattle.std.proofs.Common.{◌≡◌, ◌≤◌, ◌<◌, ◌+◌, ◌*◌, ◌==◌, ◌&&◌, ℕ, Bool, true, cond, eqb, T, List, [], ◌∷◌, Option, Some, None, inl, inr, refl, sym, ap, subst, ◌∙◌, arith}
use Rattle.std.proofs.lemmas.Bool.{eqb-true, and_from, le-leb}
use Rattle.std.proofs.lemmas.Bool.Decides.{nat_tests}
use Rattle.std.specs.Option.{option_or}
use Rattle.std.specs.Ordering.{nat_cmp}
use Rattle.std.specs.Prelude.{if◌then◌else◌, option_and_then, option_map, unwrap_or}
use Rattle.std.specs.FinMap.{entries, entries_sorted, find, get, get-entries, is_sorted}
use Rattle.std.specs.FinMap.Entries.{below_all}
use Rattle.tpcc_rows.specs.Limits.{IsBetween, between}
use Rattle.tpcc_rows.specs.Picks.{greatest, larger, latest, order_pick, picked}
use Rattle.tpcc_rows.specs.declared.key.RowKey.{RowKey}
use Rattle.tpcc_rows.specs.declared.key.RowKey.TheVariants as key
use Rattle.tpcc_rows.specs.declared.row.OrderRow.{OrderRow}
use Rattle.tpcc_rows.specs.declared.row.Row.{Row}
use Rattle.tpcc_rows.specs.declared.row.Row.TheVariants as row
use Rattle.tpcc_rows.proofs.Picks.{Has, greatest-is, picked-row, row-picked}
use Rattle.tpcc_rows.proofs.Singles.{first, found_first, found_later, second}
use Rattle.tables.specs.Keys.{key_of, number_in, order_of}
use Rattle.tpcc_rows.specs.Ranks.{IsDistrict, IsNumbered, kind, rank}
use Rattle.tables.specs.LastOrders.{AreLinked, kept_for, last_of, owners}
use Rattle.tables.specs.Shelves.{place_of, rows_at}
use Rattle.tables.specs.declared.last_orders.LastOrders.{LastOrders}
use Rattle.tables.proofs.RankKeys.{kind-of}
use Rattle.tables.proofs.Each.{find-each, sorted-each}
use Rattle.tables.proofs.Shelved.{get-rows_at}
use Rattle.tables.proofs.Tables.{rank_total, exact_ranks}
use Rattle.row_tables.specs.Kinds.{table_of, table_of_kind}
use Rattle.row_tables.specs.LastOrders.{AreLastOf, AreLatest, as_orders, order_rows}
use Rattle.row_tables.specs.RankRows.{RankRows}
use Rattle.row_tables.specs.Stored.{AreKept, keyed}
use Rattle.row_tables.proofs.Counting.{found-above, found-here}
use Rattle.row_tables.proofs.Keyed.{get-keyed, is_key, rank-key, row-at, same_key, table-at}
use Rattle.row_tables.proofs.NewNumbers.{both-pass, number-of, one-passes, place-of, same-number}

or-none : {A : Type 0} (a b : Option A) → option_or a b ≡ None → (a ≡ None) × (b ≡ None)
or-none None b h = (refl, h)
or-none (Some x) b h = (let no : Some x ≡ None = h in cc)

-- ---- the greatest of a list
greatest-one : (xs : List ℕ) (o : ℕ) → Has xs o → ((x : ℕ) → Has xs x → x ≤ o) → greatest xs ≡ Some o
greatest-one [] o has most = absurd has
greatest-one (x ∷ xs) o has most =
    let g = larger x (greatest xs) in
    let is = greatest-is (x ∷ xs) g refl in
    let low : g ≤ o = most g is.0 in
    let high : o ≤ g = is.1 o has in
    let same : g ≡ o = omega (arith, low, high) in
    ap (λ (z : ℕ). Some z) same

no-greatest : (xs : List ℕ) → ((x : ℕ) → Has xs x → ⊥) → greatest xs ≡ None
no-greatest [] h = refl
no-greatest (x ∷ xs) h = absurd (h x (inl refl))

-- ---- the last of orders by rank that is the customer's
module _ (c : ℕ) where
  abbrev such : ℕ × ℕ → Option (ℕ × ℕ)
  such o = cond (o.1 == c) (Some o) None

  none-found : (os : List (ℕ × ℕ)) → last_of c os ≡ None → (r x : ℕ) → find nat_cmp r os ≡ Some x → (x == c) ≡ true → ⊥
  none-found [] e r x there t = (let no : None ≡ Some x = there in cc)
  none-found (f ∷ fs) e r x there t =
      let parts = or-none (last_of c fs) (such f) e in
      elim (found_first rank_total exact_ranks f fs r x there) [
        | inl same ↦
            let passes : (f.1 == c) ≡ true = ap (λ (y : ℕ). y == c) (sym same.1) ∙ t in
            let no : Some f ≡ None = sym (ap (λ b. cond b (Some f) None) passes) ∙ parts.1 in
            cc
        | inr later ↦ none-found fs parts.0 r x later t
      ]

  record IsLast (os : List (ℕ × ℕ)) (o : ℕ × ℕ) : Type 0 where
    pub there : find nat_cmp o.0 os ≡ Some o.1
    pub passes : (o.1 == c) ≡ true
    pub last : (r x : ℕ) → find nat_cmp r os ≡ Some x → (x == c) ≡ true → r ≤ o.0

  last-is : (os : List (ℕ × ℕ)) → T (is_sorted nat_cmp os) → (o : ℕ × ℕ) → last_of c os ≡ Some o → IsLast os o
  last-is [] s o h = (let no : None ≡ Some o = h in cc)
  last-is (f ∷ fs) s o h = at (last-is fs (second (below_all nat_cmp f.0 fs) (is_sorted nat_cmp fs) s) o) (last_of c fs) refl
    where
      at : (last_of c fs ≡ Some o → IsLast fs o) → (l : Option (ℕ × ℕ)) → last_of c fs ≡ l → IsLast (f ∷ fs) o
      at rest (Some g) p =
          let some : Some g ≡ Some o = sym (ap (λ l. option_or l (such f)) p) ∙ h in
          let is = rest (p ∙ some) in
          record {
            there = found_later rank_total exact_ranks f fs o.0 o.1 s is.there;
            passes = is.passes;
            last = λ r x there t. elim (found_first rank_total exact_ranks f fs r x there) [
              | inl same ↦
                  let above : f.0 < o.0 = found-above f.0 fs o.0 o.1 (first (below_all nat_cmp f.0 fs) (is_sorted nat_cmp fs) s) is.there in
                  let q : r ≡ f.0 = same.0 in
                  omega (arith, above, q)
              | inr later ↦ is.last r x later t
            ];
          }
      at rest None p =
          let here : such f ≡ Some o = sym (ap (λ l. option_or l (such f)) p) ∙ h in
          let parts = one-passes (f.1 == c) (Some f) o here in
          let some : Some f ≡ Some o = parts.1 in
          let same : f ≡ o = cc in
          record {
            there = subst (λ (g : ℕ × ℕ). find nat_cmp g.0 (f ∷ fs) ≡ Some g.1) same (found-here f fs);
            passes = subst (λ (g : ℕ × ℕ). (g.1 == c) ≡ true) same parts.0;
            last = λ r x there t. elim (found_first rank_total exact_ranks f fs r x there) [
              | inl is ↦ (let q : r ≡ o.0 = is.0 ∙ ap (λ (g : ℕ × ℕ). g.0) same in omega (arith, q))
              | inr later ↦ absurd (none-found fs p r x later t)
            ];
          }

  -- what is kept for the customer is its number
  number-kept : (l : Option (ℕ × ℕ)) → between 1 9999999 (unwrap_or (option_map (λ o. number_in o.0) l) 0) ≡ option_and_then (λ o. order_of o.0) l
  number-kept None = refl
  number-kept (Some o) = refl

  pub kept-is : (kept : LastOrders) (os : List (ℕ × ℕ)) → AreLinked kept os → IsBetween 1 3000 c → kept_for kept c ≡ option_and_then (λ o. order_of o.0) (last_of c os)
  kept-is kept os h limits = (let most = limits.1 in ap (λ n. between 1 9999999 n) (h.last c (omega (arith, most))) ∙ number-kept (last_of c os))

-- the order of an owner
owned : (o : Option OrderRow) (n : ℕ) → option_map (λ r. r.customer) o ≡ Some n → (x : OrderRow) × (o ≡ Some x) × (x.customer ≡ n)
owned None n h = (let no : None ≡ Some n = h in cc)
owned (Some x) n h = (let some : Some x.customer ≡ Some n = h in let same : x.customer ≡ n = cc in (x, refl, same))

-- ---- what is picked
picked_order : (w d c : ℕ) (k : RowKey) (x : Row) (o : ℕ) → order_pick w d c k x ≡ Some o → (k ≡ key.Order w d o) × (y : OrderRow) × (x ≡ row.Order y) × ((y.customer == c) ≡ true)
picked_order w d c (key.Order v e z) (row.Order r) o h =
    let p = one-passes (v == w && e == d && r.customer == c) (Some z) o h in
    let t : (v == w && e == d && r.customer == c) ≡ true = p.0 in
    let a : v ≡ w = grind (arith, nat_tests) in
    let b : e ≡ d = grind (arith, nat_tests) in
    let u : (r.customer == c) ≡ true = grind (arith, nat_tests) in
    let some : Some z ≡ Some o = p.1 in
    let q : z ≡ o = cc in
    (cc, r, refl, u)
picked_order w d c _ _ o h = cc

order_picked : (w d c o : ℕ) (y : OrderRow) → (y.customer == c) ≡ true → order_pick w d c (key.Order w d o) (row.Order y) ≡ Some o
order_picked w d c o y u = ap (λ b. cond b (Some o) None) (let t : (w == w && d == d && y.customer == c) ≡ true = grind (arith, nat_tests) in t)

-- ---- the ranks of a district's orders
place-order : (w d o : ℕ) → IsNumbered (key.Order w d o) → place_of (rank (key.Order w d o)) ≡ w * 16 + d
place-order w d o h = let a = h.0.1 in let b = h.1.1 in let c = h.2.1 in place-of 5 w d o 0 (omega (arith, a)) (omega (arith, b)) (omega (arith, c)) (omega arith)

number-order : (w d o : ℕ) → IsNumbered (key.Order w d o) → number_in (rank (key.Order w d o)) ≡ o
number-order w d o h = let c = h.2.1 in number-of 5 w d o 0 (omega (arith, c)) (omega arith)

order-key : (k : RowKey) (w d : ℕ) → IsDistrict w d → IsNumbered k → table_of_kind (kind k) ≡ 3 → place_of (rank k) ≡ w * 16 + d → (o : ℕ) × (k ≡ key.Order w d o)
order-key (key.Order v e o) w d district h three at =
    let same : v * 16 + e ≡ w * 16 + d = sym (place-order v e o h) ∙ at in
    let a = h.1.1 in
    let b = district.1.1 in
    let ws : v ≡ w = omega (arith, same, a, b) in
    let ds : e ≡ d = omega (arith, same, a, b) in
    (o, ap (λ x. key.Order x e o) ws ∙ ap (λ x. key.Order w x o) ds)
order-key (key.Warehouse v) w d district h three at = cc
order-key (key.Customer v e c) w d district h three at = cc
order-key (key.Stock v i) w d district h three at = cc
order-key (key.NewOrder v e o) w d district h three at = cc
order-key (key.OrderLine v e o n) w d district h three at = cc
order-key (key.History n) w d district h three at = cc
order-key (key.DistrictYtd v e) w d district h three at = cc
order-key (key.DistrictNext v e) w d district h three at = cc

some-order : (o : Option OrderRow) (y : OrderRow) → option_map (λ r. row.Order r) o ≡ Some (row.Order y) → o ≡ Some y
some-order None y h = (let no : None ≡ Some (row.Order y) = h in cc)
some-order (Some x) y h = (let is : Some (row.Order x) ≡ Some (row.Order y) = h in let same : x ≡ y = cc in ap (λ (z : OrderRow). Some z) same)

module _ (w d : ℕ) where
  record IsOrderRank (r : ℕ) : Type 0 where
    pub order : ℕ
    pub numbered : IsNumbered (key.Order w d order)
    pub is : r ≡ rank (key.Order w d order)

  module _ (district : IsDistrict w d) (m : RankRows) (h : AreKept m) (p : ℕ) (at : p ≡ w * 16 + d) where
    get-order : (r : ℕ) → get (order_rows m p) r ≡ cond (eqb (place_of r) p) (cond (eqb (table_of r) 3) (get m r) None) None
    get-order r = get-rows_at place_of (rows_at table_of m 3) p r ∙ ap (λ o. cond (eqb (place_of r) p) o None) (get-rows_at table_of m 3 r)

    is-order : (r : ℕ) (x : Row) → get (order_rows m p) r ≡ Some x → IsOrderRank r × (get m r ≡ Some x)
    is-order r x there =
        let parts = both-pass (eqb (place_of r) p) (eqb (table_of r) 3) (get m r) x (sym (get-order r) ∙ there) in
        let k = (h.kept r x parts.2).is_rank in
        let three : table_of_kind (kind k.key) ≡ 3 = sym (ap table_of_kind (kind-of k.key k.numbered)) ∙ ap table_of k.ranked ∙ eqb-true (table_of r) 3 parts.1 in
        let place : place_of (rank k.key) ≡ w * 16 + d = ap place_of k.ranked ∙ eqb-true (place_of r) p parts.0 ∙ at in
        let order = order-key k.key w d district k.numbered three place in
        (record { order = order.0; numbered = subst IsNumbered order.1 k.numbered; is = sym k.ranked ∙ ap rank order.1 }, parts.2)

    module _ (es : List (ℕ × OrderRow)) (same : as_orders es ≡ entries (order_rows m p)) (c : ℕ) where
      sorted-es : T (is_sorted nat_cmp es)
      sorted-es = subst T (sorted-each (λ r. row.Order r) es) (subst (λ xs. T (is_sorted nat_cmp xs)) (sym same) (entries_sorted (order_rows m p)))

      find-es : (r : ℕ) → option_map (λ y. row.Order y) (find nat_cmp r es) ≡ get (order_rows m p) r
      find-es r = sym (find-each (λ y. row.Order y) es r) ∙ ap (find nat_cmp r) same ∙ sym (get-entries (order_rows m p) r)

      found-es : (r : ℕ) (x : OrderRow) → find nat_cmp r es ≡ Some x → IsOrderRank r × (get m r ≡ Some (row.Order x))
      found-es r x there = is-order r (row.Order x) (sym (find-es r) ∙ ap (option_map (λ y. row.Order y)) there)

      number-is : (r : ℕ) (n : IsOrderRank r) → number_in r ≡ n.order
      number-is r n = ap (λ q. number_in q) n.is ∙ number-order w d n.order n.numbered

      found-picked : (r : ℕ) (x : OrderRow) → find nat_cmp r es ≡ Some x → (x.customer == c) ≡ true → (n : IsOrderRank r) → Has (picked (order_pick w d c) (keyed m)) n.order
      found-picked r x there t n =
          let k = key.Order w d n.order in
          row-picked (order_pick w d c) (keyed m) k (row.Order x) n.order (sym (row-at m h k n.numbered r n.is) ∙ (found-es r x there).1) (order_picked w d c n.order x t)

      picked-found : (o : ℕ) → Has (picked (order_pick w d c) (keyed m)) o → (x : OrderRow) × (find nat_cmp (rank (key.Order w d o)) es ≡ Some x) × ((x.customer == c) ≡ true)
      picked-found o has =
          let r = picked-row (order_pick w d c) (keyed m) o has in
          let picks = picked_order w d c r.0 r.1 o r.3 in
          let k = key.Order w d o in
          let there : get (keyed m) k ≡ Some (row.Order picks.1) = ap (get (keyed m)) (sym picks.0) ∙ r.2 ∙ ap (λ (z : Row). Some z) picks.2 in
          let parts = one-passes (is_key k) (get m (rank k)) (row.Order picks.1) (sym (get-keyed m h k) ∙ there) in
          let kept = h.kept (rank k) (row.Order picks.1) parts.1 in
          let one : kept.is_rank.key ≡ k = sym (rank-key (rank k) kept.is_rank) ∙ sym (same_key k (key_of (rank k)) parts.0) in
          let numbered : IsNumbered k = subst IsNumbered one kept.is_rank.numbered in
          let place : eqb (place_of (rank k)) p ≡ true = ap (λ n. eqb n p) (place-order w d o numbered ∙ sym at) ∙ same-number p in
          let three : eqb (table_of (rank k)) 3 ≡ true = ap (λ n. eqb n 3) (table-at m h k numbered (rank k) refl) in
          let got : get (order_rows m p) (rank k) ≡ Some (row.Order picks.1) =
          get-order (rank k) ∙ ap (λ b. cond b (cond (eqb (table_of (rank k)) 3) (get m (rank k)) None) None) place
          ∙ ap (λ b. cond b (get m (rank k)) None) three ∙ parts.1 in
          (picks.1, some-order (find nat_cmp (rank k) es) picks.1 (find-es (rank k) ∙ got), picks.3)

      sorted-owners : T (is_sorted nat_cmp (owners es))
      sorted-owners = subst T (sym (sorted-each (λ (r : OrderRow). r.customer) es)) sorted-es

      find-owner : (r : ℕ) → find nat_cmp r (owners es) ≡ option_map (λ (x : OrderRow). x.customer) (find nat_cmp r es)
      find-owner r = find-each (λ (x : OrderRow). x.customer) es r

      latest-at : (l : Option (ℕ × ℕ)) → last_of c (owners es) ≡ l → option_and_then (λ o. order_of o.0) l ≡ greatest (picked (order_pick w d c) (keyed m))
      latest-at None none = sym (no-greatest (picked (order_pick w d c) (keyed m)) (λ x has.
          let f = picked-found x has in
          let k = rank (key.Order w d x) in
          none-found c (owners es) none k f.0.customer (find-owner k ∙ ap (option_map (λ (y : OrderRow). y.customer)) f.1) f.2))
      latest-at (Some o) some =
          let is = last-is c (owners es) sorted-owners o some in
          let own = owned (find nat_cmp o.0 es) o.1 (sym (find-owner o.0) ∙ is.there) in
          let passes : (own.0.customer == c) ≡ true = ap (λ n. n == c) own.2 ∙ is.passes in
          let n = (found-es o.0 own.0 own.1).0 in
          let within : IsBetween 1 9999999 n.order = n.numbered.2 in
          ap (λ x. between 1 9999999 x) (number-is o.0 n)
          ∙ ap (λ (b : Bool). if b then Some n.order else None) (and_from _ _ (le-leb 1 n.order within.0) (le-leb n.order 9999999 within.1))
          ∙ sym (greatest-one (picked (order_pick w d c) (keyed m)) n.order (found-picked o.0 own.0 own.1 passes n) (λ x has.
          let f = picked-found x has in
          let k = rank (key.Order w d x) in
          let low : rank (key.Order w d x) ≤ o.0 = is.last k f.0.customer (find-owner k ∙ ap (option_map (λ (y : OrderRow). y.customer)) f.1) f.2 in
          let at_o : o.0 ≡ rank (key.Order w d n.order) = n.is in
          omega (arith, low, at_o)))

      latest-is : option_and_then (λ o. order_of o.0) (last_of c (owners es)) ≡ latest (keyed m) w d c
      unfolding latest
      latest-is = latest-at (last_of c (owners es)) refl

    pub are-latest : (kept : LastOrders) → AreLastOf (entries (order_rows m p)) kept → AreLatest (keyed m) w d kept
    are-latest kept of c limits = kept-is c kept (owners of.orders) of.linked limits ∙ latest-is of.orders of.same c
