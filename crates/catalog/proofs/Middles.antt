-- The customer in the middle of those of one last name, by its place among the names in order.
use Rattle.std.proofs.Common.{◌≡◌, ℕ, ◌+◌, ◌-◌, ◌/◌, ◌<◌, ◌≤◌, List, length, length-drop, length-take-le, drop, take, get_or, Bool, true, false, ◌&&◌, Some, None, refl, sym, ap, subst, ◌∙◌, inl, inr, arith, nat_eq, eq-eqb}
use Rattle.std.specs.Cmp.{first_so, second_so}
use Rattle.std.specs.Cmp.Lexicographic.{slice_cmp}
use Rattle.std.specs.List.{count_by, filter, find}
use Rattle.std.specs.List.Sorted.{IsPartitionPoint, IsPartitionedBy}
use Rattle.std.specs.Option.{option_map}
use Rattle.std.specs.Ordering.{eq_by_cmp, is_eq, is_lt, nat_cmp, ordering_then}
use Rattle.std.specs.declared.cmp.Ordering.TheVariants.{Equal}
use Rattle.std.proofs.lemmas.Bool.{cases_lt, false_from_ne_true, true≢false}
use Rattle.std.proofs.lemmas.List.{get_or_default, get_or-drop, get_or-take}
use Rattle.std.proofs.lemmas.Cmp.{tied_itself}
use Rattle.std.proofs.lemmas.List.Sums.{length-filter}
use Rattle.std.proofs.lemmas.Map.Views.{exact_unsigned_eq}
use Rattle.catalog.specs.declared.card.CustomerCard.{CustomerCard}
use Rattle.catalog.specs.declared.last_names.NamedCustomer.{NamedCustomer}
use Rattle.catalog.specs.LastNames.{is_holder, is_middle, middle_of, stands_before}
use Rattle.catalog.specs.NameOrder.{AreInOrder, EndsAt, Name, StandsAt, has_name, name_cmp, name_of, named, named_cmp}
use Rattle.catalog.proofs.Counts.{count_by-filter, count_by-range, counted_at, find-filter, find-none, find-value, one_counted}
use Rattle.catalog.proofs.NameOrders.{exact_named, exact_names, holder_ties, is_equal, less_not_equal, name_cmp_total, named_cmp_total, ordered, partitioned_at, partitioned_below, strictly}

abbrev goes_before : NamedCustomer → NamedCustomer → Bool
goes_before a b = is_lt (ordering_then (slice_cmp nat_cmp a.first b.first) (nat_cmp a.customer b.customer))

and_true : (a b : Bool) → a ≡ true → (a && b) ≡ b
and_true a b h = ap (λ x. x && b) h

and_false : (a b : Bool) → a ≡ false → (a && b) ≡ false
and_false a b h = ap (λ x. x && b) h

-- customers of one name stand by C_FIRST and C_ID
of_one_name : (t : Name) (a b : NamedCustomer) → has_name t a ≡ true → has_name t b ≡ true → is_lt (named_cmp a b) ≡ goes_before a b
of_one_name t a b h g =
    let same = exact_names (name_of a) t (is_equal _ h) ∙ sym (exact_names (name_of b) t (is_equal _ g)) in
    let tie : name_cmp (name_of a) (name_of b) ≡ Equal = ap (λ n. name_cmp n (name_of b)) same ∙ tied_itself name_cmp_total (name_of b) in
    ap (λ o. is_lt (ordering_then o (ordering_then (slice_cmp nat_cmp a.first b.first) (nat_cmp a.customer b.customer)))) tie

module _ (cards : List CustomerCard) (names : List NamedCustomer) (are : AreInOrder cards names) (w d : ℕ) (last : List ℕ) (start count : ℕ) (stands : StandsAt names (w, d, last) start count) where
  abbrev has : NamedCustomer → Bool
  has c = has_name (w, d, last) c

  -- how many of the name stand before this customer
  abbrev standing : NamedCustomer → ℕ
  standing c = count_by (λ other. has other && goes_before other c) names

  holders_counted : length (filter (is_holder w d last) cards) ≡ count
  holders_counted =
      let counted = count_by-range has names start (start + count) (omega arith) stands.within stands.before stands.here stands.behind in
      length-filter (is_holder w d last) cards ∙ (λ i. count_by (λ c. holder_ties w d last c i) cards) ∙ sym (are.same has) ∙ (let sum = counted in omega arith)

  standing_at : (j : ℕ) (x : NamedCustomer) → start ≤ j → j < start + count → standing (get_or names j x) + start ≡ j
  standing_at j x from below =
      let within = stands.within in
      count_by-range (λ other. has other && goes_before other (get_or names j x)) names start j from (omega arith)
      (λ i e h. and_false _ _ (stands.before i e h))
      (λ i e h g.
      let first : get_or names i e ≡ get_or names i x = get_or_default names i e x (omega arith) in
      let one = stands.here i x h (omega arith) in
      let less : is_lt (named_cmp (get_or names i x) (get_or names j x)) ≡ true = ap is_lt (strictly cards names are i j x g (omega arith) _ refl (ordered cards names are i j x (omega arith) (omega arith))) in
      ap (λ y. has y && goes_before y (get_or names j x)) first ∙ and_true _ _ one ∙ sym (of_one_name (w, d, last) (get_or names i x) (get_or names j x) one (stands.here j x from below)) ∙ less)
      (λ i e h g. elim (cases_lt i (start + count)) [
        | inl inside ↦
            let later : get_or names i e ≡ get_or names i x = get_or_default names i e x g in
            let one = stands.here i x (omega arith) inside in
            ap (λ y. has y && goes_before y (get_or names j x)) later ∙ and_true _ _ one ∙ sym (of_one_name (w, d, last) (get_or names i x) (get_or names j x) one (stands.here j x from below)) ∙ ordered cards names are j i x h g
        | inr outside ↦ and_false _ _ (stands.behind i e outside g)
      ])

  -- the test of the definition, as one of names
  abbrev middle : NamedCustomer → Bool
  middle c = has c && nat_eq (standing c) ((count + 1) / 2 - 1)

  middle_is : (c : CustomerCard) → (is_holder w d last c && is_middle (filter (is_holder w d last) cards) c) ≡ middle (named c)
  middle_is c =
      let counted : count_by (λ other. stands_before other c) (filter (is_holder w d last) cards) ≡ standing (named c) =
      count_by-filter (is_holder w d last) (λ other. stands_before other c) cards ∙ (λ i. count_by (λ other. holder_ties w d last other i && stands_before other c) cards) ∙ sym (are.same (λ other. has other && goes_before other (named c))) in
      λ i. holder_ties w d last c i && nat_eq (counted i) ((holders_counted i + 1) / 2 - 1)

  found : middle_of (filter (is_holder w d last) cards) ≡ option_map (λ c. c.customer) (find (λ c. middle (named c)) cards)
  unfolding middle_of
  found = ap (option_map (λ c. c.customer)) (find-filter (is_holder w d last) (is_middle (filter (is_holder w d last) cards)) cards ∙ (λ i. find (λ c. middle_is c i) cards))

  passes_at : (j : ℕ) (x : NamedCustomer) → j ≡ start + (count - 1) / 2 → 0 < count → middle (get_or names j x) ≡ true
  passes_at j x place some =
      let before = standing_at j x (omega arith) (omega arith) in
      and_true _ _ (stands.here j x (omega arith) (omega arith)) ∙ eq-eqb (standing (get_or names j x)) ((count + 1) / 2 - 1) (omega arith)

  -- it passes there alone
  place_of : (j : ℕ) (x : NamedCustomer) → j < length names → middle (get_or names j x) ≡ true → (0 < count) × (j ≡ start + (count - 1) / 2)
  place_of j x short passes =
      let own = first_so (has (get_or names j x)) _ passes in
      elim (cases_lt j start) [
        | inl early ↦ absurd (true≢false (sym own ∙ stands.before j x early))
        | inr from ↦ elim (cases_lt j (start + count)) [
          | inl inside ↦
              let before = standing_at j x from inside in
              let many : standing (get_or names j x) ≡ (count + 1) / 2 - 1 = exact_unsigned_eq _ _ (second_so (has (get_or names j x)) _ passes) in
              (omega arith, omega arith)
          | inr late ↦ absurd (true≢false (sym own ∙ stands.behind j x late short))
        ]
      ]

  pub nobody : count ≡ 0 → middle_of (filter (is_holder w d last) cards) ≡ None
  nobody none = found ∙ ap (option_map (λ c. c.customer)) (find-none (λ c. middle (named c)) cards (elim (cases_lt 0 (count_by middle names)) [
    | inl some ↦ let at = counted_at middle names some in let place = place_of at.place at.element at.within (at.passes at.element) in absurd (omega arith)
    | inr few ↦ let same = are.same middle in omega arith
  ]))

  -- the place among the names of a card's customer
  pub somebody : (x : NamedCustomer) → 0 < count → x ≡ get_or names (start + (count - 1) / 2) x → middle_of (filter (is_holder w d last) cards) ≡ Some x.customer
  somebody x some is =
      let same = are.same middle in
      let within = stands.within in
      let one = one_counted middle names (start + (count - 1) / 2) x (omega arith) (passes_at _ x refl some) in
      found ∙ find-value (λ c. middle (named c)) (λ c. c.customer) x.customer cards (omega arith) (λ i e h g.
      let mine = one_counted (λ c. eq_by_cmp named_cmp (named (get_or cards i e)) (named c)) cards i e h (ap is_eq (tied_itself named_cmp_total (named (get_or cards i e)))) in
      let all = are.same (eq_by_cmp named_cmp (named (get_or cards i e))) in
      let at = counted_at (eq_by_cmp named_cmp (named (get_or cards i e))) names (omega arith) in
      let there = exact_named _ _ (is_equal _ (at.passes x)) in
      let place = place_of at.place x at.within (sym (ap middle there) ∙ g) in
      ap (λ c. c.customer) (there ∙ ap (λ n. get_or names n x) place.1 ∙ sym is))

-- where those who have the name come first, but not number n, the search among the first n answers for all
pub ends_among_first : (t : Name) (names : List NamedCustomer) (n count : ℕ) → n < length names → ((d : NamedCustomer) → has_name t (get_or names n d) ≡ false) → count ≤ n
    → EndsAt t (take n names) count → EndsAt t names count
ends_among_first t names n count short past few ends parted =
    let front : length (take n names) ≡ n = length-take-le n names (omega arith) in
    let same : (i : ℕ) (d : NamedCustomer) → i < n → get_or (take n names) i d ≡ get_or names i d = λ i d below. get_or-take n names i d below in
    let (first, rest) = ends (λ i j d rising below h. ap (has_name t) (same i d (omega arith)) ∙ parted i j d rising (omega arith) (sym (ap (has_name t) (same j d (omega arith))) ∙ h)) in (
      (λ i d from below. sym (ap (has_name t) (same i d (omega arith))) ∙ first i d from below),
      (λ i d from below. elim (cases_lt i n) [
        | inl inside ↦ sym (ap (has_name t) (same i d inside)) ∙ rest i d from (omega arith)
        | inr outside ↦ false_from_ne_true (has_name t (get_or names i d)) (λ h. true≢false (sym (parted n i d outside below h) ∙ past d))
      ]),
    )

-- a search for the place where a name begins, and another from there on for how many have it
module _ (cards : List CustomerCard) (names : List NamedCustomer) (are : AreInOrder cards names) (t : Name) (start : ℕ) (reached : start ≤ length names)
    (begins : IsPartitionPoint (λ c. is_lt (name_cmp (name_of c) t) ≡ true) (λ c. is_lt (name_cmp (name_of c) t) ≡ false) names start) where
  partitioned_from : IsPartitionedBy (has_name t) (drop start names)
  partitioned_from i j d rising short h =
      let long = length-drop start names in
      ap (has_name t) (get_or-drop start names i d)
      ∙ partitioned_at cards names are t start begins.1 (start + i) (start + j) d (omega arith) (omega arith) (omega arith) (sym (ap (has_name t) (get_or-drop start names j d)) ∙ h)

  stands_at : (count : ℕ) → count ≤ length (drop start names) → IsPartitionPoint (λ c. has_name t c ≡ true) (λ c. has_name t c ≡ false) (drop start names) count → StandsAt names t start count
  stands_at count fits ends =
      let long = length-drop start names in
      let moved : (i : ℕ) (d : NamedCustomer) → start ≤ i → has_name t (get_or names i d) ≡ has_name t (get_or (drop start names) (i - start) d) = λ i d h.
      let same : i ≡ start + (i - start) = omega arith in
      ap (λ k. has_name t (get_or names k d)) same ∙ sym (ap (has_name t) (get_or-drop start names (i - start) d)) in
      record {
        within = omega arith;
        before = λ i d h. less_not_equal _ (begins.0 i d (omega arith) h);
        here = λ i d h g. moved i d h ∙ ends.0 (i - start) d (omega arith) (omega arith);
        behind = λ i d h g. moved i d (omega arith) ∙ ends.1 (i - start) d (omega arith) (omega arith);
      }

-- the same, as the code has it
pub stands_from : (cards : List CustomerCard) (names : List NamedCustomer) (are : AreInOrder cards names) (t : Name) (start count : ℕ) (all rest : List NamedCustomer) → all ≡ names → rest ≡ drop start names → start ≤ length all → count ≤ length rest
    → (IsPartitionedBy (λ c. is_lt (name_cmp (name_of c) t)) all → IsPartitionPoint (λ c. is_lt (name_cmp (name_of c) t) ≡ true) (λ c. is_lt (name_cmp (name_of c) t) ≡ false) all start)
    → (IsPartitionedBy (has_name t) rest → IsPartitionPoint (λ c. has_name t c ≡ true) (λ c. has_name t c ≡ false) rest count) → StandsAt names t start count
stands_from cards names are t start count all rest whole left reached fits begins ends =
    let begin = subst (λ xs. IsPartitionPoint (λ c. is_lt (name_cmp (name_of c) t) ≡ true) (λ c. is_lt (name_cmp (name_of c) t) ≡ false) xs start) whole (begins (subst (IsPartitionedBy (λ c. is_lt (name_cmp (name_of c) t))) (sym whole) (partitioned_below cards names are t))) in
    let within = subst (λ (xs : List NamedCustomer). start ≤ length xs) whole reached in
    let end = subst (λ xs. IsPartitionPoint (λ c. has_name t c ≡ true) (λ c. has_name t c ≡ false) xs count) left (ends (subst (IsPartitionedBy (has_name t)) (sym left) (partitioned_from cards names are t start within begin))) in
    stands_at cards names are t start within begin count (subst (λ (xs : List NamedCustomer). count ≤ length xs) left fits) end
