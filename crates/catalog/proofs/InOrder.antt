-- Cards in the order of their keys: one more behind those before the items, or behind all.
use Rattle.std.proofs.Common.{◌≡◌, ◌<◌, ◌≤◌, ◌-◌, ◌⊎◌, ℕ, zero, suc, Bool, true, false, ◌&&◌, ◌||◌, cond, T, List, [], ◌∷◌, ◌++◌, length, Option, Result, Ok, Err, Some, None, inl, inr, refl, sym, ap, subst, ◌∙◌, append-nil, append_assoc, arith}
use Rattle.std.specs.Prelude.{is_ok, is_some, slice_get, slice_index_or, unwrap_or}
use Rattle.std.specs.FinMap.{entries-from_sorted, entries-insert, find, get, get-from_sorted, insert, is_sorted, same_entries_map}
use Rattle.std.specs.FinMap.Entries.{below_all, by_order, is_sorted-put, put}
use Rattle.std.specs.Option.{option_or}
use Rattle.std.specs.Ordering.{eq_by_cmp, is_eq, is_lt, ordering_reverse}
use Rattle.std.specs.declared.cmp.Ordering.TheVariants.{Less, Greater}
use Rattle.tpcc_rows.specs.Places.{IsPlaceOf, are_in_order}
use Rattle.tpcc_rows.proofs.Places.{got, got-none, sorted}
use Rattle.tpcc_rows.proofs.Singles.{first, second}
use Rattle.tpcc_rows.proofs.SortedEntries.{rising}
use Rattle.catalog.specs.declared.card.Card.{Card}
use Rattle.catalog.specs.declared.card.CardKey.{CardKey}
use Rattle.catalog.specs.CardMap.{IsBefore, IsBehind, card_key_cmp, cards_in}
use Rattle.catalog.proofs.CardKeys.{card_key_cmp_total, exact_cards}
use Rattle.catalog.proofs.Tables.{in-order}

abbrev pub Entries : Type 0
Entries = List (CardKey × Card)

both : (a b : Bool) → T a → T b → T (a && b)
both true b p q = q
both false b p q = p

greater : (a b : CardKey) → card_key_cmp a b ≡ Less → card_key_cmp b a ≡ Greater
greater a b h = card_key_cmp_total.antisymm b a ∙ ap ordering_reverse h

-- ---- the parts of cards in order
below-front : (k : CardKey) (es fs : Entries) → T (below_all card_key_cmp k (es ++ fs)) → T (below_all card_key_cmp k es)
below-front k [] fs h = tt
below-front k (e ∷ es) fs h =
    both (is_lt (card_key_cmp k e.0)) (below_all card_key_cmp k es) (first (is_lt (card_key_cmp k e.0)) (below_all card_key_cmp k (es ++ fs)) h)
    (below-front k es fs (second (is_lt (card_key_cmp k e.0)) (below_all card_key_cmp k (es ++ fs)) h))

sorted-front : (es fs : Entries) → T (is_sorted card_key_cmp (es ++ fs)) → T (is_sorted card_key_cmp es)
sorted-front [] fs h = tt
sorted-front (e ∷ es) fs h =
    both (below_all card_key_cmp e.0 es) (is_sorted card_key_cmp es)
    (below-front e.0 es fs (first (below_all card_key_cmp e.0 (es ++ fs)) (is_sorted card_key_cmp (es ++ fs)) h))
    (sorted-front es fs (second (below_all card_key_cmp e.0 (es ++ fs)) (is_sorted card_key_cmp (es ++ fs)) h))

sorted-back : (es fs : Entries) → T (is_sorted card_key_cmp (es ++ fs)) → T (is_sorted card_key_cmp fs)
sorted-back [] fs h = h
sorted-back (e ∷ es) fs h = sorted-back es fs (second (below_all card_key_cmp e.0 (es ++ fs)) (is_sorted card_key_cmp (es ++ fs)) h)

pub front-in_order : (es fs : Entries) → are_in_order card_key_cmp (es ++ fs) ≡ true → are_in_order card_key_cmp es ≡ true
front-in_order es fs h = in-order _ (sorted-front es fs (sorted card_key_cmp (es ++ fs) h))

pub back-in_order : (es fs : Entries) → are_in_order card_key_cmp (es ++ fs) ≡ true → are_in_order card_key_cmp fs ≡ true
back-in_order es fs h = in-order _ (sorted-back es fs (sorted card_key_cmp (es ++ fs) h))

-- ---- what is found in two lists
pub find-both : (q : CardKey) (es fs : Entries) → find card_key_cmp q (es ++ fs) ≡ option_or (find card_key_cmp q es) (find card_key_cmp q fs)
find-both q [] fs = refl
find-both q (e ∷ es) fs =
    let later = find-both q es fs in
    elim (eq_by_cmp card_key_cmp q e.0) as (λ b. cond b (Some e.1) (find card_key_cmp q (es ++ fs)) ≡ option_or (cond b (Some e.1) (find card_key_cmp q es)) (find card_key_cmp q fs)) [ true ↦ refl | false ↦ later ]

pub some-or : (o p : Option Card) → is_some (option_or o p) ≡ (is_some o || is_some p)
some-or None p = refl
some-or (Some x) p = refl

pub has-both : (q : CardKey) (es fs : Entries) → are_in_order card_key_cmp (es ++ fs) ≡ true
    → is_some (get (cards_in (es ++ fs)) q) ≡ (is_some (get (cards_in es) q) || is_some (get (cards_in fs) q))
has-both q es fs h =
    let one = get-from_sorted card_key_cmp es q (sorted card_key_cmp es (front-in_order es fs h)) in
    let other = get-from_sorted card_key_cmp fs q (sorted card_key_cmp fs (back-in_order es fs h)) in
    ap is_some (get-from_sorted card_key_cmp (es ++ fs) q (sorted card_key_cmp (es ++ fs) h) ∙ find-both q es fs)
    ∙ some-or (find card_key_cmp q es) (find card_key_cmp q fs)
    ∙ sym (ap (λ o. is_some o || is_some (get (cards_in fs) q)) one ∙ ap (λ o. is_some (find card_key_cmp q es) || is_some o) other)

-- ---- a key behind or before others
put-behind : (k : CardKey) (x : Card) (es fs : Entries) → IsBehind k es → put card_key_cmp k x (es ++ fs) ≡ es ++ put card_key_cmp k x fs
put-behind k x [] fs behind = refl
put-behind k x (e ∷ es) fs behind =
    ap (λ o. by_order o ((k, x) ∷ e ∷ (es ++ fs)) ((e.0, x) ∷ (es ++ fs)) (e ∷ put card_key_cmp k x (es ++ fs))) (greater e.0 k (behind 0 e (omega arith)))
    ∙ ap (λ (xs : Entries). e ∷ xs) (put-behind k x es fs (λ i d h. behind (suc i) d (omega arith)))

put-before : (k : CardKey) (x : Card) (es : Entries) → IsBefore k es → put card_key_cmp k x es ≡ (k, x) ∷ es
put-before k x [] before = refl
put-before k x (e ∷ es) before = ap (λ o. by_order o ((k, x) ∷ e ∷ es) ((e.0, x) ∷ es) (e ∷ put card_key_cmp k x es)) (before 0 e (omega arith))

find-behind : (k : CardKey) (es fs : Entries) → IsBehind k es → find card_key_cmp k (es ++ fs) ≡ find card_key_cmp k fs
find-behind k [] fs behind = refl
find-behind k (e ∷ es) fs behind =
    ap (λ o. cond (is_eq o) (Some e.1) (find card_key_cmp k (es ++ fs))) (greater e.0 k (behind 0 e (omega arith)))
    ∙ find-behind k es fs (λ i d h. behind (suc i) d (omega arith))

find-before : (k : CardKey) (es : Entries) → IsBefore k es → find card_key_cmp k es ≡ None
find-before k [] before = refl
find-before k (e ∷ es) before =
    ap (λ o. cond (is_eq o) (Some e.1) (find card_key_cmp k es)) (before 0 e (omega arith)) ∙ find-before k es (λ i d h. before (suc i) d (omega arith))

-- ---- one card more
pub put-item : (k : CardKey) (x : Card) (others items : Entries) → IsBehind k others → IsBehind k items → put card_key_cmp k x (others ++ items) ≡ others ++ (items ++ (k, x) ∷ [])
put-item k x others items after behind =
    put-behind k x others items after
    ∙ ap (λ es. others ++ es) (ap (λ es. put card_key_cmp k x es) (sym (append-nil items)) ∙ put-behind k x items [] behind)

pub put-other : (k : CardKey) (x : Card) (others items : Entries) → IsBehind k others → IsBefore k items → put card_key_cmp k x (others ++ items) ≡ (others ++ (k, x) ∷ []) ++ items
put-other k x others items behind before =
    put-behind k x others items behind ∙ ap (λ es. others ++ es) (put-before k x items before) ∙ sym (append_assoc others ((k, x) ∷ []) items)

pub no-item : (k : CardKey) (others items : Entries) → are_in_order card_key_cmp (others ++ items) ≡ true → IsBehind k others → IsBehind k items → get (cards_in (others ++ items)) k ≡ None
no-item k others items h after behind =
    get-from_sorted card_key_cmp (others ++ items) k (sorted card_key_cmp (others ++ items) h)
    ∙ find-behind k others items after ∙ ap (find card_key_cmp k) (sym (append-nil items)) ∙ find-behind k items [] behind

pub no-other : (k : CardKey) (others items : Entries) → are_in_order card_key_cmp (others ++ items) ≡ true → IsBehind k others → IsBefore k items → get (cards_in (others ++ items)) k ≡ None
no-other k others items h behind before =
    get-from_sorted card_key_cmp (others ++ items) k (sorted card_key_cmp (others ++ items) h)
    ∙ find-behind k others items behind ∙ find-before k items before

module _ (k : CardKey) (x : Card) (es fs : Entries) (h : are_in_order card_key_cmp es ≡ true) (is : put card_key_cmp k x es ≡ fs) where
  put-sorted : T (is_sorted card_key_cmp (put card_key_cmp k x es))
  put-sorted = is_sorted-put card_key_cmp card_key_cmp_total k x es (sorted card_key_cmp es h)

  pub more-in_order : are_in_order card_key_cmp fs ≡ true
  more-in_order = subst (λ xs. are_in_order card_key_cmp xs ≡ true) is (in-order _ put-sorted)

  pub more-map : cards_in fs ≡ insert (cards_in es) k x
  more-map = ap cards_in (sym is) ∙ same_entries_map _ _ (entries-from_sorted card_key_cmp _ put-sorted
      ∙ sym (entries-insert card_key_cmp_total (cards_in es) k x ∙ ap (put card_key_cmp k x) (entries-from_sorted card_key_cmp es (sorted card_key_cmp es h))))

-- ---- the last card and the first
at-get : (es : Entries) (j : ℕ) (e d : CardKey × Card) → slice_get es j ≡ Some e → slice_index_or es j d ≡ e
at-get [] j e d is = cc
at-get (x ∷ es) zero e d is = ap (λ o. unwrap_or o e) is
at-get (x ∷ es) (suc j) e d is = at-get es j e d is

equal-or-less : (i j : ℕ) → i ≤ j → (i ≡ j) ⊎ (i < j)
equal-or-less zero zero h = inl refl
equal-or-less zero (suc j) h = inr (omega arith)
equal-or-less (suc i) zero h = absurd (omega arith)
equal-or-less (suc i) (suc j) h = elim (equal-or-less i j (omega arith)) [
  | inl same ↦ inl (ap suc same)
  | inr below ↦ inr (omega arith)
]

pub behind-last : (k : CardKey) (es : Entries) (last : CardKey × Card) → are_in_order card_key_cmp es ≡ true → slice_get es (length es - 1) ≡ Some last → card_key_cmp last.0 k ≡ Less → IsBehind k es
behind-last k es last order is less i d h =
    let end = length es - 1 in
    let there : slice_index_or es end d ≡ last = at-get es end last d is in
    let last-less : card_key_cmp (slice_index_or es end d).0 k ≡ Less = subst (λ (e : CardKey × Card). card_key_cmp e.0 k ≡ Less) (sym there) less in
    elim (equal-or-less i end (omega arith)) [
      | inl same ↦ subst (λ n. card_key_cmp (slice_index_or es n d).0 k ≡ Less) (sym same) last-less
      | inr below ↦ card_key_cmp_total.trans (slice_index_or es i d).0 (slice_index_or es end d).0 k (rising card_key_cmp_total es (sorted card_key_cmp es order) i end d below (omega arith)) last-less
    ]

pub before-first : (k : CardKey) (es : Entries) (first : CardKey × Card) → are_in_order card_key_cmp es ≡ true → slice_get es 0 ≡ Some first → card_key_cmp k first.0 ≡ Less → IsBefore k es
before-first k es first order is less zero d h = subst (λ (e : CardKey × Card). card_key_cmp k e.0 ≡ Less) (sym (at-get es 0 first d is)) less
before-first k es first order is less (suc i) d h =
    let first-less : card_key_cmp k (slice_index_or es 0 d).0 ≡ Less = subst (λ (e : CardKey × Card). card_key_cmp k e.0 ≡ Less) (sym (at-get es 0 first d is)) less in
    card_key_cmp_total.trans k (slice_index_or es 0 d).0 (slice_index_or es (suc i) d).0 first-less (rising card_key_cmp_total es (sorted card_key_cmp es order) 0 (suc i) d (omega arith) h)

-- ---- whether a key is there
pub has-place : (es : Entries) (k : CardKey) (place : Result ℕ ℕ) → are_in_order card_key_cmp es ≡ true → IsPlaceOf card_key_cmp k es place → is_ok place ≡ is_some (get (cards_in es) k)
has-place [] k (Ok i) order there = absurd (omega (arith, there.0))
has-place (e ∷ es) k (Ok i) order there = sym (ap is_some (got card_key_cmp_total exact_cards (e ∷ es) k i order there e))
has-place es k (Err i) order absent = sym (ap is_some (got-none card_key_cmp_total exact_cards es k i order absent))
