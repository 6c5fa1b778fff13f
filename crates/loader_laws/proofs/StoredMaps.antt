-- Maps filled entry by entry, and lists of distinct keys.
use Rattle.std.proofs.Common.{◌≡◌, ◌∙◌, ◌⊎◌, inl, inr, List, [], ◌∷◌, ◌++◌, cond, T, map, Bool, Option, Some, None, refl, sym, ap, subst}
use Rattle.std.specs.Prelude.{filter_map}
use Rattle.std.specs.List.{AllByRecursion, cons_option}
use Rattle.std.specs.Cmp.{IsTotalOrder}
use Rattle.std.specs.FinMap.{FinMap, IsAntisymmetric, empty, find, get, get-empty, insert, is_sorted, same_map}
use Rattle.std.specs.FinMap.Entries.{below_all, find-where_key, where_key}
use Rattle.std.specs.Ordering.{eq_by_cmp}
use Rattle.std.specs.declared.cmp.Ordering.{Ordering}
use Rattle.std.proofs.lemmas.Bool.{cases_Bool}
use Rattle.std.proofs.lemmas.List.{map-append}
use Rattle.tpcc_rows.proofs.Singles.{apart, here, not_found, same_key, second, first, tied, ties_itself}

-- ---- lists
pub all-append : {A : Type 0} (P : A → Type 0) (xs ys : List A) → AllByRecursion P xs → AllByRecursion P ys → AllByRecursion P (xs ++ ys)
all-append P [] ys a b = b
all-append P (x ∷ xs) ys a b = (a.0, all-append P xs ys a.1 b)

pub all-map : {A : Type 0} (P Q : A → Type 0) (xs : List A) → AllByRecursion P xs → ((x : A) → P x → Q x) → AllByRecursion Q xs
all-map P Q [] h more = tt
all-map P Q (x ∷ xs) h more = (more x h.0, all-map P Q xs h.1 more)

-- the rest of the elements
pub all-filter_map : {A B : Type 0} (P : B → Type 0) (f : A → Option B) (xs : List A) → AllByRecursion (λ x. (y : B) → f x ≡ Some y → P y) xs → AllByRecursion P (filter_map f xs)
all-filter_map P f [] h = tt
all-filter_map P f (x ∷ xs) h = by (f x) h.0 (all-filter_map P f xs h.1)
  where
    by : (o : Option _) → ((y : _) → o ≡ Some y → P y) → AllByRecursion P (filter_map f xs) → AllByRecursion P (cons_option o (filter_map f xs))
    by None e rest = rest
    by (Some y) e rest = (e y refl, rest)

pub all-mapped : {A B : Type 0} (P : B → Type 0) (g : A → B) (xs : List A) → AllByRecursion (λ x. P (g x)) xs → AllByRecursion P (map g xs)
all-mapped P g [] h = tt
all-mapped P g (x ∷ xs) h = (h.0, all-mapped P g xs h.1)

module _ {K X : Type 0} {R : K → K → Ordering} (total : IsTotalOrder R) (exact : IsAntisymmetric R) where
  -- ---- entries put in turn
  abbrev pub put_at : FinMap R X → Option (K × X) → FinMap R X
  put_at m None = m
  put_at m (Some e) = insert m e.0 e.1

  abbrev pub puts : List (Option (K × X)) → FinMap R X → FinMap R X
  puts [] m = m
  puts (o ∷ os) m = puts os (put_at m o)

  -- the entry is one of the map's
  abbrev pub IsOf : FinMap R X → Option (K × X) → Type 0
  IsOf m None = Unit {0}
  IsOf m (Some e) = get m e.0 ≡ Some e.1

  -- some entry has the key
  abbrev pub Occurs : K → List (Option (K × X)) → Type 0
  Occurs q [] = ⊥
  Occurs q (None ∷ os) = Occurs q os
  Occurs q (Some e ∷ os) = (q ≡ e.0) ⊎ Occurs q os

  occurs-left : (q : K) (os ps : List (Option (K × X))) → Occurs q os → Occurs q (os ++ ps)
  occurs-left q [] ps h = absurd h
  occurs-left q (None ∷ os) ps h = occurs-left q os ps h
  occurs-left q (Some e ∷ os) ps (inl is) = inl is
  occurs-left q (Some e ∷ os) ps (inr h) = inr (occurs-left q os ps h)

  occurs-right : (q : K) (os ps : List (Option (K × X))) → Occurs q ps → Occurs q (os ++ ps)
  occurs-right q [] ps h = h
  occurs-right q (None ∷ os) ps h = occurs-right q os ps h
  occurs-right q (Some e ∷ os) ps h = inr (occurs-right q os ps h)

  -- an entry made of one of the first things, or of a later one
  pub occurs-first : {S : Type 0} (g : S → Option (K × X)) (ss ts : List S) (q : K) → Occurs q (map g ss) → Occurs q (map g (ss ++ ts))
  occurs-first g ss ts q h = subst (Occurs q) (sym (map-append g ss ts)) (occurs-left q (map g ss) (map g ts) h)

  pub occurs-behind : {S : Type 0} (g : S → Option (K × X)) (ss ts : List S) (q : K) → Occurs q (map g ts) → Occurs q (map g (ss ++ ts))
  occurs-behind g ss ts q h = subst (Occurs q) (sym (map-append g ss ts)) (occurs-right q (map g ss) (map g ts) h)

  -- a key unlike all keys of the entries is none of them
  pub not-among : (P : K → Type 0) (os : List (Option (K × X))) (q : K) → AllByRecursion (λ o. (e : K × X) → o ≡ Some e → P e.0) os → (P q → ⊥) → Occurs q os → ⊥
  not-among P [] q all other h = h
  not-among P (None ∷ os) q all other h = not-among P os q all.1 other h
  not-among P (Some e ∷ os) q all other (inl is) = other (subst P (sym is) (all.0 e refl))
  not-among P (Some e ∷ os) q all other (inr h) = not-among P os q all.1 other h

  -- entries of another map, put in turn, make a map agree with it at their keys, and keep it so elsewhere
  puts-at : (os : List (Option (K × X))) (m t : FinMap R X) (q : K) → AllByRecursion (IsOf t) os → (get m q ≡ get t q) ⊎ Occurs q os → get (puts os m) q ≡ get t q
  puts-at [] m t q are (inl agree) = agree
  puts-at [] m t q are (inr h) = absurd h
  puts-at (None ∷ os) m t q are h = puts-at os m t q are.1 h
  puts-at (Some e ∷ os) m t q are h = elim (same_key total exact q e.0) [
    | inl same ↦ puts-at os (insert m e.0 e.1) t q are.1 (inl (subst (λ k. get (insert m e.0 e.1) k ≡ get t k) (sym same) (here total exact m e.0 e.1 ∙ sym are.0)))
    | inr other ↦
        let kept = apart total exact m e.0 e.1 q other in
        puts-at os (insert m e.0 e.1) t q are.1 (elim h [ inl agree ↦ inl (kept ∙ agree) | inr occurs ↦ elim occurs [ inl same ↦ absurd (other same) | inr later ↦ inr later ] ])
  ]

  -- entries of a map that have all its keys, put in turn, give that map
  pub puts-whole : (os : List (Option (K × X))) (t : FinMap R X) → AllByRecursion (IsOf t) os → ((q : K) (x : X) → get t q ≡ Some x → Occurs q os) → puts os empty ≡ t
  puts-whole os t are all = same_map total exact (puts os empty) t (λ q. puts-at os empty t q are (by q (get t q) refl))
    where
      by : (q : K) (o : Option X) → get t q ≡ o → (get (empty {X = X} {R = R}) q ≡ get t q) ⊎ Occurs q os
      by q None e = inl (get-empty R q ∙ sym e)
      by q (Some x) e = inr (all q x e)

  -- a key of no entry keeps its value
  pub puts-others : (os : List (Option (K × X))) (m : FinMap R X) (q : K) → (Occurs q os → ⊥) → get (puts os m) q ≡ get m q
  puts-others [] m q none = refl
  puts-others (None ∷ os) m q none = puts-others os m q none
  puts-others (Some e ∷ os) m q none = puts-others os (insert m e.0 e.1) q (λ later. none (inr later)) ∙ apart total exact m e.0 e.1 q (λ same. none (inl same))

  -- ---- lists of distinct keys
  abbrev pub AreApart : List (K × X) → Type 0
  AreApart [] = Unit {0}
  AreApart (e ∷ es) = (find R e.0 es ≡ None) × AreApart es

  pub sorted-apart : (es : List (K × X)) → T (is_sorted R es) → AreApart es
  sorted-apart [] s = tt
  sorted-apart (e ∷ es) s = (not_found total exact e.0 es (first (below_all R e.0 es) (is_sorted R es) s), sorted-apart es (second (below_all R e.0 es) (is_sorted R es) s))

  found-head : (e : K × X) (es : List (K × X)) → find R e.0 (e ∷ es) ≡ Some e.1
  found-head e es = ap (λ b. cond b (Some e.1) (find R e.0 es)) (ties_itself total exact e.0)

  -- a key found after the first entry is found
  found-behind : (e : K × X) (es : List (K × X)) (q : K) (x : X) → find R e.0 es ≡ None → find R q es ≡ Some x → find R q (e ∷ es) ≡ Some x
  found-behind e es q x fresh there = elim (cases_Bool (eq_by_cmp R q e.0)) [
    | inl same ↦
        let none : find R q es ≡ None = ap (λ k. find R k es) (exact q e.0 (tied _ same)) ∙ fresh in
        cc
    | inr other ↦ ap (λ b. cond b (Some e.1) (find R q es)) other ∙ there
  ]

  -- what holds of each entry found
  pub all-found : (P : K → X → Type 0) (es : List (K × X)) → AreApart es → ((q : K) (x : X) → find R q es ≡ Some x → P q x) → AllByRecursion (λ e. P e.0 e.1) es
  all-found P [] alone found = tt
  all-found P (e ∷ es) alone found = (found e.0 e.1 (found-head e es), all-found P es alone.1 (λ q x there. found q x (found-behind e es q x alone.0 there)))

  pub found-left : (xs ys : List (K × X)) (q : K) (x : X) → find R q xs ≡ Some x → find R q (xs ++ ys) ≡ Some x
  found-left [] ys q x there = cc
  found-left (e ∷ xs) ys q x there = elim (cases_Bool (eq_by_cmp R q e.0)) [
    | inl same ↦ ap (λ b. cond b (Some e.1) (find R q (xs ++ ys))) same ∙ sym (ap (λ b. cond b (Some e.1) (find R q xs)) same) ∙ there
    | inr other ↦ ap (λ b. cond b (Some e.1) (find R q (xs ++ ys))) other ∙ found-left xs ys q x (sym (ap (λ b. cond b (Some e.1) (find R q xs)) other) ∙ there)
  ]

  pub found-right : (xs ys : List (K × X)) (q : K) → find R q xs ≡ None → find R q (xs ++ ys) ≡ find R q ys
  found-right [] ys q none = refl
  found-right (e ∷ xs) ys q none = elim (cases_Bool (eq_by_cmp R q e.0)) [
    | inl same ↦ let some : find R q (e ∷ xs) ≡ Some e.1 = ap (λ b. cond b (Some e.1) (find R q xs)) same in cc
    | inr other ↦ ap (λ b. cond b (Some e.1) (find R q (xs ++ ys))) other ∙ found-right xs ys q (sym (ap (λ b. cond b (Some e.1) (find R q xs)) other) ∙ none)
  ]

  pub apart-append : (xs ys : List (K × X)) → AreApart xs → AreApart ys → ((q : K) (x : X) → find R q xs ≡ Some x → find R q ys ≡ None) → AreApart (xs ++ ys)
  apart-append [] ys a b none = b
  apart-append (e ∷ xs) ys a b none = (
    found-right xs ys e.0 a.0 ∙ none e.0 e.1 (found-head e xs),
    apart-append xs ys a.1 b (λ q x there. none q x (found-behind e xs q x a.0 there)),
  )

  -- the entries whose keys pass a test
  pub found-where : (p : K → Bool) (es : List (K × X)) (q : K) → find R q (where_key R p es) ≡ cond (p q) (find R q es) None
  found-where p es q = find-where_key R p q (λ x t. ap p (sym (exact q x t))) es

  pub found-first : (xs ys : List (K × X)) (q : K) → find R q ys ≡ None → find R q (xs ++ ys) ≡ find R q xs
  found-first xs ys q none = by (find R q xs) refl
    where
      by : (o : Option X) → find R q xs ≡ o → find R q (xs ++ ys) ≡ find R q xs
      by None e = found-right xs ys q e ∙ none ∙ sym e
      by (Some x) e = found-left xs ys q x e ∙ sym e

  -- ---- new keys of a kind
  abbrev pub AreFresh : (K → Type 0) → FinMap R X → List (K × X) → Type 0
  AreFresh P m es = (q : K) (x : X) → P q → find R q es ≡ Some x → get m q ≡ None

  module _ (P : K → Type 0) (m : FinMap R X) (e : K × X) (es : List (K × X)) where
    pub fresh-head : P e.0 → AreFresh P m (e ∷ es) → get m e.0 ≡ None
    fresh-head kind fresh = fresh e.0 e.1 kind (found-head e es)

    pub fresh-tail : find R e.0 es ≡ None → AreFresh P m (e ∷ es) → AreFresh P (insert m e.0 e.1) es
    fresh-tail alone fresh q x kind there = elim (same_key total exact q e.0) [
      | inl same ↦ let none : find R q es ≡ None = ap (λ k. find R k es) same ∙ alone in cc
      | inr other ↦ apart total exact m e.0 e.1 q other ∙ fresh q x kind (found-behind e es q x alone there)
    ]

    pub fresh-skip : find R e.0 es ≡ None → AreFresh P m (e ∷ es) → AreFresh P m es
    fresh-skip alone fresh q x kind there = fresh q x kind (found-behind e es q x alone there)

-- an entry found, and what is made of it
module _ {K X : Type 0} {R : K → K → Ordering} (total : IsTotalOrder R) (exact : IsAntisymmetric R) {S L Y : Type 0} {Q : L → L → Ordering} (q_total : IsTotalOrder Q) (q_exact : IsAntisymmetric Q) (f : K × X → Option S) (g : S → Option (L × Y)) where
  pub occurs-made : (es : List (K × X)) (k : K) (x : X) (s : S) (y : L × Y) → find R k es ≡ Some x → f (k, x) ≡ Some s → g s ≡ Some y → Occurs q_total q_exact y.0 (map g (filter_map f es))
  occurs-made [] k x s y there is made = cc
  occurs-made (e ∷ es) k x s y there is made = elim (cases_Bool (eq_by_cmp R k e.0)) [
    | inl same ↦
        let at : k ≡ e.0 = exact k e.0 (tied _ same) in
        let some : Some e.1 ≡ Some x = sym (ap (λ b. cond b (Some e.1) (find R k es)) same) ∙ there in
        let value : x ≡ e.1 = cc in
        let here : f e ≡ Some s = sym (ap (λ (a : K). f (a, x)) at ∙ ap (λ (b : X). f (e.0, b)) value) ∙ is in
        rw (here, made) (inl refl)
    | inr other ↦ more (f e) (occurs-made es k x s y (sym (ap (λ b. cond b (Some e.1) (find R k es)) other) ∙ there) is made)
  ]
    where
      more-if : (o : Option (L × Y)) (os : List (Option (L × Y))) (l : L) → Occurs q_total q_exact l os → Occurs q_total q_exact l (o ∷ os)
      more-if None os l h = h
      more-if (Some z) os l h = inr h

      more : (o : Option S) → Occurs q_total q_exact y.0 (map g (filter_map f es)) → Occurs q_total q_exact y.0 (map g (cons_option o (filter_map f es)))
      more None h = h
      more (Some t) h = more-if (g t) (map g (filter_map f es)) y.0 h
