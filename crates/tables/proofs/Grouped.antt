-- The leaves of a group, and the rows of a leaf.
use Rattle.std.proofs.Common.{◌≡◌, ◌≤◌, ◌<◌, ◌/◌, ◌%◌, ℕ, zero, suc, Bool, true, false, cond, eqb, List, [], ◌∷◌, ◌++◌, length, Option, None, inl, inr, refl, sym, ap, subst, ◌∙◌, arith}
use Rattle.std.proofs.lemmas.Bool.{cases_Bool, eqb-true, eqb-false}
use Rattle.std.specs.FinMap as map
use Rattle.std.specs.FinMap.{get, get-empty, same_map, remove}
use Rattle.std.specs.Ordering.{eq_by_cmp, nat_cmp}
use Rattle.serializability.proofs.Changes.{get-changed}
use Rattle.tpcc_rows.proofs.Singles.{tied}
use Rattle.tables.specs.ByRank.{ByRank}
use Rattle.tables.specs.Leaves.{group_of, in_group, leaf_of}
use Rattle.tables.specs.Shelves.{IsPlaced, rows_at, table_at, union}
use Rattle.tables.proofs.Shelved.{get-rows_at, get-union}
use Rattle.tables.proofs.Tables.{rank_total, exact_ranks}

pub same-number : (n : ℕ) → eqb n n ≡ true
same-number n = elim (cases_Bool (eqb n n)) [
  | inl same ↦ same
  | inr apart ↦ absurd (eqb-false n n apart refl)
]

module _ {X : Type 0} where
  -- past the end no table has rows
  table-past : (ts : List (ByRank X)) (n : ℕ) → length ts ≤ n → table_at ts n ≡ map.empty
  table-past [] n h = refl
  table-past (t ∷ ts) zero h = absurd (omega arith)
  table-past (t ∷ ts) (suc n) h = table-past ts n (omega arith)

  table-push : (ts : List (ByRank X)) (n : ℕ) → table_at (ts ++ map.empty ∷ []) n ≡ table_at ts n
  table-push [] zero = refl
  table-push [] (suc n) = refl
  table-push (t ∷ ts) zero = refl
  table-push (t ∷ ts) (suc n) = table-push ts n

  -- a table without rows more
  module _ (place : ℕ → ℕ) (ts : List (ByRank X)) (h : IsPlaced place ts) (t : ByRank X) (is : t ≡ map.empty) where
    pub placed-push : IsPlaced place (ts ++ t ∷ [])
    placed-push = subst (λ (x : ByRank X). IsPlaced place (ts ++ x ∷ [])) (sym is)
        (record { placed = λ n r apart. ap (λ (x : ByRank X). get x r) (table-push ts n) ∙ h.placed n r apart })

    pub union-push : union (ts ++ t ∷ []) ≡ union ts
    union-push =
        ap (λ (x : ByRank X). union (ts ++ x ∷ [])) is
        ∙ same_map rank_total exact_ranks _ _ (λ q.
        get-union place (ts ++ map.empty ∷ []) (record { placed = λ n r apart. ap (λ (x : ByRank X). get x r) (table-push ts n) ∙ h.placed n r apart }) q
        ∙ ap (λ (x : ByRank X). get x q) (table-push ts (place q)) ∙ sym (get-union place ts h q))

  nothing-either : (b : Bool) (o : Option X) → o ≡ None → cond b None o ≡ o
  nothing-either true o h = sym h
  nothing-either false o h = refl

  -- a rank whose table has no place has no row
  pub removed-past : (place : ℕ → ℕ) (ts : List (ByRank X)) → IsPlaced place ts → (r : ℕ) → length ts ≤ place r → union ts ≡ remove (union ts) r
  removed-past place ts h r past = same_map rank_total exact_ranks _ _ (λ q. sym (get-changed rank_total exact_ranks (union ts) r None q ∙ at q))
    where
      nothing : get (union ts) r ≡ None
      nothing = get-union place ts h r ∙ ap (λ (x : ByRank X). get x r) (table-past ts (place r) past) ∙ get-empty nat_cmp r

      at : (q : ℕ) → cond (eq_by_cmp nat_cmp q r) None (get (union ts) q) ≡ get (union ts) q
      at q = elim (cases_Bool (eq_by_cmp nat_cmp q r)) [
        | inl ties ↦ nothing-either (eq_by_cmp nat_cmp q r) (get (union ts) q) (ap (get (union ts)) (exact_ranks q r (tied _ ties)) ∙ nothing)
        | inr apart ↦ ap (λ b. cond b None (get (union ts) q)) apart
      ]

  pub past-rows : (place : ℕ → ℕ) (ts : List (ByRank X)) (n : ℕ) → length ts ≤ n → table_at ts n ≡ map.empty
  past-rows place ts n h = table-past ts n h

  -- ---- the rows of a leaf are those of its place in its group
  in_both : (a l : ℕ) (o : Option X) → cond (eqb (a % 16) (l % 16)) (cond (eqb (a / 16) (l / 16)) o None) None ≡ cond (eqb a l) o None
  in_both a l o = elim (cases_Bool (eqb a l)) [
    | inl same ↦
        let is : a ≡ l = eqb-true a l same in
        ap (λ b. cond b (cond (eqb (a / 16) (l / 16)) o None) None) (ap (λ x. eqb (a % 16) (x % 16)) (sym is) ∙ same-number (a % 16))
        ∙ ap (λ b. cond b o None) (ap (λ x. eqb (a / 16) (x / 16)) (sym is) ∙ same-number (a / 16))
        ∙ ap (λ b. cond b o None) (sym same)
    | inr apart ↦ elim (cases_Bool (eqb (a % 16) (l % 16))) [
      | inl low ↦ elim (cases_Bool (eqb (a / 16) (l / 16))) [
        | inl high ↦
            let e : a % 16 ≡ l % 16 = eqb-true (a % 16) (l % 16) low in
            let f : a / 16 ≡ l / 16 = eqb-true (a / 16) (l / 16) high in
            absurd (eqb-false a l apart (omega arith))
        | inr other ↦ ap (λ b. cond (eqb (a % 16) (l % 16)) (cond b o None) None) other ∙ none (eqb (a % 16) (l % 16)) ∙ ap (λ b. cond b o None) (sym apart)
      ]
      | inr other ↦ ap (λ b. cond b (cond (eqb (a / 16) (l / 16)) o None) None) other ∙ ap (λ b. cond b o None) (sym apart)
    ]
  ]
    where
      none : (b : Bool) → cond {A = Option X} b None None ≡ None
      none true = refl
      none false = refl

  pub leaf-rows : (m : ByRank X) (l : ℕ) → rows_at in_group (rows_at group_of m (l / 16)) (l % 16) ≡ rows_at leaf_of m l
  leaf-rows m l = same_map rank_total exact_ranks _ _ (λ q.
      get-rows_at in_group (rows_at group_of m (l / 16)) (l % 16) q
      ∙ ap (λ o. cond (eqb (in_group q) (l % 16)) o None) (get-rows_at group_of m (l / 16) q)
      ∙ in_both (leaf_of q) l (get m q)
      ∙ sym (get-rows_at leaf_of m l q))

  -- no tables at all
  pub placed-nothing : (place : ℕ → ℕ) (ts : List (ByRank X)) → ts ≡ [] → IsPlaced place ts
  placed-nothing place ts is = subst (λ (x : List (ByRank X)). IsPlaced place x) (sym is) (record { placed = λ n r _. get-empty nat_cmp r })

  pub union-nothing : (place : ℕ → ℕ) (ts : List (ByRank X)) → ts ≡ [] → union ts ≡ map.empty
  union-nothing place ts is =
      ap (λ x. union x) is
      ∙ same_map rank_total exact_ranks _ _ (λ q. get-union place [] (record { placed = λ n r _. get-empty nat_cmp r }) q)

  none-left : (es : List (ℕ × X)) → length es ≡ 0 → [] ≡ es
  none-left [] h = refl
  none-left (e ∷ es) h = absurd (omega arith)

  pub no-rows : [] ≡ map.entries (map.empty {X = X} {R = nat_cmp})
  no-rows = none-left (map.entries map.empty) (sym (map.len-entries map.empty) ∙ map.len-empty nat_cmp X)

pub group-below : (l : ℕ) → l < 65536 → l / 16 < 4096
group-below l h = omega arith
