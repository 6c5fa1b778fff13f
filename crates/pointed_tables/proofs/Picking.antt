-- What is picked among the rows of tables and those aside.
use Rattle.std.proofs.Common.{◌≡◌, ◌⊎◌, ℕ, min, max, is_some, List, [], ◌∷◌, Option, Some, None, inl, inr, refl, sym, ap, ◌∙◌, arith}
use Rattle.std.specs.FinMap.{get}
use Rattle.tpcc_rows.specs.declared.key.RowKey.{RowKey}
use Rattle.tpcc_rows.specs.declared.row.Row.{Row}
use Rattle.tpcc_rows.specs.Picks.{greatest, larger, larger_of, least, lesser, lesser_of, picked}
use Rattle.tpcc_rows.specs.RowMap.{Rows}
use Rattle.tpcc_rows.proofs.Picks.{Has, greatest-is, least-is, picked-row, row-picked}
use Rattle.pointed_tables.specs.Aside.{IsBeside, both}
use Rattle.pointed_tables.proofs.Besides.{got-first, got-tables}

-- ---- one list of numbers for two
module _ (xs ys zs : List ℕ) (split : (n : ℕ) → Has zs n → Has xs n ⊎ Has ys n) (left : (n : ℕ) → Has xs n → Has zs n) (right : (n : ℕ) → Has ys n → Has zs n) where
  pub least-two : least zs ≡ lesser_of (least xs) (least ys)
  least-two = at (least zs) (least xs) (least ys) refl refl refl
    where
      none : (ns : List ℕ) (n : ℕ) → least ns ≡ None → Has ns n → ⊥
      none [] n e h = h
      none (z ∷ ns) n e h = let no : Some (lesser z (least ns)) ≡ None = e in cc

      at : (l o p : Option ℕ) → least zs ≡ l → least xs ≡ o → least ys ≡ p → l ≡ lesser_of o p
      at None None None e f g = refl
      at None (Some o) p e f g = absurd (none zs o e (left o (least-is xs o f).0))
      at None None (Some p) e f g = absurd (none zs p e (right p (least-is ys p g).0))
      at (Some l) None None e f g = elim (split l (least-is zs l e).0) [
        | inl i ↦ absurd (none xs l f i)
        | inr j ↦ absurd (none ys l g j)
      ]
      at (Some l) (Some o) None e f g = elim (split l (least-is zs l e).0) [
        | inl i ↦ (
            let above = (least-is xs o f).1 l i in
            let below = (least-is zs l e).1 o (left o (least-is xs o f).0) in
            let same : l ≡ o = omega (arith, above, below) in
            ap (λ (n : ℕ). Some n) same
            )
        | inr j ↦ absurd (none ys l g j)
      ]
      at (Some l) None (Some p) e f g = elim (split l (least-is zs l e).0) [
        | inl i ↦ absurd (none xs l f i)
        | inr j ↦ (
            let above = (least-is ys p g).1 l j in
            let below = (least-is zs l e).1 p (right p (least-is ys p g).0) in
            let same : l ≡ p = omega (arith, above, below) in
            ap (λ (n : ℕ). Some n) same
            )
      ]
      at (Some l) (Some o) (Some p) e f g =
          let first = (least-is zs l e).1 o (left o (least-is xs o f).0) in
          let second = (least-is zs l e).1 p (right p (least-is ys p g).0) in
          elim (split l (least-is zs l e).0) [
            | inl i ↦ (let above = (least-is xs o f).1 l i in let same : l ≡ min o p = omega (arith, above, first, second) in ap (λ (n : ℕ). Some n) same)
            | inr j ↦ (let above = (least-is ys p g).1 l j in let same : l ≡ min o p = omega (arith, above, first, second) in ap (λ (n : ℕ). Some n) same)
          ]

  pub greatest-two : greatest zs ≡ larger_of (greatest xs) (greatest ys)
  greatest-two = at (greatest zs) (greatest xs) (greatest ys) refl refl refl
    where
      none : (ns : List ℕ) (n : ℕ) → greatest ns ≡ None → Has ns n → ⊥
      none [] n e h = h
      none (z ∷ ns) n e h = let no : Some (larger z (greatest ns)) ≡ None = e in cc

      at : (l o p : Option ℕ) → greatest zs ≡ l → greatest xs ≡ o → greatest ys ≡ p → l ≡ larger_of o p
      at None None None e f g = refl
      at None (Some o) p e f g = absurd (none zs o e (left o (greatest-is xs o f).0))
      at None None (Some p) e f g = absurd (none zs p e (right p (greatest-is ys p g).0))
      at (Some l) None None e f g = elim (split l (greatest-is zs l e).0) [
        | inl i ↦ absurd (none xs l f i)
        | inr j ↦ absurd (none ys l g j)
      ]
      at (Some l) (Some o) None e f g = elim (split l (greatest-is zs l e).0) [
        | inl i ↦ (
            let above = (greatest-is xs o f).1 l i in
            let below = (greatest-is zs l e).1 o (left o (greatest-is xs o f).0) in
            let same : l ≡ o = omega (arith, above, below) in
            ap (λ (n : ℕ). Some n) same
            )
        | inr j ↦ absurd (none ys l g j)
      ]
      at (Some l) None (Some p) e f g = elim (split l (greatest-is zs l e).0) [
        | inl i ↦ absurd (none xs l f i)
        | inr j ↦ (
            let above = (greatest-is ys p g).1 l j in
            let below = (greatest-is zs l e).1 p (right p (greatest-is ys p g).0) in
            let same : l ≡ p = omega (arith, above, below) in
            ap (λ (n : ℕ). Some n) same
            )
      ]
      at (Some l) (Some o) (Some p) e f g =
          let first = (greatest-is zs l e).1 o (left o (greatest-is xs o f).0) in
          let second = (greatest-is zs l e).1 p (right p (greatest-is ys p g).0) in
          elim (split l (greatest-is zs l e).0) [
            | inl i ↦ (let above = (greatest-is xs o f).1 l i in let same : l ≡ max o p = omega (arith, above, first, second) in ap (λ (n : ℕ). Some n) same)
            | inr j ↦ (let above = (greatest-is ys p g).1 l j in let same : l ≡ max o p = omega (arith, above, first, second) in ap (λ (n : ℕ). Some n) same)
          ]

-- ---- the rows of both
module _ (pick : RowKey → Row → Option ℕ) (a m : Rows) (h : IsBeside a m) where
  of-either : (n : ℕ) → Has (picked pick (both a m)) n → Has (picked pick m) n ⊎ Has (picked pick a) n
  of-either n has = by (get a found.0) refl
    where
      found : (k : RowKey) × (x : Row) × (get (both a m) k ≡ Some x) × (pick k x ≡ Some n)
      found = picked-row pick (both a m) n has

      by : (o : Option Row) → get a found.0 ≡ o → Has (picked pick m) n ⊎ Has (picked pick a) n
      by None e = inl (row-picked pick m found.0 found.1 n (got-tables a m found.0 e ∙ found.2) found.3)
      by (Some y) e = inr (row-picked pick a found.0 found.1 n (e ∙ got-first a m found.0 y e ∙ found.2) found.3)

  of-aside : (n : ℕ) → Has (picked pick a) n → Has (picked pick (both a m)) n
  of-aside n has = let r = picked-row pick a n has in row-picked pick (both a m) r.0 r.1 n (sym (got-first a m r.0 r.1 r.2)) r.3

  of-tables : (n : ℕ) → Has (picked pick m) n → Has (picked pick (both a m)) n
  of-tables n has = row-picked pick (both a m) found.0 found.1 n (sym (got-tables a m found.0 (nothing (get a found.0) refl)) ∙ found.2) found.3
    where
      found : (k : RowKey) × (x : Row) × (get m k ≡ Some x) × (pick k x ≡ Some n)
      found = picked-row pick m n has

      nothing : (o : Option Row) → get a found.0 ≡ o → get a found.0 ≡ None
      nothing None e = e
      nothing (Some y) e = (let wrong : None ≡ Some found.1 = sym (h.apart found.0 (ap is_some e)) ∙ found.2 in cc)

  pub least-both : lesser_of (least (picked pick m)) (least (picked pick a)) ≡ least (picked pick (both a m))
  least-both = sym (least-two (picked pick m) (picked pick a) (picked pick (both a m)) of-either of-tables of-aside)

  pub greatest-both : larger_of (greatest (picked pick m)) (greatest (picked pick a)) ≡ greatest (picked pick (both a m))
  greatest-both = sym (greatest-two (picked pick m) (picked pick a) (picked pick (both a m)) of-either of-tables of-aside)
