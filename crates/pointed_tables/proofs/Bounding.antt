-- What a log can't have noted, and so can't bring back.
use Rattle.std.proofs.Common.{◌≡◌, ℕ, true, false, cond, is_some, List, [], ◌∷◌, ◌++◌, drop, Option, Some, None, inl, inr, refl, sym, ap, subst, ◌∙◌, arith}
use Rattle.std.specs.FinMap.{get}
use Rattle.std.specs.List.{list_any}
use Rattle.std.specs.Ordering.{eq_by_cmp}
use Rattle.std.specs.Prelude.{All}
use Rattle.std.proofs.lemmas.Bool.{cases_Bool}
use Rattle.std.proofs.lemmas.List.Elements.{All-cons, All-nil}
use Rattle.serializability.proofs.Changes.{get-changed}
use Rattle.tpcc_rows.specs.declared.key.RowKey.{RowKey}
use Rattle.tpcc_rows.specs.declared.row.Row.{Row}
use Rattle.tpcc_rows.specs.RowMap.{Rows, row_key_cmp}
use Rattle.tpcc_rows.proofs.Keys.{row_key_cmp_total, exact_keys}
use Rattle.tpcc_rows.proofs.Singles.{tied}
use Rattle.rollback.specs.Pointed.{Pointed, first_or}
use Rattle.rollback.proofs.Marking.{or-left, or-right}
use Rattle.pointed_tables.specs.Bounds.{IsLowered, may_be_noted}
use Rattle.pointed_tables.specs.Logs.{AreLogs, AreWithin, IsBounded, IsGone, IsPointed, Olds, points_of, undone}
use Rattle.pointed_tables.specs.Returns.{may_bring_back}
use Rattle.pointed_tables.specs.declared.bounds.Bounds.{Bounds}
use Rattle.pointed_tables.specs.declared.log.Log.{Log}

-- ---- what is noted is within bounds
pub within-more : (b : Bounds) (os : Olds) (o : RowKey × Option Row) → AreWithin b os → (is_some o.1 ≡ true → may_be_noted b o.0 ≡ true) → AreWithin b (os ++ o ∷ [])
within-more b [] o h here = (here, tt)
within-more b (p ∷ os) o h here = (h.0, within-more b os o h.1 here)

within-append : (b : Bounds) (os ps : Olds) → AreWithin b os → AreWithin b ps → AreWithin b (os ++ ps)
within-append b [] ps h g = g
within-append b (o ∷ os) ps h g = (h.0, within-append b os ps h.1 g)

pub within-lowered : (b c : Bounds) (os : Olds) → IsLowered b c → AreWithin b os → AreWithin c os
within-lowered b c [] lowered h = tt
within-lowered b c (o ∷ os) lowered h = ((λ some. lowered o.0 (h.0 some)), within-lowered b c os lowered h.1)

-- what is noted after others, for which the bounds are lowered
pub within-appended : (b c : Bounds) (os ps all : Olds) → all ≡ os ++ ps → IsLowered b c → AreWithin c ps → AreWithin b os → AreWithin c all
within-appended b c os ps all is lowered more h = subst (AreWithin c) (sym is) (within-append c os ps (within-lowered b c os lowered h) more)

-- a log that has noted nothing
pub bounded-none : (l : Log) → l.olds.items ≡ [] → IsBounded l
bounded-none l olds = subst (AreWithin l.bounds) (sym olds) tt

-- ---- what isn't noted doesn't come back
unnoted : (b : Bounds) (q k : RowKey) (w : Option Row) → q ≡ k → (is_some w ≡ true → may_be_noted b k ≡ true) → may_be_noted b q ≡ false → w ≡ None
unnoted b q k None is noted never = refl
unnoted b q k (Some x) is noted never = (let wrong : false ≡ true = sym never ∙ ap (λ p. may_be_noted b p) is ∙ noted refl in cc)

undone-none : (b : Bounds) (os : Olds) (m : Rows) (k : RowKey) → AreWithin b os → may_be_noted b k ≡ false → get m k ≡ None → get (undone os m) k ≡ None
undone-none b [] m k within never none = none
undone-none b (o ∷ os) m k within never none =
    get-changed row_key_cmp_total exact_keys (undone os m) o.0 o.1 k ∙ elim (cases_Bool (eq_by_cmp row_key_cmp k o.0)) [
      | inl t ↦ ap (λ c. cond c o.1 (get (undone os m) k)) t ∙ unnoted b k o.0 o.1 (exact_keys k o.0 (tied _ t)) within.0 never
      | inr f ↦ ap (λ c. cond c o.1 (get (undone os m) k)) f ∙ undone-none b os m k within.1 never none
    ]

module _ (k : RowKey) where
  abbrev lacks : Rows → Type 0
  lacks rows = get rows k ≡ None

  first-none : (ps : List Rows) (m : Rows) → lacks m → All lacks ps → lacks (first_or ps m)
  first-none [] m none h = none
  first-none (p ∷ ps) m none h = h 0 p (omega arith)

  points-none : (ls : List Log) (m : Rows) → AreLogs ls m → list_any (may_bring_back k) ls ≡ false → lacks m → All lacks (points_of ls m)
  points-none [] m logs never none = All-nil lacks
  points-none (l ∷ ls) m logs never none =
      let rest = points-none ls m logs.1 (or-right (may_be_noted l.bounds k) _ never) none in
      All-cons lacks _ (points_of ls m)
      (undone-none l.bounds l.olds.items (first_or (points_of ls m) m) k logs.0.bounded (or-left (may_be_noted l.bounds k) _ never) (first-none (points_of ls m) m none rest)) rest

  -- a key without a row, where no log but the oldest may have noted one
  pub gone-later : (ls later : List Log) (l : Log) (m : Rows) (room : ℕ) (dirty : List ℕ) (s : Pointed) → record { rows = m; points = points_of ls m; dirty = dirty } ≡ s → ls ≡ l ∷ later → IsPointed ls m room
      → lacks m → list_any (may_bring_back k) later ≡ false → IsGone k s
  gone-later ls later l m room dirty s view split pointed none never = subst (IsGone k) view (record {
    present = none;
    before =
        subst (λ (logs : List Log). All lacks (drop 1 (points_of logs m))) (sym split)
        (points-none later m (subst (λ (logs : List Log). IsPointed logs m room) split pointed).are_logs.1 never none);
  })
