-- A step of the run of a batch's levels.
use Rattle.std.proofs.Common.{◌≡◌, ℕ, ◌+◌, ◌||◌, true, false, List, ◌∷◌, ◌++◌, map, drop, Some, sym, ap, ◌∙◌}
use Rattle.std.proofs.lemmas.Bool.{or_left}
use Rattle.std.proofs.lemmas.List.{drop_more}
use Rattle.std.proofs.lemmas.Option.{get_or_from_slice_get, slice_get_within}
use Rattle.std.specs.FinMap.{FinMap}
use Rattle.std.specs.List.{list_any, slice_get}
use Rattle.std.specs.declared.cmp.Ordering.{Ordering}
use Rattle.serializability.specs.Levels.{Job, job_strays, jobs_at, level_replies, level_rows, run_replies, run_rows, strays}
use Rattle.serializability.specs.Machines.{Machine}

-- the element at a place stands before those behind it
pub drop_at : {X : Type 0} (xs : List X) (i : ℕ) (x : X) → slice_get xs i ≡ Some x → drop i xs ≡ x ∷ drop (i + 1) xs
drop_at xs i x at = drop_more xs i x (slice_get_within xs i x at) ∙ ap (λ y. y ∷ drop (i + 1) xs) (get_or_from_slice_get xs i x x at)

-- the run stands before the i-th level of a cut, whose places these are
module _ {K : Type 0} {R : K → K → Ordering} {V G Q A : Type 0} (M : Machine R V G Q A) (rows : FinMap R V) (all : List (Job G Q)) (cut : List (List ℕ)) (i : ℕ) (places : List ℕ) (at : slice_get cut i ≡ Some places) where
  -- the levels from one on
  abbrev pub levels_from : ℕ → List (List (Job G Q))
  levels_from level = map (jobs_at all) (drop level cut)

  next_level : levels_from i ≡ jobs_at all places ∷ levels_from (i + 1)
  next_level = ap (map (jobs_at all)) (drop_at cut i places at)

  -- it strays
  pub strays_here : list_any (job_strays M rows) (jobs_at all places) ≡ true → strays M rows (levels_from i) ≡ true
  strays_here strayed = ap (strays M rows) next_level ∙ or_left (list_any (job_strays M rows) (jobs_at all places)) (strays M (level_rows M rows (jobs_at all places)) (levels_from (i + 1))) strayed

  -- it doesn't, and leaves these rows
  module _ (left : FinMap R V) (after : left ≡ level_rows M rows (jobs_at all places)) where
    pub strays_on : list_any (job_strays M rows) (jobs_at all places) ≡ false → strays M left (levels_from (i + 1)) ≡ strays M rows (levels_from i)
    strays_on within =
        ap (λ r. strays M r (levels_from (i + 1))) after
        ∙ sym (ap (strays M rows) next_level ∙ ap (λ b. b || strays M (level_rows M rows (jobs_at all places)) (levels_from (i + 1))) within)

    pub rows_on : run_rows M left (levels_from (i + 1)) ≡ run_rows M rows (levels_from i)
    rows_on = ap (λ r. run_rows M r (levels_from (i + 1))) after ∙ ap (run_rows M rows) (sym next_level)

    pub replies_on : run_replies M rows (levels_from i) ≡ level_replies M rows (jobs_at all places) ++ run_replies M left (levels_from (i + 1))
    replies_on = ap (run_replies M rows) next_level ∙ ap (λ r. level_replies M rows (jobs_at all places) ++ run_replies M r (levels_from (i + 1))) (sym after)
