-- One step of the loop that finds levels.
use Rattle.std.proofs.Common.{◌≡◌, ℕ, ◌+◌, ◌<◌, Bool, List, [], ◌∷◌, ◌++◌, length, get_or, drop, refl, sym, ap, ◌∙◌, arith}
use Rattle.std.proofs.lemmas.List.{drop_more, append_assoc}
use Rattle.std.specs.List.{zip}
use Rattle.serializability.specs.Levels.{level_after, levels_after}
use Rattle.mixer.proofs.Lists.{zip_more}

-- the levels found so far with their footprints, when one more is
pub done_step : {F : Type 0} (levels more : List ℕ) (fs : List F) (f : F) (level i : ℕ) → i < length fs → length levels ≡ i → f ≡ get_or fs i f → more ≡ levels ++ level ∷ []
    → zip more fs ≡ zip levels fs ++ (level, f) ∷ []
done_step levels more fs f level i h count is grown =
    let below : length levels < length fs = omega (arith, h, count) in
    ap (λ xs. zip xs fs) grown ∙ zip_more levels fs level f below ∙ ap (λ x. zip levels fs ++ (level, x) ∷ []) (ap (λ n. get_or fs n f) count ∙ sym is)

module _ {F : Type 0} (meets : F → F → Bool) where
  -- the levels of all, when that of the next one is found
  pub levels_step : (levels more : List ℕ) (fs : List F) (f : F) (level i : ℕ) (whole : List ℕ) → i < length fs → length levels ≡ i → f ≡ get_or fs i f
      → level ≡ level_after meets (zip levels fs) f → more ≡ levels ++ level ∷ [] → levels ++ levels_after meets (zip levels fs) (drop i fs) ≡ whole
      → more ++ levels_after meets (zip more fs) (drop (i + 1) fs) ≡ whole
  levels_step levels more fs f level i whole h count is told grown all =
      let done = done_step levels (levels ++ level ∷ []) fs f level i h count is refl in
      (λ j. grown j ++ levels_after meets (zip (grown j) fs) (drop (i + 1) fs))
      ∙ ap (λ d. (levels ++ level ∷ []) ++ levels_after meets d (drop (i + 1) fs)) done
      ∙ append_assoc levels (level ∷ []) (levels_after meets (zip levels fs ++ (level, f) ∷ []) (drop (i + 1) fs))
      ∙ (λ j. levels ++ told j ∷ levels_after meets (zip levels fs ++ (told j, f) ∷ []) (drop (i + 1) fs))
      ∙ ap (λ x. levels ++ levels_after meets (zip levels fs) (x ∷ drop (i + 1) fs)) is
      ∙ ap (λ rest. levels ++ levels_after meets (zip levels fs) rest) (sym (drop_more fs i f h))
      ∙ all
