-- What a level's outcomes come to.
use Rattle.std.proofs.Common.{◌≡◌, ℕ, ◌<◌, List, [], ◌∷◌, length, map, get_or, refl, sym, ap, subst, ◌∙◌, arith}
use Rattle.std.proofs.lemmas.List.{get_or-map, length-map}
use Rattle.std.specs.FinMap.{entries}
use Rattle.std.specs.List.{All, flat_map}
use Rattle.serializability.specs.Changes.{apply}
use Rattle.serializability.proofs.Changes.{apply-append}
use Rattle.tpcc_rows.specs.Changing.{after}
use Rattle.tpcc_rows.specs.RowMap.{Rows}
use Rattle.gather.specs.Merged.{after_each}
use Rattle.workers.specs.declared.job.Done.{Done}

-- the changes of each outcome in turn are all of them
pub after_outcomes : (outcomes : List Done) (rows : Rows) → after_each rows (map (λ done. done.changes) outcomes) ≡ apply (flat_map (λ done. entries done.changes) outcomes) rows
unfolding after
after_outcomes [] rows = refl
after_outcomes (done ∷ outcomes) rows =
    after_outcomes outcomes (after rows done.changes)
    ∙ sym (apply-append (entries done.changes) (flat_map (λ later. entries later.changes) outcomes) rows)

-- what holds of all places holds of those of the outcomes
pub of_places : (P : ℕ → Type 0) (outcomes : List Done) (places : List ℕ) → map (λ done. done.place) outcomes ≡ places → All P places → All (λ done. P done.place) outcomes
of_places P outcomes places is all i done below =
    let there : i < length places = subst (λ (ps : List ℕ). i < length ps) is (omega (arith, below, length-map outcomes (λ (d : Done). d.place))) in
    subst P (ap (λ (ps : List ℕ). get_or ps i done.place) (sym is) ∙ get_or-map (λ (d : Done). d.place) outcomes i done done.place below) (all i done.place there)
