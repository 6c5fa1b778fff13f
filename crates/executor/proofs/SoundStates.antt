-- A state is sound before any batch, and a batch keeps it so.
use Rattle.std.proofs.Common.{◌≡◌, ℕ, ◌+◌, ◌<◌, ◌≤◌, List, [], ◌∷◌, length, Option, Some, None, IsSome, unwrap_or, inl, inr, refl, sym, subst, arith}
use Rattle.std.proofs.lemmas.Option.{none-some}
use Rattle.std.specs.FinMap.{get}
use Rattle.serializability.specs.Folds as folds
use Rattle.serializability.specs.Folds.{fold_rows}
use Rattle.serializability.specs.Framed.{AllFit}
use Rattle.tpcc_model.specs.Database.{database}
use Rattle.tpcc_rows.specs.Changing.{after}
use Rattle.tpcc_rows.specs.Limits.{IsBetween}
use Rattle.tpcc_rows.specs.Picks.{greatest, picked}
use Rattle.tpcc_rows.specs.RowMap.{Rows}
use Rattle.tpcc_rows.specs.declared.key.RowKey.TheVariants as key
use Rattle.tpcc_rows.specs.declared.row.Row.{Row}
use Rattle.tpcc_rows.proofs.Picks.{Has, greatest-is, row-picked}
use Rattle.catalog.specs.CardMap.{Cards}
use Rattle.requests.specs.declared.request.Request.{Request}
use Rattle.tpcc_model.specs.Serial.{history_pick, next_number}
use Rattle.tpcc_model.specs.Soundness.{IsSound}
use Rattle.tpcc_model.specs.Steps.{steps_at}
use Rattle.transactions.specs.Laws.{Fits, KeepsHistory, StepKeeps}
use Rattle.executor.specs.Laws.{BatchesKeep, OpeningIsSound}
use Rattle.executor.specs.States.{HasHistoryBelow}
use Rattle.executor.proofs.Fitting.{all_fit}

-- numbers have a greatest one
greatest-none : (xs : List ℕ) (x : ℕ) → greatest xs ≡ None → Has xs x → ⊥
greatest-none [] x e h = h
greatest-none (y ∷ ys) x e h = none-some _ (sym e)

-- a row of HISTORY has a number below the next one
below_next : (rows : Rows) (n : ℕ) (o : Option Row) → get rows (key.History n) ≡ o → IsSome o → n < next_number rows
unfolding next_number
below_next rows n None at there = let no : ⊥ = cc in absurd no
below_next rows n (Some row) at there = above (greatest (picked history_pick rows)) refl
  where
    above : (g : Option ℕ) → greatest (picked history_pick rows) ≡ g → n < unwrap_or g 0 + 1
    above None e = absurd (greatest-none (picked history_pick rows) n e (row-picked history_pick rows (key.History n) row n at refl))
    above (Some g) e =
        let last : n ≤ g = (greatest-is (picked history_pick rows) g e).1 n (row-picked history_pick rows (key.History n) row n at refl) in
        omega (arith, last)

pub opening_is_sound : OpeningIsSound
opening_is_sound db sound = record { database = sound; history = λ n there. below_next db.rows n (get db.rows (key.History n)) refl there }

history_on : (old new : Rows) (n : ℕ) → KeepsHistory old new n → HasHistoryBelow old n → HasHistoryBelow new (n + 1)
history_on old new n keeps below m there =
    elim (keeps m) [
      | inl same ↦ omega (arith, same)
      | inr same ↦ let low : m < n = below m (subst (λ o. IsSome o) same there) in omega (arith, low)
    ]

module _ (keeps : StepKeeps) (cards : Cards) (moment : ℕ) (timed : IsBetween 0 999999999999 moment) where
  abbrev IsSoundAt : Rows → ℕ → Type 0
  IsSoundAt rows next = IsSound (database cards rows) × HasHistoryBelow rows next

  sound_step : (rows : Rows) (n : ℕ) (q : Request) → IsSoundAt rows n → Fits n q → IsSoundAt (folds.after (steps_at cards moment) rows n q) (n + 1)
  unfolding after
  sound_step rows n q sound fits =
      let kept = keeps (database cards rows) q n moment sound.0 fits.1 fits.0 timed in
      (kept.sound, history_on rows (folds.after (steps_at cards moment) rows n q) n kept.history sound.1)

  sound_fold : (rows : Rows) (n : ℕ) (qs : List Request) → IsSoundAt rows n → AllFit Fits n qs → IsSoundAt (fold_rows (steps_at cards moment) rows n qs) (n + length qs)
  sound_fold rows n [] sound fits = subst (IsSoundAt rows) (let e : n ≡ n + 0 = omega arith in e) sound
  sound_fold rows n (q ∷ qs) sound fits =
      let end : Rows = fold_rows (steps_at cards moment) (folds.after (steps_at cards moment) rows n q) (n + 1) qs in
      subst (IsSoundAt end) (let e : (n + 1) + length qs ≡ n + length (q ∷ qs) = omega arith in e)
      (sound_fold (folds.after (steps_at cards moment) rows n q) (n + 1) qs (sound_step rows n q sound fits.0) fits.1)

pub batches_keep : StepKeeps → BatchesKeep
batches_keep keeps cards state batch sound limits =
    let h = sound_fold keeps cards batch.moment limits.moment_within state.rows state.next batch.requests (sound.database, sound.history) (all_fit batch.moment state.next batch.requests limits) in
    record { database = h.0; history = h.1 }
