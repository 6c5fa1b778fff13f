-- The laws of levels, from the law that the transactions are framed.
use Rattle.std.proofs.Common.{◌<◌, ℕ, ◌+◌, List, [], ◌∷◌, inl, inr, sym, subst, arith}
use Rattle.std.proofs.lemmas.Bool.{cases_Bool}
use Rattle.serializability.specs.Folds.{after, fold_rows}
use Rattle.serializability.specs.Framed.{AllFit}
use Rattle.serializability.specs.Signatures.{meets_by}
use Rattle.serializability.proofs.Batches.{serial}
use Rattle.serializability.proofs.InTurn.{same_strays}
use Rattle.serializability.proofs.LevelNumbers.{levels_rise}
use Rattle.serializability.proofs.Signatures.{apart_by_bits}
use Rattle.serializability.proofs.Swaps.{swapped}
use Rattle.tpcc_model.specs.Database.{database}
use Rattle.tpcc_rows.specs.Limits.{IsBetween}
use Rattle.tpcc_rows.specs.RowMap.{Rows}
use Rattle.catalog.specs.CardMap.{Cards}
use Rattle.requests.specs.declared.request.Request.{Request}
use Rattle.tpcc_model.specs.Machine.{tpcc}
use Rattle.tpcc_model.specs.Soundness.{IsSound}
use Rattle.profiles.proofs.Declarations.{length-declared}
use Rattle.transactions.specs.Laws.{Fits, IsFramedMachine}
use Rattle.executor.specs.InOrder.{StraysAreInTurn}
use Rattle.executor.specs.LevelRuns.{declared_footprints}
use Rattle.executor.specs.Laws.{DeclaredLevelsAreSerial, LevelsAreSerial, MeetOnlyAbove, RequestsSwap}
use Rattle.executor.proofs.Fitting.{all_fit}

pub requests_swap : IsFramedMachine → RequestsSwap
requests_swap framed db moment m n a b e f sound timed fits_a fits_b apart_numbers within_a within_b apart =
    swapped (framed db.cards moment timed) db.rows m n a b e f sound fits_a fits_b apart_numbers within_a within_b apart

-- the rows stay sound, one request after the other
sound_fold : (framed : IsFramedMachine) (cards : Cards) (moment : ℕ) (timed : IsBetween 0 999999999999 moment) (rows : Rows) (n : ℕ) (qs : List Request) → IsSound (database cards rows) → AllFit Fits n qs
    → IsSound (database cards (fold_rows (tpcc cards moment).step rows n qs))
sound_fold framed cards moment timed rows n [] sound fits = sound
sound_fold framed cards moment timed rows n (q ∷ qs) sound fits = sound_fold framed cards moment timed (after (tpcc cards moment).step rows n q) (n + 1) qs ((framed cards moment timed).keeps rows n q sound fits.0) fits.1

pub levels_are_serial : IsFramedMachine → LevelsAreSerial
levels_are_serial framed code db moment first qs fs sound limits same stays =
    let fits = all_fit moment first qs limits in
    let run = serial (framed db.cards moment limits.moment_within) (meets_by code) (apart_by_bits code) db.rows first qs fs sound fits same stays in
    record {
      serial = run;
      sound = subst (λ rows. IsSound (database db.cards rows)) (sym run.rows_after) (sound_fold framed db.cards moment limits.moment_within db.rows first qs sound fits);
    }

pub declared_levels_are_serial : LevelsAreSerial → DeclaredLevelsAreSerial
declared_levels_are_serial levels code cards state batch sound limits stays =
    let run = levels code (database cards state.rows) batch.moment state.next batch.requests (declared_footprints cards state batch) sound limits
    (length-declared (database cards state.rows) batch.requests) stays in
    record { replies = run.serial.replies; rows = run.serial.rows_after }

pub strays_are_in_turn : IsFramedMachine → StraysAreInTurn
strays_are_in_turn framed code cards state batch sound limits =
    same_strays (framed cards batch.moment limits.moment_within) (meets_by code) (apart_by_bits code) state.rows state.next batch.requests (declared_footprints cards state batch) sound
    (all_fit batch.moment state.next batch.requests limits) (length-declared (database cards state.rows) batch.requests)

pub meet_only_above : MeetOnlyAbove
meet_only_above code fs i j e f k l before at_i at_j is_i is_j low =
    elim (cases_Bool (meets_by code e f)) [
      | inl t ↦ let above : k < l = levels_rise (meets_by code) fs i j e f k l before at_i at_j is_i is_j t in absurd (omega (arith, above, low))
      | inr t ↦ t
    ]
