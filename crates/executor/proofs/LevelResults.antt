-- What the run of levels asks for, and what it comes to.
use Rattle.std.proofs.Common.{◌≡◌, inl, inr, ℕ, zero, suc, ◌+◌, ◌<◌, Bool, true, false, List, [], ◌∷◌, length, map, get_or, Option, Some, None, Result, Ok, Err, IsSome, IsErrAnd, IfErr, Bor, slice_get, refl, sym, ap, subst, ◌∙◌, arith}
use Rattle.std.specs.FinMap.{find}
use Rattle.std.specs.List.{All}
use Rattle.std.specs.Option.{option_copied}
use Rattle.std.specs.Ordering.{nat_cmp}
use Rattle.serializability.specs.Footprints.{Footprint, Has}
use Rattle.serializability.specs.Levels as levels
use Rattle.serializability.specs.Levels.{Job}
use Rattle.signatures_simd.specs.Bits.{bit}
use Rattle.serializability.proofs.Folding.{length-fold_replies}
use Rattle.tpcc_model.specs.Database.{database}
use Rattle.tpcc_rows.specs.declared.granule.Granule.{Granule}
use Rattle.catalog.specs.CardMap.{Cards}
use Rattle.requests.specs.declared.request.Batch.{Batch}
use Rattle.requests.specs.declared.reply.Reply.{Reply}
use Rattle.requests.specs.declared.request.Request.{Request}
use Rattle.tpcc_model.specs.Machine.{tpcc}
use Rattle.tpcc_model.specs.Serial.{State, batch_replies, batch_rows}
use Rattle.tpcc_model.specs.Soundness.{IsSound}
use Rattle.tpcc_model.specs.Steps.{steps_at}
use Rattle.transactions.specs.declared.stop.Stop.{Stop}
use Rattle.transactions.specs.declared.stop.Stop.TheVariants as stop
use Rattle.workers.specs.LevelEnds.{StraysWhere}
use Rattle.executor.specs.Laws.{DeclaredLevelsAreSerial, RunsAsSerial}
use Rattle.executor.specs.InOrder.{StraysAreInTurn}
use Rattle.executor.specs.LevelRuns.{IsCutBySome, declared_footprints, declared_levels, levels_by, strays}
use Rattle.executor.specs.Slots.{Slots, reply_at}
use Rattle.executor.specs.States.{AreWithinLimits}

-- ---- the places of a level
pub lent_at : {X : Type 0} (o : Option (Bor X)) (x : X) → option_copied o ≡ Some x → IsSome o
lent_at None x at = cc
lent_at (Some b) x at = refl

has_at : (places : List ℕ) (k d : ℕ) → k < length places → Has places (get_or places k d)
has_at [] k d below = absurd (omega (arith, below))
has_at (place ∷ places) zero d below = inl refl
has_at (place ∷ places) (suc k) d below = inr (has_at places k d (omega (arith, below)))

pub each_place : (P : ℕ → Type 0) (places : List ℕ) → ((place : ℕ) → Has places place → P place) → All P places
each_place P places f k d below = f (get_or places k d) (has_at places k d below)

-- ---- errors
pub stray_up : {A : Type 0} (level whole : Bool) (e : Stop) (result : Result A Stop) → (level ≡ true → whole ≡ true) → StraysWhere level e → IsErrAnd result (λ f. f ≡ e) → IfErr result (StraysWhere whole)
stray_up level whole e (Ok x) then strays by = absurd by
stray_up level whole stop.Strayed (Err f) then strays by = subst (StraysWhere whole) (sym by) (then strays)
stray_up level whole stop.Memory (Err f) then strays by = subst (StraysWhere whole) (sym by) tt

-- ---- replies in the order of the batch
-- each is in the slot of its place
all_there : (slots : Slots) (wanted : List Reply) → length slots ≡ length wanted → ((place : ℕ) → place < length wanted → reply_at slots place ≡ slice_get wanted place) → slots ≡ map Some wanted
all_there [] [] size at = refl
all_there [] (reply ∷ wanted) size at = absurd (omega arith)
all_there (slot ∷ slots) [] size at = absurd (omega arith)
all_there (slot ∷ slots) (reply ∷ wanted) size at =
    let here : slot ≡ Some reply = at 0 (omega arith) in
    let rest : slots ≡ map Some wanted = all_there slots wanted (omega arith) (λ place below. at (suc place) (omega (arith, below))) in
    (λ i. here i ∷ rest i)

-- so none is empty
pub none_empty : (slots : Slots) (wanted : List Reply) → slots ≡ map Some wanted → All IsSome slots
none_empty slots wanted are = subst (All IsSome) (sym are) (all_some wanted)
  where
    all_some : (replies : List Reply) → All IsSome (map Some replies)
    all_some [] k d below = absurd (omega (arith, below))
    all_some (reply ∷ replies) zero d below = refl
    all_some (reply ∷ replies) (suc k) d below = all_some replies k d (omega (arith, below))

pub same_replies : (replies wanted : List Reply) → map Some replies ≡ map Some wanted → replies ≡ wanted
same_replies [] [] same = refl
same_replies [] (y ∷ ys) same = cc
same_replies (x ∷ xs) [] same = cc
same_replies (x ∷ xs) (y ∷ ys) same =
    let here : x ≡ y = cc in
    let behind : map Some xs ≡ map Some ys = cc in
    let rest : xs ≡ ys = same_replies xs ys behind in
    (λ i. here i ∷ rest i)

-- ---- the levels of a cut by what the requests declare
module _ (cards : Cards) (state : State) (batch : Batch) (footprints : List (Footprint Granule)) (declared : footprints ≡ declared_footprints cards state batch) (cut : List (List ℕ)) (by : IsCutBySome footprints cut) (sound : IsSound (database cards state.rows)) (limits : AreWithinLimits batch.moment state.next batch.requests) where
  abbrev pub cut_levels : List (List (Job Granule Request))
  cut_levels = map (levels.jobs_at (levels.jobs state.next batch.requests footprints)) cut

  levels_are : cut_levels ≡ declared_levels by.0 cards state batch
  levels_are =
      ap (map (levels.jobs_at (levels.jobs state.next batch.requests footprints))) by.1
      ∙ ap (λ (fs : List (Footprint Granule)). levels_by by.0 state.next batch.requests fs) declared

  -- whatever numbers it is by, a request strays in it where one strays by the bits of signatures
  pub strays_are : StraysAreInTurn → levels.strays (tpcc cards batch.moment) state.rows cut_levels ≡ strays cards state batch
  strays_are law =
      ap (levels.strays (tpcc cards batch.moment) state.rows) levels_are ∙ law by.0 cards state batch sound limits ∙ sym (law bit cards state batch sound limits)

  -- where none strays, they are the requests one after the other
  module _ (law : DeclaredLevelsAreSerial) (stays : levels.strays (tpcc cards batch.moment) state.rows cut_levels ≡ false) where
    as_serial : RunsAsSerial by.0 cards state batch
    as_serial = law by.0 cards state batch sound limits (sym (ap (levels.strays (tpcc cards batch.moment) state.rows) levels_are) ∙ stays)

    pub rows_are : levels.run_rows (tpcc cards batch.moment) state.rows cut_levels ≡ batch_rows cards state batch
    rows_are = ap (levels.run_rows (tpcc cards batch.moment) state.rows) levels_are ∙ as_serial.rows

    -- and the slots with what they reply have the replies of the batch
    pub slots_are : (slots : Slots) → length slots ≡ length batch.requests
        → ((place : ℕ) → place < length batch.requests → reply_at slots place ≡ find nat_cmp (state.next + place) (levels.run_replies (tpcc cards batch.moment) state.rows cut_levels))
        → slots ≡ map Some (batch_replies cards state batch)
    slots_are slots size have =
        let count = length-fold_replies (steps_at cards batch.moment) state.rows state.next batch.requests in
        all_there slots (batch_replies cards state batch) (size ∙ sym count) (λ place below.
        have place (omega (arith, below, count))
        ∙ ap (λ (found : List (List (Job Granule Request))). find nat_cmp (state.next + place) (levels.run_replies (tpcc cards batch.moment) state.rows found)) levels_are
        ∙ as_serial.replies place)
