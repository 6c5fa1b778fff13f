-- Runs of batches, and one batch more.
use Rattle.std.proofs.Common.{◌≡◌, ◌⊎◌, ◌≤◌, ◌∙◌, ◌+◌, ℕ, zero, suc, List, [], ◌∷◌, ◌++◌, length, take, Option, Some, None, inl, inr, refl, sym, ap, subst, append_assoc, arith}
use Rattle.std.specs.Prelude.{◌==◌, Result, Ok, Err}
use Rattle.std.proofs.lemmas.Bool.{cases_Bool}
use Rattle.std.proofs.lemmas.List.{append-nil, take_all}
use Rattle.std.specs.Io.KnownBytes.{Appends, Keeps}
use Rattle.catalog.specs.CardMap.{Cards}
use Rattle.executor.specs.Headline.{Headline, all_serially}
use Rattle.executor.specs.Chains.{Chain, committed, extended}
use Rattle.executor.specs.States.{IsSoundState}
use Rattle.executor.specs.declared.refusal.Refusal.TheVariants as refusal
use Rattle.requests.specs.BatchRecords.{head_at, request_at}
use Rattle.requests.specs.Batches.{End, Progress, Reading, StopsBy, batches, begun, between, clean, continued, fault, fault_of, reading_from, settled, with_front, within}
use Rattle.records.specs.Fields.{Fields}
use Rattle.records.specs.Records.{records_in}
use Rattle.records.specs.declared.fault.ReadError.{ReadError}
use Rattle.records.specs.declared.fault.FaultKind.{FaultKind}
use Rattle.records.specs.declared.fault.FaultKind.TheVariants as fault_kind
use Rattle.requests.specs.declared.request.Request.{Request}
use Rattle.records.specs.Io.{AppendsFront}
use Rattle.requests.specs.declared.request.Batch.{Batch}
use Rattle.records.proofs.IoLemmas.{appends_twice}
use Rattle.runner.specs.Runs.{AllFit, AreCompleted, Began, Completes, IsOfRecords, LeavesBatch, NumbersFit, Taken, TookFirst, TookFront, chain_on}
use Rattle.runner.specs.Text.{batch_text, text}
use Rattle.runner.specs.WholeRuns.{LeavesBehind, LeavesChain}
use Rattle.runner.specs.declared.fault.RunFault.{RunFault}
use Rattle.runner.specs.declared.fault.RunFault.TheVariants as run_fault
use Rattle.tpcc_model.specs.Database.{database}
use Rattle.tpcc_model.specs.Serial.{State, after_batch, serial}
use Rattle.tpcc_model.specs.Soundness.{IsSound}

-- nothing was appended
pub then_kept : (old mid new : Option (List ℕ)) (bytes : List ℕ) → Appends old mid bytes → Keeps mid new → Appends old new bytes
then_kept None mid new bytes a k = tt
then_kept (Some xs) None new bytes a k = absurd a
then_kept (Some xs) (Some ys) None bytes a k = absurd k
then_kept (Some xs) (Some ys) (Some zs) bytes a k = k ∙ a

-- ---- more batches

pub serial-more : (cards : Cards) (state : State) (done : List Batch) (batch : Batch) → serial cards state (done ++ batch ∷ []) ≡ after_batch cards (serial cards state done) batch
serial-more cards state [] batch = refl
serial-more cards state (b ∷ done) batch = serial-more cards (after_batch cards state b) done batch

pub chain-more : (cards : Cards) (state : State) (done : List Batch) (batch : Batch) → committed (extended (chain_on cards state done) batch) ≡ chain_on cards state (done ++ batch ∷ [])
chain-more cards state done batch = ap (λ (s : State). let l : Chain = record { cards = cards; earlier = []; present = s } in l) (sym (serial-more cards state done batch))

pub next-serial : (cards : Cards) (state : State) (done : List Batch) → 1 ≤ state.next → 1 ≤ (serial cards state done).next
next-serial cards state [] low = low
next-serial cards state (b ∷ done) low = let more : 1 ≤ state.next + length b.requests = omega (arith, low) in next-serial cards (after_batch cards state b) done more

pub text-both : (cards : Cards) (state : State) (done more : List Batch) → text cards state (done ++ more) ≡ text cards state done ++ text cards (serial cards state done) more
text-both cards state [] more = refl
text-both cards state (b ∷ done) more =
    ap (λ t. batch_text cards state b ++ t) (text-both cards (after_batch cards state b) done more)
    ∙ sym (append_assoc (batch_text cards state b) (text cards (after_batch cards state b) done) (text cards (serial cards (after_batch cards state b) done) more))

-- ---- completed batches
length-all : (cards : Cards) (state : State) (done : List Batch) → length (all_serially cards state done) ≡ length done
length-all cards state [] = refl
length-all cards state (b ∷ done) = ap suc (length-all cards (after_batch cards state b) done)

-- a batch more takes none of those before it
take-more : (count : ℕ) (done : List Batch) (batch : Batch) → count ≤ length (done ++ batch ∷ []) → (count ≤ length done × (take count (done ++ batch ∷ []) ≡ take count done)) ⊎ (take count (done ++ batch ∷ []) ≡ done ++ batch ∷ [])
take-more zero done batch low = inl (omega arith, refl)
take-more (suc zero) [] batch low = inr refl
take-more (suc (suc n)) [] batch low = absurd (omega (arith, low))
take-more (suc n) (b ∷ done) batch low = elim (take-more n done batch (omega (arith, low))) [
  | inl (few, same) ↦ inl (omega (arith, few), ap (λ (bs : List Batch). b ∷ bs) same)
  | inr same ↦ inr (ap (λ (bs : List Batch). b ∷ bs) same)
]

fit-more : (cards : Cards) (state : State) (done : List Batch) (batch : Batch) → AllFit cards state done → NumbersFit (serial cards state done) batch → AllFit cards state (done ++ batch ∷ [])
fit-more cards state [] batch all one = (one, tt)
fit-more cards state (b ∷ done) batch all one = (all.0, fit-more cards (after_batch cards state b) done batch all.1 one)

-- what one thread completes has the headline where each state on the way is sound
pub headline_by : (cards : Cards) (state : State) (done : List Batch)
    → ((count : ℕ) → count ≤ length done → IsSound (database cards (serial cards state (take count done)).rows))
    → Headline cards state done (all_serially cards state done) (serial cards state done)
headline_by cards state done sound =
    let same = length-all cards state done in
    let all : done ≡ take (length (all_serially cards state done)) done = sym (take_all (length (all_serially cards state done)) done (omega (arith, same))) in
    let low : (count : ℕ) → count ≤ length (all_serially cards state done) → count ≤ length done = λ count few. omega (arith, few, same) in
    record {
      batches_as_serial = ap (all_serially cards state) all;
      state_as_serial = ap (serial cards state) all;
      sound = λ count few. sound count (low count few);
      conditions = λ count few. let is = sound count (low count few) in record { condition_1 = is.condition_1; conditions_2_to_4 = is.districts };
    }

abbrev no_batch : List Batch
no_batch = []

take-none : (count : ℕ) → take count no_batch ≡ no_batch
take-none zero = refl
take-none (suc n) = refl

pub completed-none : (cards : Cards) (state : State) → IsSoundState cards state → AreCompleted cards state []
completed-none cards state sound =
    (tt, headline_by cards state no_batch (λ count low. subst (λ (bs : List Batch). IsSound (database cards (serial cards state bs).rows)) (sym (take-none count)) sound.database))

pub completed-more : (cards : Cards) (state : State) (done : List Batch) (batch : Batch) → AreCompleted cards state done → Completes cards (serial cards state done) batch → AreCompleted cards state (done ++ batch ∷ [])
completed-more cards state done batch all one = (fit-more cards state done batch all.0 one.0, headline_by cards state (done ++ batch ∷ []) each)
  where
    is_sound : List Batch → Type 0
    is_sound bs = IsSound (database cards (serial cards state bs).rows)

    each : (count : ℕ) → count ≤ length (done ++ batch ∷ []) → is_sound (take count (done ++ batch ∷ []))
    each count low = elim (take-more count done batch low) [
      | inl (few, same) ↦ subst is_sound (sym same) (all.1.sound count (let same_length = length-all cards state done in omega (arith, few, same_length)))
      | inr same ↦ subst is_sound (sym same) (subst (λ (s : State). IsSound (database cards s.rows)) (sym (serial-more cards state done batch)) one.1.database)
    ]

pub text-more : (cards : Cards) (state : State) (done : List Batch) (batch : Batch) (old mid new : Taken) → Appends old mid (text cards state done) → Appends mid new (batch_text cards (serial cards state done) batch)
    → Appends old new (text cards state (done ++ batch ∷ []))
text-more cards state done batch old mid new a b =
    let whole : text cards state (done ++ batch ∷ []) ≡ text cards state done ++ batch_text cards (serial cards state done) batch =
    text-both cards state done (batch ∷ []) ∙ ap (λ t. text cards state done ++ t) (append-nil (batch_text cards (serial cards state done) batch)) in
    subst (Appends old new) (sym whole) (appends_twice old mid new (text cards state done) (batch_text cards (serial cards state done) batch) a b)

-- ---- before the first batch
pub nothing_taken : (t : Taken) → Appends t t []
nothing_taken None = tt
nothing_taken (Some xs) = sym (append-nil xs)

pub took_none : (cards : Cards) (state : State) (all : List Batch) (t : Taken) → IsSoundState cards state → TookFirst cards state all [] t t
took_none cards state all t sound = (all, record { parts = refl; completed = completed-none cards state sound; written = nothing_taken t })

-- one batch more was read
pub reading-more : (all left new : Reading) (done : List Batch) (batch : Batch) → all ≡ (done ++ left.0, left.1) → left ≡ with_front batch new → all ≡ ((done ++ batch ∷ []) ++ new.0, new.1)
reading-more all left new done batch e split =
    e ∙ ap (λ (r : Reading). (done ++ r.0, r.1)) split ∙ ap (λ (bs : List Batch). (bs, new.1)) (sym (append_assoc done (batch ∷ []) new.0))

-- the batches, of which this one is the next
pub next_in : (all left new : Reading) (done : List Batch) (batch : Batch) → all ≡ (done ++ left.0, left.1) → left ≡ with_front batch new → all.0 ≡ done ++ batch ∷ new.0
next_in all left new done batch e split = ap (λ (r : Reading). r.0) e ∙ ap (λ (r : Reading). done ++ r.0) split

-- ---- a run that ends in the midst of a batch
module _ (cards : Cards) (state : State) (bytes : List ℕ) (done : List Batch) (batch : Batch) (rest : List Batch) (old mid new : Taken) (parts : (batches bytes).0 ≡ done ++ batch ∷ rest) (completed : AreCompleted cards state done) (written : Appends old mid (text cards state done)) where
  began : Keeps mid new → Began cards state (batches bytes).0 old new done (batch ∷ rest)
  began k = record { parts = parts; completed = completed; written = then_kept old mid new (text cards state done) written k }

  -- it was completed, and a beginning of its text was written
  front_written : Completes cards (serial cards state done) batch → AppendsFront mid new (batch_text cards (serial cards state done) batch) → TookFront cards state (batches bytes).0 (done ++ batch ∷ []) old new
  front_written completes b =
      let (front, back, cut, took) = b in
      let now = serial cards state done in
      let first = text cards state done in
      let whole : text cards state (done ++ batch ∷ []) ≡ (first ++ front) ++ back =
      text-both cards state done (batch ∷ []) ∙ ap (λ (t : List ℕ). first ++ t) (append-nil (batch_text cards now batch) ∙ cut) ∙ sym (append_assoc first front back) in
      (rest, parts ∙ sym (append_assoc done (batch ∷ []) rest), completed-more cards state done batch completed completes, (first ++ front, back, whole, appends_twice old mid new first front written took))

  pub left_in_batch : (e : RunFault) (last : Chain) → LeavesBatch e (chain_on cards state done) last batch mid new → LeavesChain e cards state bytes old new last
  left_in_batch (run_fault.Exec refusal.NumbersExhausted) last h = (done, (batch, rest, began h.2, h.0), h.1)
  left_in_batch (run_fault.Exec refusal.Memory) last h = (done, (batch ∷ rest, began h.1), h.0)
  left_in_batch (run_fault.Exec refusal.BatchTooLong) last h = absurd h
  left_in_batch (run_fault.Exec refusal.PointsFull) last h = absurd h
  left_in_batch (run_fault.Exec refusal.NoSuchPoint) last h = absurd h
  left_in_batch run_fault.Memory last h = (done, (batch ∷ rest, began h.1), h.0)
  left_in_batch run_fault.Write last h = (done ++ batch ∷ [], front_written h.0 h.2, h.1 ∙ chain-more cards state done batch)
  left_in_batch (run_fault.Read e) last h = absurd h
  left_in_batch (run_fault.Load e) last h = absurd h

-- ---- a run that can't read on
pub stopped_behind : (cards : Cards) (state : State) (bytes : List ℕ) (left : Reading) (done : List Batch) (e : ReadError) (old new : Taken) → batches bytes ≡ (done ++ left.0, left.1)
    → AreCompleted cards state done → Appends old new (text cards state done) → StopsBy e left → LeavesBehind (run_fault.Read e) cards state bytes done old new
stopped_behind cards state bytes left done e old new read completed written (inl memory) =
    inr (inr (memory, (left.0, record { parts = ap (λ (r : Reading). r.0) read; completed = completed; written = written })))
stopped_behind cards state bytes left done e old new read completed written (inr stopped) =
    let end : (batches bytes).1 ≡ fault e = ap (λ (r : Reading). r.1) read ∙ ap (λ (r : Reading). r.1) stopped in
    let parts : (batches bytes).0 ≡ done ++ [] = ap (λ (r : Reading). r.0) read ∙ ap (λ (r : Reading). done ++ r.0) stopped in
    inr (inl (end, record { parts = parts; completed = completed; written = written }))

-- ---- a run that read all batches
pub all_read : (all left : Reading) (done : List Batch) → all ≡ (done ++ left.0, left.1) → left ≡ ([], clean) → all.0 ≡ done
all_read all left done e end = ap (λ (r : Reading). r.0) e ∙ ap (λ (r : Reading). done ++ r.0) end ∙ append-nil done

-- ---- how the records of batches end
abbrev pub EndsByRecords : End → Type 0
EndsByRecords clean = Unit {0}
EndsByRecords (fault e) = IsOfRecords e

settled-ends : (head : _) (requests : List Request) (rest : Progress → Reading) → ((p : Progress) → EndsByRecords (rest p).1) → EndsByRecords (settled head requests rest).1
settled-ends head requests rest h = elim (cases_Bool (length requests == head.count)) [
  | inl whole ↦ rw whole (h between)
  | inr more ↦ rw more (h (within head requests))
]

fault_kind-ends : (n : ℕ) (s : FaultKind) → IsOfRecords (fault_of n s)
fault_kind-ends n fault_kind.BadField = tt
fault_kind-ends n fault_kind.WrongCount = tt
fault_kind-ends n fault_kind.OutOfRange = tt
fault_kind-ends n fault_kind.UnknownKind = tt
fault_kind-ends n fault_kind.BatchTooLong = tt

begun-ends : (n : ℕ) (r : _) (rest : Progress → Reading) → ((p : Progress) → EndsByRecords (rest p).1) → EndsByRecords (begun n r rest).1
begun-ends n (Ok head) rest h = settled-ends head [] rest h
begun-ends n (Err s) rest h = fault_kind-ends n s

continued-ends : (n : ℕ) (head : _) (requests : List Request) (r : Result Request FaultKind) (rest : Progress → Reading) → ((p : Progress) → EndsByRecords (rest p).1) → EndsByRecords (continued n head requests r rest).1
continued-ends n head requests (Ok request) rest h = settled-ends head (requests ++ request ∷ []) rest h
continued-ends n head requests (Err s) rest h = fault_kind-ends n s

reading-ends : (rows : List Fields) (n : ℕ) (p : Progress) → EndsByRecords (reading_from rows n p).1
unfolding reading_from
reading-ends [] n between = tt
reading-ends [] n (within head requests) = tt
reading-ends (r ∷ rs) n between = begun-ends n (head_at r) (reading_from rs (n + 1)) (λ p. reading-ends rs (n + 1) p)
reading-ends (r ∷ rs) n (within head requests) = continued-ends n head requests (request_at r) (reading_from rs (n + 1)) (λ p. reading-ends rs (n + 1) p)

-- the fault at which reading stops is one of records
pub stops_by_records : (bytes : List ℕ) (left : Reading) (done : List Batch) (e : ReadError) → batches bytes ≡ (done ++ left.0, left.1) → StopsBy e left → IsOfRecords e
stops_by_records bytes left done e read (inl memory) = subst IsOfRecords (sym memory) tt
stops_by_records bytes left done e read (inr stopped) =
    let end : (batches bytes).1 ≡ fault e = ap (λ (r : Reading). r.1) read ∙ ap (λ (r : Reading). r.1) stopped in
    subst EndsByRecords end (reading-ends (records_in bytes) 1 between)
