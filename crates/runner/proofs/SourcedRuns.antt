-- Runs of what sources gave.
use Rattle.std.proofs.Common.{◌≡◌, ◌≢◌, ◌+◌, ℕ, List, [], Option, Some, Result, Ok, Err, IfOk, IfErr, if◌then◌else◌, ap, refl, sym, subst}
use Rattle.std.specs.Io.KnownBytes.{Appends}
use Rattle.catalog.specs.CardMap.{Cards}
use Rattle.executor.specs.Chains.{Chain, opening_chain}
use Rattle.executor.specs.States.{IsSoundState}
use Rattle.loader.specs.Image.{image}
use Rattle.records.specs.Io.{AppendsFront, IsOfWholeInput}
use Rattle.records.specs.declared.fault.ReadError.{ReadError}
use Rattle.records.specs.declared.fault.ReadError.TheVariants as read_error
use Rattle.runner.proofs.StoredLemmas.{left_stored, left_whole, stored_whole, unopened_stored}
use Rattle.runner.proofs.WholeLemmas.{checks_image, counted_none, input_fault, leaves_check, left_run, opened_on, ran_whole, refused_on, same_kept, unchecked, unopened_run, unread}
use Rattle.runner.specs.CheckTexts.{ChecksImage, LeavesCheck, check_text}
use Rattle.runner.specs.Openings.{IsOpened, IsRefused, IsUnopened}
use Rattle.runner.specs.Runs.{Taken, chain_on}
use Rattle.runner.specs.StoredRuns.{LeavesStoredRun, LeavesStoredState, StoredBehind, StoredFrom, StoredWhole, in_run, state_image}
use Rattle.runner.specs.WholeRuns.{IsInputFault, IsOfDatabase, LeavesChain, LeavesRun, RanFrom, RanWhole, is_batches_read}
use Rattle.runner.specs.declared.fault.RunFault.{RunFault}
use Rattle.runner.specs.declared.fault.RunFault.TheVariants as run_fault
use Rattle.runner.specs.declared.store_fault.StoredRunFault.{StoredRunFault}
use Rattle.runner.specs.declared.store_fault.StoredRunFault.TheVariants as stored_fault
use Rattle.telling.proofs.SourceLemmas.{of_nothing, of_source}
use Rattle.telling.specs.Told.{IsOverLong, OfSource}
use Rattle.tpcc_model.specs.Database.{Database}
use Rattle.tpcc_model.specs.Serial.{State, opening}

-- ---- batches that couldn't be read
pub input_told : (left : Option (List ℕ)) (before after : List ℕ) (e : ReadError) → IsOfWholeInput e → OfSource left before after (IsOverLong e 1073741824) → OfSource left before after (IsInputFault e)
input_told left before after e kind long = of_source left before after (IsOverLong e 1073741824) (IsInputFault e) (λ bytes is. input_fault (Some bytes) e kind is) long

pub unread_told : (left : Option (List ℕ)) (before after : List ℕ) (e : ReadError) (cards : Cards) (state : State) (chain : Chain) (t : Taken) → chain ≡ chain_on cards state []
    → OfSource left before after (IsInputFault e) → OfSource left before after (λ batch_bytes. LeavesChain (run_fault.Read e) cards state batch_bytes t t chain)
unread_told left before after e cards state chain t same why =
    of_source left before after (IsInputFault e) (λ batch_bytes. LeavesChain (run_fault.Read e) cards state batch_bytes t t chain) (λ bytes is. unread (Some bytes) e cards state chain t is same) why

pub inputs_told : {A : Type 0} (left : Option (List ℕ)) (before after : List ℕ) (r : Result A ReadError) → IfErr r IsOfWholeInput → IfErr r (λ e. OfSource left before after (IsOverLong e 1073741824))
    → IfErr r (λ e. OfSource left before after (IsInputFault e))
inputs_told left before after (Ok text) kind long = tt
inputs_told left before after (Err e) kind long = input_told left before after e kind long

-- a failure of their source is counted
pub counted_read : {A : Type 0} (old new : ℕ) (e : ReadError) → (e ≡ read_error.Read → new ≡ old + 1) → ((let text : Result A ReadError = Err e in text ≢ Err read_error.Read) → new ≡ old)
    → new ≡ old + (if is_batches_read (let r : Result ℕ RunFault = Err (run_fault.Read e) in r) then 1 else 0)
counted_read old new read_error.Read failed other = failed refl
counted_read old new read_error.Memory failed other = counted_none old new (is_batches_read (let r : Result ℕ RunFault = Err (run_fault.Read read_error.Memory) in r)) refl (other (λ is. cc))
counted_read old new read_error.InputTooLong failed other = counted_none old new (is_batches_read (let r : Result ℕ RunFault = Err (run_fault.Read read_error.InputTooLong) in r)) refl (other (λ is. cc))
counted_read old new (read_error.BadField n) failed other = counted_none old new (is_batches_read (let r : Result ℕ RunFault = Err (run_fault.Read (read_error.BadField n)) in r)) refl (other (λ is. cc))
counted_read old new (read_error.WrongCount n) failed other = counted_none old new (is_batches_read (let r : Result ℕ RunFault = Err (run_fault.Read (read_error.WrongCount n)) in r)) refl (other (λ is. cc))
counted_read old new (read_error.OutOfRange n) failed other = counted_none old new (is_batches_read (let r : Result ℕ RunFault = Err (run_fault.Read (read_error.OutOfRange n)) in r)) refl (other (λ is. cc))
counted_read old new (read_error.UnknownKind n) failed other = counted_none old new (is_batches_read (let r : Result ℕ RunFault = Err (run_fault.Read (read_error.UnknownKind n)) in r)) refl (other (λ is. cc))
counted_read old new (read_error.BatchTooLong n) failed other = counted_none old new (is_batches_read (let r : Result ℕ RunFault = Err (run_fault.Read (read_error.BatchTooLong n)) in r)) refl (other (λ is. cc))

pub counted_stored : {A : Type 0} (old new : ℕ) (e : ReadError) (r : StoredRunFault) (text : List ℕ) (empty full : Taken) → StoredBehind (run_fault.Read e) r text empty full
    → (e ≡ read_error.Read → new ≡ old + 1) → ((let text : Result A ReadError = Err e in text ≢ Err read_error.Read) → new ≡ old)
    → new ≡ old + (if in_run is_batches_read (let s : Result ℕ StoredRunFault = Err r in s) then 1 else 0)
counted_stored old new e (stored_fault.Run f) text empty full stored failed other =
    subst (λ (f : RunFault). new ≡ old + (if is_batches_read (let r : Result ℕ RunFault = Err f in r) then 1 else 0)) (sym stored.0) (counted_read old new e failed other)
counted_stored old new e (stored_fault.Store store) text empty full stored failed other = absurd stored
counted_stored old new e (stored_fault.Both f store) text empty full stored failed other =
    subst (λ (f : RunFault). new ≡ old + (if is_batches_read (let r : Result ℕ RunFault = Err f in r) then 1 else 0)) (sym stored.0) (counted_read old new e failed other)

-- the image is stored all the same
pub stored_told : (left : Option (List ℕ)) (before after : List ℕ) (e : ReadError) (r : StoredRunFault) (chain : Chain) (old empty full : Taken) → chain.earlier ≡ []
    → OfSource left before after (IsInputFault e) → StoredBehind (run_fault.Read e) r (state_image chain.cards chain.present) empty full
    → OfSource left before after (λ batch_bytes. LeavesStoredState r chain.cards chain.present batch_bytes old old empty full)
stored_told left before after e r chain old empty full alone why stored =
    let same : chain ≡ chain_on chain.cards chain.present [] = ap (λ earlier. let l : Chain = record { cards = chain.cards; earlier = earlier; present = chain.present } in l) alone in
    of_source left before after (IsInputFault e) (λ batch_bytes. LeavesStoredState r chain.cards chain.present batch_bytes old old empty full)
    (λ bytes is. left_stored (Some bytes) (run_fault.Read e) r chain chain old old empty full (unread (Some bytes) e chain.cards chain.present chain old is same) stored) why

-- ---- an image, and what gave it
module _ (left : Option (List ℕ)) (before after : List ℕ) where
  pub opened_told : (db : Database) (chain : Chain) → chain ≡ opening_chain db.cards db.rows → OfSource left before after (λ bytes. image bytes ≡ Ok db) → OfSource left before after (λ bytes. IsOpened bytes chain)
  opened_told db chain same is = of_source left before after (λ bytes. image bytes ≡ Ok db) (λ bytes. IsOpened bytes chain) (λ bytes is. opened_on (Some bytes) db chain is same) is

  pub refused_told : (e : RunFault) (db : Database) → IsRefused e → IsSoundState db.cards (opening db.cards db.rows) → OfSource left before after (λ bytes. image bytes ≡ Ok db) → OfSource left before after (IsUnopened e)
  refused_told e db refused sound is = of_source left before after (λ bytes. image bytes ≡ Ok db) (IsUnopened e) (λ bytes is. refused_on e (Some bytes) db refused is sound) is

  -- ---- its chain
  pub checks_told : (chain : Chain) (old new : Taken) → Appends old new (check_text chain.cards chain.present) → OfSource left before after (λ bytes. IsOpened bytes chain) → OfSource left before after (λ bytes. ChecksImage bytes old new)
  checks_told chain old new written opened =
      of_source left before after (λ bytes. IsOpened bytes chain) (λ bytes. ChecksImage bytes old new) (λ bytes is. checks_image (Some bytes) chain old new is written) opened

  pub leaves_told : (chain : Chain) (old new : Taken) → AppendsFront old new (check_text chain.cards chain.present) → OfSource left before after (λ bytes. IsOpened bytes chain) → OfSource left before after (λ bytes. LeavesCheck run_fault.Write bytes old new)
  leaves_told chain old new written opened =
      of_source left before after (λ bytes. IsOpened bytes chain) (λ bytes. LeavesCheck run_fault.Write bytes old new) (λ bytes is. leaves_check (Some bytes) chain old new is written) opened

  pub unchecked_told : (e : RunFault) (t : Taken) → OfSource left before after (IsUnopened e) → OfSource left before after (λ bytes. LeavesCheck e bytes t t)
  unchecked_told e t why = of_source left before after (IsUnopened e) (λ bytes. LeavesCheck e bytes t t) (λ bytes is. unchecked (Some bytes) e t is) why

  pub memory_told : (chain : Chain) (t : Taken) → OfSource left before after (λ bytes. IsOpened bytes chain) → OfSource left before after (λ bytes. LeavesCheck run_fault.Memory bytes t t)
  memory_told chain t opened = of_source left before after (λ bytes. IsOpened bytes chain) (λ bytes. LeavesCheck run_fault.Memory bytes t t) (λ bytes is. same_kept t) opened

-- ---- runs on an image, of the batches that a second source gave
module _ (images : Option (List ℕ)) (images_before images_after : List ℕ) (left : Option (List ℕ)) (before : List ℕ) where
  -- of both
  abbrev Of : List ℕ → (List ℕ → List ℕ → Type 0) → Type 0
  Of after promise = OfSource images images_before images_after (λ image_bytes. OfSource left before after (promise image_bytes))

  pub both : (after : List ℕ) (P Q : List ℕ → Type 0) (R : List ℕ → List ℕ → Type 0) → ((i b : List ℕ) → P i → Q b → R i b) → OfSource images images_before images_after P → OfSource left before after Q → Of after R
  both after P Q R f p q = of_source images images_before images_after P (λ i. OfSource left before after (R i)) (λ i is. of_source left before after Q (R i) (λ b. f i b is) q) p

  pub first : (P : List ℕ → Type 0) (R : List ℕ → List ℕ → Type 0) → ((i b : List ℕ) → P i → R i b) → OfSource images images_before images_after P → Of before R
  first P R f p = of_source images images_before images_after P (λ i. OfSource left before before (R i)) (λ i is. of_nothing left before (R i) (λ b. f i b is)) p

  pub unopened_told : (e : RunFault) (t : Taken) → OfSource images images_before images_after (IsUnopened e) → Of before (λ i b. LeavesRun e i b t t)
  unopened_told e t why = first (IsUnopened e) (λ i b. LeavesRun e i b t t) (λ i b is. unopened_run (Some i) (Some b) e t is) why

  pub ran_told : (after : List ℕ) (r : Result ℕ RunFault) (chain : Chain) (old new : Taken) → OfSource images images_before images_after (λ i. IsOpened i chain)
      → IfOk r (λ count. OfSource left before after (λ b. RanFrom chain.cards chain.present b old new count)) → IfOk r (λ count. Of after (λ i b. RanWhole i b old new count))
  ran_told after (Err e) chain old new opened ran = tt
  ran_told after (Ok count) chain old new opened ran =
      both after (λ i. IsOpened i chain) (λ b. RanFrom chain.cards chain.present b old new count) (λ i b. RanWhole i b old new count)
      (λ i b from done. let r : Result ℕ RunFault = Ok count in ran_whole r (Some i) (Some b) chain old new from done) opened ran

  pub left_told : (after : List ℕ) (r : Result ℕ RunFault) (chain last : Chain) (old new : Taken) → OfSource images images_before images_after (λ i. IsOpened i chain) → IfErr r IsOfDatabase
      → IfErr r (λ e. OfSource left before after (λ b. LeavesChain e chain.cards chain.present b old new last)) → IfErr r (λ e. Of after (λ i b. LeavesRun e i b old new))
  left_told after (Ok count) chain last old new opened kind leaves = tt
  left_told after (Err e) chain last old new opened kind leaves =
      both after (λ i. IsOpened i chain) (λ b. LeavesChain e chain.cards chain.present b old new last) (λ i b. LeavesRun e i b old new)
      (λ i b from leaves. let r : Result ℕ RunFault = Err e in left_run r (Some i) (Some b) chain last old new from kind leaves) opened leaves

  -- ---- that store their last state
  pub unopened_stored_told : (e : RunFault) (t tables : Taken) → OfSource images images_before images_after (IsUnopened e) → Of before (λ i b. LeavesStoredRun (stored_fault.Run e) i b t t tables tables)
  unopened_stored_told e t tables why =
      first (IsUnopened e) (λ i b. LeavesStoredRun (stored_fault.Run e) i b t t tables tables) (λ i b is. unopened_stored (Some i) (Some b) e t tables is) why

  pub stored_whole_told : (after : List ℕ) (r : Result ℕ StoredRunFault) (chain : Chain) (old new empty full : Taken) → OfSource images images_before images_after (λ i. IsOpened i chain)
      → IfOk r (λ count. OfSource left before after (λ b. StoredFrom chain.cards chain.present b old new empty full count)) → IfOk r (λ count. Of after (λ i b. StoredWhole i b old new empty full count))
  stored_whole_told after (Err e) chain old new empty full opened ran = tt
  stored_whole_told after (Ok count) chain old new empty full opened ran =
      both after (λ i. IsOpened i chain) (λ b. StoredFrom chain.cards chain.present b old new empty full count) (λ i b. StoredWhole i b old new empty full count)
      (λ i b from done. let r : Result ℕ StoredRunFault = Ok count in stored_whole r (Some i) (Some b) chain old new empty full from done) opened ran

  pub left_stored_told : (after : List ℕ) (r : Result ℕ StoredRunFault) (chain : Chain) (old new empty full : Taken) → OfSource images images_before images_after (λ i. IsOpened i chain)
      → IfErr r (λ e. OfSource left before after (λ b. LeavesStoredState e chain.cards chain.present b old new empty full)) → IfErr r (λ e. Of after (λ i b. LeavesStoredRun e i b old new empty full))
  left_stored_told after (Ok count) chain old new empty full opened leaves = tt
  left_stored_told after (Err e) chain old new empty full opened leaves =
      both after (λ i. IsOpened i chain) (λ b. LeavesStoredState e chain.cards chain.present b old new empty full) (λ i b. LeavesStoredRun e i b old new empty full)
      (λ i b from leaves. let r : Result ℕ StoredRunFault = Err e in left_whole r (Some i) (Some b) chain old new empty full from leaves) opened leaves
