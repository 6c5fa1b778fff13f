-- A run on the database of an image.
use Rattle.std.proofs.Common.{arith, ◌≡◌, ◌+◌, ◌<◌, ℕ, List, [], length, inl, inr, sym, subst, append-nil, refl, true, false, if◌then◌else◌, Bool, Option, Some, None, Result, Ok, Err, IfOk, IfErr, IfSome, OnErr, OnOk, is_err}
use Rattle.std.specs.Io.KnownBytes.{Appends, Keeps}
use Rattle.catalog.specs.CardMap.{Cards}
use Rattle.executor.specs.Chains.{Chain, opening_chain}
use Rattle.executor.specs.States.{IsSoundState}
use Rattle.executor.specs.declared.refusal.Refusal.TheVariants as refusal
use Rattle.loader.specs.Image.{image}
use Rattle.records.specs.Io.{AppendsFront, IsOfWholeInput}
use Rattle.requests.specs.Batches.{batches}
use Rattle.runner.proofs.RunLemmas.{then_kept, took_none}
use Rattle.runner.specs.CheckTexts.{ChecksImage, LeavesCheck, check_text}
use Rattle.runner.specs.Openings.{IsOfOpening, IsOpened, IsRefused, IsUnopened}
use Rattle.records.specs.declared.fault.ReadError.{ReadError}
use Rattle.records.specs.declared.fault.ReadError.TheVariants as read_error
use Rattle.runner.specs.Runs.{IsOfBatches, Taken, chain_on}
use Rattle.runner.specs.WholeRuns.{IsInputFault, IsOfDatabase, LeavesBehind, LeavesDatabase, LeavesChain, LeavesRun, RanFrom, RanWhole, is_batches_read, is_image_read}
use Rattle.runner.specs.declared.fault.RunFault.{RunFault}
use Rattle.runner.specs.declared.fault.RunFault.TheVariants as run_fault
use Rattle.tpcc_model.specs.Database.{Database}
use Rattle.tpcc_model.specs.Serial.{State, opening}

-- ---- before the first batch
pub opened_on : (images : Option (List ℕ)) (db : Database) (chain : Chain) → IfSome images (λ image_bytes. image image_bytes ≡ Ok db) → chain ≡ opening_chain db.cards db.rows
    → IfSome images (λ image_bytes. IsOpened image_bytes chain)
opened_on None db chain is same = tt
opened_on (Some image_bytes) db chain is same = (db, is, same)

-- memory was refused for the database of an image
pub refused_on : (e : RunFault) (images : Option (List ℕ)) (db : Database) → IsRefused e → IfSome images (λ image_bytes. image image_bytes ≡ Ok db) → IsSoundState db.cards (opening db.cards db.rows)
    → IfSome images (λ image_bytes. IsUnopened e image_bytes)
refused_on e None db refused is sound = tt
refused_on e (Some image_bytes) db (inl load) is sound = subst (λ (f : RunFault). IsUnopened f image_bytes) (sym load) (inl refl)
refused_on e (Some image_bytes) db (inr exec) is sound = subst (λ (f : RunFault). IsUnopened f image_bytes) (sym exec) (db, is, sound)

pub refused_opening : (e : RunFault) → IsRefused e → IsOfOpening e
refused_opening e (inl load) = subst IsOfOpening (sym load) tt
refused_opening e (inr exec) = subst IsOfOpening (sym exec) tt

-- ---- a run that ends before its first batch
pub same_kept : (t : Taken) → Keeps t t
same_kept None = tt
same_kept (Some xs) = refl

unopened_by : (e : RunFault) (image_bytes batch_bytes : List ℕ) (t : Taken) → IsUnopened e image_bytes → LeavesRun e image_bytes batch_bytes t t
unopened_by (run_fault.Load e) image_bytes batch_bytes t why = (why, same_kept t)
unopened_by (run_fault.Exec refusal.Memory) image_bytes batch_bytes t why =
    let (db, is, sound) = why in
    (db, is, ([], took_none db.cards (opening db.cards db.rows) (batches batch_bytes).0 t sound))
unopened_by (run_fault.Exec refusal.BatchTooLong) image_bytes batch_bytes t why = absurd why
unopened_by (run_fault.Exec refusal.PointsFull) image_bytes batch_bytes t why = absurd why
unopened_by (run_fault.Exec refusal.NoSuchPoint) image_bytes batch_bytes t why = absurd why
unopened_by (run_fault.Exec refusal.NumbersExhausted) image_bytes batch_bytes t why = absurd why
unopened_by (run_fault.Read e) image_bytes batch_bytes t why = absurd why
unopened_by run_fault.Write image_bytes batch_bytes t why = absurd why
unopened_by run_fault.Memory image_bytes batch_bytes t why = absurd why

pub unopened_run : (images left : Option (List ℕ)) (e : RunFault) (t : Taken) → IfSome images (λ image_bytes. IsUnopened e image_bytes)
    → IfSome images (λ image_bytes. IfSome left (λ batch_bytes. LeavesRun e image_bytes batch_bytes t t))
unopened_run None left e t why = tt
unopened_run (Some image_bytes) None e t why = tt
unopened_run (Some image_bytes) (Some batch_bytes) e t why = unopened_by e image_bytes batch_bytes t why

-- the batches couldn't be read
pub input_fault : (left : Option (List ℕ)) (e : ReadError) → IsOfWholeInput e → (e ≡ read_error.InputTooLong → IfSome left (λ batch_bytes. 1073741824 < length batch_bytes)) → IfSome left (λ batch_bytes. IsInputFault e batch_bytes)
input_fault None e kind long = tt
input_fault (Some batch_bytes) read_error.Memory kind long = inl refl
input_fault (Some batch_bytes) read_error.Read kind long = inr (inl refl)
input_fault (Some batch_bytes) read_error.InputTooLong kind long = inr (inr (refl, long refl))
input_fault (Some batch_bytes) (read_error.BadField n) kind long = absurd kind
input_fault (Some batch_bytes) (read_error.WrongCount n) kind long = absurd kind
input_fault (Some batch_bytes) (read_error.OutOfRange n) kind long = absurd kind
input_fault (Some batch_bytes) (read_error.UnknownKind n) kind long = absurd kind
input_fault (Some batch_bytes) (read_error.BatchTooLong n) kind long = absurd kind

pub unread : (left : Option (List ℕ)) (e : ReadError) (cards : Cards) (state : State) (chain : Chain) (t : Taken) → IfSome left (λ batch_bytes. IsInputFault e batch_bytes) → chain ≡ chain_on cards state []
    → IfSome left (λ batch_bytes. LeavesChain (run_fault.Read e) cards state batch_bytes t t chain)
unread None e cards state chain t why same = tt
unread (Some batch_bytes) e cards state chain t why same = ([], inl (why, refl, same_kept t), same)

-- ---- an image that was read before
pub no_image_read : (r : Result ℕ RunFault) → IfErr r IsOfDatabase → is_image_read r ≡ false
no_image_read (Ok count) kind = refl
no_image_read (Err (run_fault.Load e)) kind = absurd kind
no_image_read (Err (run_fault.Read e)) kind = refl
no_image_read (Err (run_fault.Exec r)) kind = refl
no_image_read (Err run_fault.Write) kind = refl
no_image_read (Err run_fault.Memory) kind = refl

-- ---- batches that are in memory, which aren't read again
pub no_batches_read : (r : Result ℕ RunFault) → IfErr r IsOfBatches → is_batches_read r ≡ false
no_batches_read (Ok count) kind = refl
no_batches_read (Err (run_fault.Load e)) kind = absurd kind
no_batches_read (Err (run_fault.Read (read_error.BadField n))) kind = refl
no_batches_read (Err (run_fault.Read (read_error.WrongCount n))) kind = refl
no_batches_read (Err (run_fault.Read (read_error.OutOfRange n))) kind = refl
no_batches_read (Err (run_fault.Read (read_error.UnknownKind n))) kind = refl
no_batches_read (Err (run_fault.Read (read_error.BatchTooLong n))) kind = refl
no_batches_read (Err (run_fault.Read read_error.Memory)) kind = refl
no_batches_read (Err (run_fault.Read read_error.Read)) kind = absurd kind
no_batches_read (Err (run_fault.Read read_error.InputTooLong)) kind = absurd kind
no_batches_read (Err (run_fault.Exec r)) kind = refl
no_batches_read (Err run_fault.Write) kind = refl
no_batches_read (Err run_fault.Memory) kind = refl

pub counted_none : (old new : ℕ) (is : Bool) → is ≡ false → new ≡ old → new ≡ old + (if is then 1 else 0)
counted_none old new true off same = cc
counted_none old new false off same = omega (arith, same)

-- ---- a run on the database of an image
pub ran_whole : (r : Result ℕ RunFault) (images left : Option (List ℕ)) (chain : Chain) (old new : Taken) → IfSome images (λ image_bytes. IsOpened image_bytes chain)
    → IfOk r (λ count. IfSome left (λ batch_bytes. RanFrom chain.cards chain.present batch_bytes old new count))
    → IfOk r (λ count. IfSome images (λ image_bytes. IfSome left (λ batch_bytes. RanWhole image_bytes batch_bytes old new count)))
ran_whole (Err e) images left chain old new opened ran = tt
ran_whole (Ok count) None left chain old new opened ran = tt
ran_whole (Ok count) (Some image_bytes) None chain old new opened ran = tt
ran_whole (Ok count) (Some image_bytes) (Some batch_bytes) chain old new opened ran =
    let (db, is, same) = opened in
    (db, is, subst (λ (l : Chain). RanFrom l.cards l.present batch_bytes old new count) same ran)

left_by : (e : RunFault) (image_bytes batch_bytes : List ℕ) (db : Database) (old new : Taken) → image image_bytes ≡ Ok db → IsOfDatabase e → LeavesDatabase e db batch_bytes old new → LeavesRun e image_bytes batch_bytes old new
left_by (run_fault.Load e) image_bytes batch_bytes db old new is kind left = absurd kind
left_by (run_fault.Read e) image_bytes batch_bytes db old new is kind left = (db, is, left)
left_by (run_fault.Exec r) image_bytes batch_bytes db old new is kind left = (db, is, left)
left_by run_fault.Write image_bytes batch_bytes db old new is kind left = (db, is, left)
left_by run_fault.Memory image_bytes batch_bytes db old new is kind left = (db, is, left)

pub left_run : (r : Result ℕ RunFault) (images left : Option (List ℕ)) (chain last : Chain) (old new : Taken) → IfSome images (λ image_bytes. IsOpened image_bytes chain) → IfErr r IsOfDatabase
    → IfErr r (λ e. IfSome left (λ batch_bytes. LeavesChain e chain.cards chain.present batch_bytes old new last))
    → IfErr r (λ e. IfSome images (λ image_bytes. IfSome left (λ batch_bytes. LeavesRun e image_bytes batch_bytes old new)))
left_run (Ok count) images left chain last old new opened kind leaves = tt
left_run (Err e) None left chain last old new opened kind leaves = tt
left_run (Err e) (Some image_bytes) None chain last old new opened kind leaves = tt
left_run (Err e) (Some image_bytes) (Some batch_bytes) chain last old new opened kind leaves =
    let (db, is, same) = opened in
    let (done, behind, _) = leaves in
    left_by e image_bytes batch_bytes db old new is kind (done, subst (λ (l : Chain). LeavesBehind e l.cards l.present batch_bytes done old new) same behind)

-- ---- the chain of an image
pub where_failed : {A E P : Type 0} (r : Result A E) → OnErr r P → is_err r ≡ true → P
where_failed (Ok a) h failed = cc
where_failed (Err e) h failed = h

pub where_fine : {A E P : Type 0} (r : Result A E) → OnOk r P → is_err r ≡ false → P
where_fine (Ok a) h fine = h
where_fine (Err e) h fine = cc

pub checks_image : (images : Option (List ℕ)) (chain : Chain) (old new : Taken) → IfSome images (λ image_bytes. IsOpened image_bytes chain) → Appends old new (check_text chain.cards chain.present)
    → IfSome images (λ image_bytes. ChecksImage image_bytes old new)
checks_image None chain old new opened written = tt
checks_image (Some bytes) chain old new opened written =
    let (db, is, same) = opened in
    (db, is, subst (λ (l : Chain). Appends old new (check_text l.cards l.present)) same written)

pub leaves_check : (images : Option (List ℕ)) (chain : Chain) (old new : Taken) → IfSome images (λ image_bytes. IsOpened image_bytes chain) → AppendsFront old new (check_text chain.cards chain.present)
    → IfSome images (λ image_bytes. LeavesCheck run_fault.Write image_bytes old new)
leaves_check None chain old new opened written = tt
leaves_check (Some bytes) chain old new opened written =
    let (db, is, same) = opened in
    (db, is, subst (λ (l : Chain). AppendsFront old new (check_text l.cards l.present)) same written)

unchecked_by : (e : RunFault) (image_bytes : List ℕ) (t : Taken) → IsUnopened e image_bytes → LeavesCheck e image_bytes t t
unchecked_by (run_fault.Load e) image_bytes t why = (why, same_kept t)
unchecked_by (run_fault.Exec refusal.Memory) image_bytes t why = same_kept t
unchecked_by (run_fault.Exec refusal.BatchTooLong) image_bytes t why = absurd why
unchecked_by (run_fault.Exec refusal.PointsFull) image_bytes t why = absurd why
unchecked_by (run_fault.Exec refusal.NoSuchPoint) image_bytes t why = absurd why
unchecked_by (run_fault.Exec refusal.NumbersExhausted) image_bytes t why = absurd why
unchecked_by (run_fault.Read e) image_bytes t why = absurd why
unchecked_by run_fault.Write image_bytes t why = absurd why
unchecked_by run_fault.Memory image_bytes t why = absurd why

pub unchecked : (images : Option (List ℕ)) (e : RunFault) (t : Taken) → IfSome images (λ image_bytes. IsUnopened e image_bytes) → IfSome images (λ image_bytes. LeavesCheck e image_bytes t t)
unchecked None e t why = tt
unchecked (Some image_bytes) e t why = unchecked_by e image_bytes t why

pub appends_front : (old mid new : Taken) (text : List ℕ) → Appends old mid text → Keeps mid new → AppendsFront old new text
appends_front old mid new text written kept = (text, [], sym (append-nil text), then_kept old mid new text written kept)
