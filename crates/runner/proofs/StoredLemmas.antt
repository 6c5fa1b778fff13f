-- Runs that store the image of their last state.
use Rattle.std.proofs.Common.{◌≡◌, ◌≢◌, ℕ, List, Option, Some, None, Result, Ok, Err, false, IfOk, IfErr, IfSome, inl, inr, refl, subst, sym}
use Rattle.std.specs.Io.KnownBytes.{Appends}
use Rattle.executor.specs.Chains.{Chain}
use Rattle.runner.proofs.WholeLemmas.{no_image_read, same_kept}
use Rattle.runner.specs.Openings.{IsOpened, IsUnopened}
use Rattle.runner.specs.Runs.{Taken}
use Rattle.runner.specs.StoredRuns.{IsOfStoredDatabase, LeavesBoth, LeavesStore, LeavesStoredRun, LeavesStoredState, StoredBehind, StoredFrom, StoredWhole, StoresBehind, image_behind, in_run, state_image}
use Rattle.runner.specs.WholeRuns.{LeavesBehind, LeavesChain, is_image_read}
use Rattle.runner.specs.declared.fault.RunFault.{RunFault}
use Rattle.runner.specs.declared.fault.RunFault.TheVariants as run_fault
use Rattle.runner.specs.declared.store_fault.StoreFault.{StoreFault}
use Rattle.runner.specs.declared.store_fault.StoredRunFault.{StoredRunFault}
use Rattle.runner.specs.declared.store_fault.StoredRunFault.TheVariants as stored_fault

-- ---- behind a fault of the run
pub stored_behind : (e : RunFault) (text : List ℕ) (empty full : Taken) → e ≢ run_fault.Write → Appends empty full text → StoresBehind e text empty full
stored_behind (run_fault.Load e) text empty full other written = written
stored_behind (run_fault.Read e) text empty full other written = written
stored_behind (run_fault.Exec r) text empty full other written = written
stored_behind run_fault.Write text empty full other written = absurd (other refl)
stored_behind run_fault.Memory text empty full other written = written

pub unstored_behind : (e : RunFault) (store : StoreFault) (text : List ℕ) (empty full : Taken) → e ≢ run_fault.Write → LeavesStore store text empty full → LeavesBoth e store text empty full
unstored_behind (run_fault.Load e) store text empty full other left = left
unstored_behind (run_fault.Read e) store text empty full other left = left
unstored_behind (run_fault.Exec r) store text empty full other left = left
unstored_behind run_fault.Write store text empty full other left = absurd (other refl)
unstored_behind run_fault.Memory store text empty full other left = left

-- ---- a run from a state
module _ (fault : RunFault) (chain last : Chain) (bytes : List ℕ) (old new empty full : Taken) where
  leaves_stored : (r : StoredRunFault) → LeavesChain fault chain.cards chain.present bytes old new last → StoredBehind fault r (state_image last.cards last.present) empty full
      → LeavesStoredState r chain.cards chain.present bytes old new empty full
  leaves_stored (stored_fault.Run e) left stored =
      let (done, behind, same) = left in
      let image = image_behind chain.cards chain.present done in
      let kept : StoresBehind fault image empty full = subst (λ (l : Chain). StoresBehind fault (state_image l.cards l.present) empty full) same stored.1 in
      (done, subst (λ (f : RunFault). LeavesBehind f chain.cards chain.present bytes done old new) (sym stored.0) behind, subst (λ (f : RunFault). StoresBehind f image empty full) (sym stored.0) kept)
  leaves_stored (stored_fault.Store store) left stored = absurd stored
  leaves_stored (stored_fault.Both e store) left stored =
      let (done, behind, same) = left in
      let image = image_behind chain.cards chain.present done in
      let kept : LeavesBoth fault store image empty full = subst (λ (l : Chain). LeavesBoth fault store (state_image l.cards l.present) empty full) same stored.1 in
      (done, subst (λ (f : RunFault). LeavesBehind f chain.cards chain.present bytes done old new) (sym stored.0) behind, subst (λ (f : RunFault). LeavesBoth f store image empty full) (sym stored.0) kept)

pub left_stored : (batches : Option (List ℕ)) (fault : RunFault) (r : StoredRunFault) (chain last : Chain) (old new empty full : Taken)
    → IfSome batches (λ batch_bytes. LeavesChain fault chain.cards chain.present batch_bytes old new last) → StoredBehind fault r (state_image last.cards last.present) empty full
    → IfSome batches (λ batch_bytes. LeavesStoredState r chain.cards chain.present batch_bytes old new empty full)
left_stored None fault r chain last old new empty full left stored = tt
left_stored (Some bytes) fault r chain last old new empty full left stored = leaves_stored fault chain last bytes old new empty full r left stored

-- ---- an image that was read before
pub no_image_of : (r : Result ℕ StoredRunFault) → IfErr r IsOfStoredDatabase → in_run is_image_read r ≡ false
no_image_of (Ok count) kind = refl
no_image_of (Err (stored_fault.Run e)) kind = no_image_read (Err e) kind
no_image_of (Err (stored_fault.Store store)) kind = refl
no_image_of (Err (stored_fault.Both e store)) kind = no_image_read (Err e) kind

-- ---- a run on the database of an image
pub unopened_stored : (images batches : Option (List ℕ)) (e : RunFault) (taken tables : Taken) → IfSome images (λ image_bytes. IsUnopened e image_bytes)
    → IfSome images (λ image_bytes. IfSome batches (λ batch_bytes. LeavesStoredRun (stored_fault.Run e) image_bytes batch_bytes taken taken tables tables))
unopened_stored None batches e taken tables why = tt
unopened_stored (Some image_bytes) None e taken tables why = tt
unopened_stored (Some image_bytes) (Some batch_bytes) e taken tables why = inl (why, same_kept taken, same_kept tables)

pub stored_whole : (r : Result ℕ StoredRunFault) (images batches : Option (List ℕ)) (chain : Chain) (old new empty full : Taken) → IfSome images (λ image_bytes. IsOpened image_bytes chain)
    → IfOk r (λ count. IfSome batches (λ batch_bytes. StoredFrom chain.cards chain.present batch_bytes old new empty full count))
    → IfOk r (λ count. IfSome images (λ image_bytes. IfSome batches (λ batch_bytes. StoredWhole image_bytes batch_bytes old new empty full count)))
stored_whole (Err e) images batches chain old new empty full opened ran = tt
stored_whole (Ok count) None batches chain old new empty full opened ran = tt
stored_whole (Ok count) (Some image_bytes) None chain old new empty full opened ran = tt
stored_whole (Ok count) (Some image_bytes) (Some batch_bytes) chain old new empty full opened ran =
    let (db, is, same) = opened in
    (db, is, subst (λ (l : Chain). StoredFrom l.cards l.present batch_bytes old new empty full count) same ran)

pub left_whole : (r : Result ℕ StoredRunFault) (images batches : Option (List ℕ)) (chain : Chain) (old new empty full : Taken) → IfSome images (λ image_bytes. IsOpened image_bytes chain)
    → IfErr r (λ e. IfSome batches (λ batch_bytes. LeavesStoredState e chain.cards chain.present batch_bytes old new empty full))
    → IfErr r (λ e. IfSome images (λ image_bytes. IfSome batches (λ batch_bytes. LeavesStoredRun e image_bytes batch_bytes old new empty full)))
left_whole (Ok count) images batches chain old new empty full opened left = tt
left_whole (Err e) None batches chain old new empty full opened left = tt
left_whole (Err e) (Some image_bytes) None chain old new empty full opened left = tt
left_whole (Err e) (Some image_bytes) (Some batch_bytes) chain old new empty full opened left =
    let (db, is, same) = opened in
    inr (db, is, subst (λ (l : Chain). LeavesStoredState e l.cards l.present batch_bytes old new empty full) same left)
