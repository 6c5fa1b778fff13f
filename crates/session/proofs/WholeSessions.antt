-- A session on the database of an image.
use Rattle.std.proofs.Common.{◌≡◌, ℕ, List, Option, Some, None, false, refl, subst}
use Rattle.std.specs.Prelude.{IfErr, IfSome, OnOk, Result, Ok, Err, option_map}
use Rattle.commands.specs.Commands.{Hearing, commands}
use Rattle.executor.specs.Chains.{Chain, opening_chain}
use Rattle.executor.specs.declared.refusal.Refusal.TheVariants as refusal
use Rattle.loader.specs.Image.{image}
use Rattle.runner.proofs.WholeLemmas.{same_kept}
use Rattle.runner.specs.Openings.{IsOpened, IsUnopened}
use Rattle.runner.specs.Runs.{Taken}
use Rattle.runner.specs.WholeRuns.{is_image_read}
use Rattle.runner.specs.declared.fault.RunFault.{RunFault}
use Rattle.runner.specs.declared.fault.RunFault.TheVariants as run_fault
use Rattle.session.specs.Sessions.{IsOfSession, LeavesSession, LeavesWhole, Served, ServedWhole}
use Rattle.tpcc_model.specs.Database.{Database}

module _ {A : Type 0} (images input : Option (List ℕ)) (chain : Chain) (left : Option Hearing) (old new : Taken)
    (opened : IfSome images (λ image_bytes. IsOpened image_bytes chain)) (all : left ≡ option_map commands input) where
  pub served_whole : (r : Result A RunFault) → OnOk r (IfSome left (λ hearing. Served chain hearing old new))
      → OnOk r (IfSome images (λ image_bytes. IfSome input (λ command_bytes. ServedWhole image_bytes command_bytes old new)))
  served_whole (Err e) h = tt
  served_whole (Ok done) h = by images input opened (subst (λ (o : Option Hearing). IfSome o (λ hearing. Served chain hearing old new)) all h)
    where
      by : (i c : Option (List ℕ)) → IfSome i (λ image_bytes. IsOpened image_bytes chain) → IfSome (option_map commands c) (λ hearing. Served chain hearing old new)
          → IfSome i (λ image_bytes. IfSome c (λ command_bytes. ServedWhole image_bytes command_bytes old new))
      by None c opens h = tt
      by (Some bytes) None opens h = tt
      by (Some bytes) (Some command_bytes) opens h =
          let (db, is, same) = opens in
          (db, is, subst (λ (l : Chain). Served l (commands command_bytes) old new) same h)

  pub left_whole : (r : Result A RunFault) → IfErr r IsOfSession → IfErr r (λ e. IfSome left (λ hearing. LeavesSession e chain hearing old new))
      → IfErr r (λ e. IfSome images (λ image_bytes. IfSome input (λ command_bytes. LeavesWhole e image_bytes command_bytes old new)))
  left_whole (Ok done) kind h = tt
  left_whole (Err e) kind h = by e kind images input opened (subst (λ (o : Option Hearing). IfSome o (λ hearing. LeavesSession e chain hearing old new)) all h)
    where
      on : (e : RunFault) (bytes command_bytes : List ℕ) (db : Database) → IsOfSession e → image bytes ≡ Ok db
          → LeavesSession e (opening_chain db.cards db.rows) (commands command_bytes) old new → LeavesWhole e bytes command_bytes old new
      on (run_fault.Read e) bytes command_bytes db kind is h = (db, is, h)
      on run_fault.Memory bytes command_bytes db kind is h = (db, is, h)
      on run_fault.Write bytes command_bytes db kind is h = (db, is, h)
      on (run_fault.Load e) bytes command_bytes db kind is h = absurd kind
      on (run_fault.Exec e) bytes command_bytes db kind is h = absurd kind

      by : (e : RunFault) → IsOfSession e → (i c : Option (List ℕ)) → IfSome i (λ image_bytes. IsOpened image_bytes chain) → IfSome (option_map commands c) (λ hearing. LeavesSession e chain hearing old new)
          → IfSome i (λ image_bytes. IfSome c (λ command_bytes. LeavesWhole e image_bytes command_bytes old new))
      by e kind None c opens h = tt
      by e kind (Some bytes) None opens h = tt
      by e kind (Some bytes) (Some command_bytes) opens h =
          let (db, is, same) = opens in
          on e bytes command_bytes db kind is (subst (λ (l : Chain). LeavesSession e l (commands command_bytes) old new) same h)

-- ---- a session that ends before its first command
unopened_by : (e : RunFault) (image_bytes command_bytes : List ℕ) (t : Taken) → IsUnopened e image_bytes → LeavesWhole e image_bytes command_bytes t t
unopened_by (run_fault.Load e) image_bytes command_bytes t why = (why, same_kept t)
unopened_by (run_fault.Exec refusal.Memory) image_bytes command_bytes t why = same_kept t
unopened_by (run_fault.Exec refusal.BatchTooLong) image_bytes command_bytes t why = absurd why
unopened_by (run_fault.Exec refusal.PointsFull) image_bytes command_bytes t why = absurd why
unopened_by (run_fault.Exec refusal.NoSuchPoint) image_bytes command_bytes t why = absurd why
unopened_by (run_fault.Exec refusal.NumbersExhausted) image_bytes command_bytes t why = absurd why
unopened_by (run_fault.Read e) image_bytes command_bytes t why = absurd why
unopened_by run_fault.Write image_bytes command_bytes t why = absurd why
unopened_by run_fault.Memory image_bytes command_bytes t why = absurd why

pub unopened_session : (images input : Option (List ℕ)) (e : RunFault) (t : Taken) → IfSome images (λ image_bytes. IsUnopened e image_bytes)
    → IfSome images (λ image_bytes. IfSome input (λ command_bytes. LeavesWhole e image_bytes command_bytes t t))
unopened_session None input e t why = tt
unopened_session (Some image_bytes) None e t why = tt
unopened_session (Some image_bytes) (Some command_bytes) e t why = unopened_by e image_bytes command_bytes t why

pub no_image_read : {A : Type 0} (r : Result A RunFault) → IfErr r IsOfSession → is_image_read r ≡ false
no_image_read (Ok done) kind = refl
no_image_read (Err (run_fault.Load e)) kind = absurd kind
no_image_read (Err (run_fault.Read e)) kind = refl
no_image_read (Err (run_fault.Exec e)) kind = refl
no_image_read (Err run_fault.Write) kind = refl
no_image_read (Err run_fault.Memory) kind = refl
