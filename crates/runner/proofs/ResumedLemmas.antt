-- Runs that go on from where a state is told to stand.
use Rattle.std.proofs.Common.{◌≡◌, ◌∙◌, ◌+◌, ℕ, List, Option, Some, None, Result, Ok, Err, IfOk, IfErr, false, if◌then◌else◌, ap, refl, subst, sym}
use Rattle.executor.specs.Chains.{Chain}
use Rattle.executor.specs.Stamps.{stamp_of}
use Rattle.executor.specs.declared.stamp.NumbersTaken.{NumbersTaken}
use Rattle.executor.specs.declared.stamp.Stamp.{Stamp}
use Rattle.runner.proofs.SourcedRuns.{both, first}
use Rattle.runner.proofs.WholeLemmas.{no_image_read, same_kept}
use Rattle.runner.specs.Openings.{IsOpened, IsUnopened}
use Rattle.runner.specs.ResumedRuns.{IsTaken, LeavesAndTells, LeavesGoingOn, LeavesResumed, MayStand, RanAndTold, RanResumed, WentOn, ended, in_resumed, stood, told_behind}
use Rattle.runner.specs.Runs.{Taken, is_write}
use Rattle.runner.specs.WholeRuns.{IsOfDatabase, LeavesChain, RanFrom, is_batches_read, is_image_read, chain_after}
use Rattle.runner.specs.declared.fault.RunFault.{RunFault}
use Rattle.runner.specs.declared.resumed_fault.ResumedFault.{ResumedFault}
use Rattle.runner.specs.declared.resumed_fault.ResumedFault.TheVariants as resumed_fault
use Rattle.telling.proofs.SourceLemmas.{of_both, of_nothing, of_source}
use Rattle.telling.specs.Told.{OfSource}

module _ (left : Option (List ℕ)) (before after : List ℕ) (old new : Taken) where
  -- ---- where the last state stands
  pub ran_and_told : (chain last : Chain) (count : ℕ) (stamp : Stamp) → stamp ≡ stamp_of last.present → OfSource left before after (λ b. RanFrom chain.cards chain.present b old new count)
      → OfSource left before after (λ b. last ≡ chain_after chain.cards chain.present b) → OfSource left before after (λ b. RanAndTold chain b old new count (Some stamp))
  ran_and_told chain last count stamp same ran leads =
      let P : List ℕ → Type 0 = λ b. RanFrom chain.cards chain.present b old new count in
      let Q : List ℕ → Type 0 = λ b. last ≡ chain_after chain.cards chain.present b in
      of_source left before after (λ b. P b × Q b) (λ b. RanAndTold chain b old new count (Some stamp))
      (λ b h. (h.0, ap (λ (s : Stamp). let at : Option Stamp = Some s in at) (same ∙ ap (λ (l : Chain). stamp_of l.present) h.1))) (of_both left before after P Q ran leads)

  pub left_and_told : (e : RunFault) (chain last : Chain) (at : Option Stamp) → at ≡ told_behind e (stamp_of last.present) → OfSource left before after (λ b. LeavesChain e chain.cards chain.present b old new last)
      → OfSource left before after (λ b. LeavesAndTells e chain b old new at)
  left_and_told e chain last at told leaves =
      of_source left before after (λ b. LeavesChain e chain.cards chain.present b old new last) (λ b. LeavesAndTells e chain b old new at)
      (λ b h. let (done, behind, same) = h in (done, behind, told ∙ ap (λ (l : Chain). told_behind e (stamp_of l.present)) same)) leaves

  -- ---- from where the state is told to stand
  pub went_on : (chain now : Chain) (from : Option Stamp) (r : Result ℕ RunFault) (s : Result ℕ ResumedFault) (at : Option Stamp) → MayStand chain from → now ≡ stood chain from → s ≡ ended r
      → IfOk r (λ count. OfSource left before after (λ b. RanAndTold now b old new count at)) → IfOk s (λ count. OfSource left before after (λ b. WentOn chain from b old new count at))
  went_on chain now from (Err e) s at may same is ran = subst (λ (s : Result ℕ ResumedFault). IfOk s (λ count. OfSource left before after (λ b. WentOn chain from b old new count at))) (sym is) tt
  went_on chain now from (Ok count) s at may same is ran =
      subst (λ (s : Result ℕ ResumedFault). IfOk s (λ count. OfSource left before after (λ b. WentOn chain from b old new count at))) (sym is)
      (of_source left before after (λ b. RanAndTold now b old new count at) (λ b. WentOn chain from b old new count at) (λ b h. (may, subst (λ (l : Chain). RanAndTold l b old new count at) same h)) ran)

  pub left_going_on : (chain now : Chain) (from : Option Stamp) (r : Result ℕ RunFault) (s : Result ℕ ResumedFault) (at : Option Stamp) → MayStand chain from → now ≡ stood chain from → s ≡ ended r
      → IfErr r (λ e. OfSource left before after (λ b. LeavesAndTells e now b old new at)) → IfErr s (λ e. OfSource left before after (λ b. LeavesGoingOn e chain from b old new at))
  left_going_on chain now from (Ok count) s at may same is leaves = subst (λ (s : Result ℕ ResumedFault). IfErr s (λ e. OfSource left before after (λ b. LeavesGoingOn e chain from b old new at))) (sym is) tt
  left_going_on chain now from (Err f) s at may same is leaves =
      subst (λ (s : Result ℕ ResumedFault). IfErr s (λ e. OfSource left before after (λ b. LeavesGoingOn e chain from b old new at))) (sym is)
      (of_source left before after (λ b. LeavesAndTells f now b old new at) (λ b. LeavesGoingOn (resumed_fault.Ended f) chain from b old new at)
      (λ b h. (may, subst (λ (l : Chain). LeavesAndTells f l b old new at) same h)) leaves)

-- ---- the end that failed
pub no_image_resumed : (r : Result ℕ RunFault) (s : Result ℕ ResumedFault) → s ≡ ended r → IfErr r IsOfDatabase → in_resumed is_image_read s ≡ false
no_image_resumed (Ok count) s is kind = ap (in_resumed is_image_read) is
no_image_resumed (Err e) s is kind = ap (in_resumed is_image_read) is ∙ no_image_read (Err e) kind

pub batches_resumed : (old new : ℕ) (r : Result ℕ RunFault) (s : Result ℕ ResumedFault) → s ≡ ended r → new ≡ old + (if is_batches_read r then 1 else 0) → new ≡ old + (if in_resumed is_batches_read s then 1 else 0)
batches_resumed old new (Ok count) s is counted = subst (λ (s : Result ℕ ResumedFault). new ≡ old + (if in_resumed is_batches_read s then 1 else 0)) (sym is) counted
batches_resumed old new (Err e) s is counted = subst (λ (s : Result ℕ ResumedFault). new ≡ old + (if in_resumed is_batches_read s then 1 else 0)) (sym is) counted

pub sink_resumed : (old new : ℕ) (r : Result ℕ RunFault) (s : Result ℕ ResumedFault) → s ≡ ended r → new ≡ old + (if is_write r then 1 else 0) → new ≡ old + (if in_resumed is_write s then 1 else 0)
sink_resumed old new (Ok count) s is counted = subst (λ (s : Result ℕ ResumedFault). new ≡ old + (if in_resumed is_write s then 1 else 0)) (sym is) counted
sink_resumed old new (Err e) s is counted = subst (λ (s : Result ℕ ResumedFault). new ≡ old + (if in_resumed is_write s then 1 else 0)) (sym is) counted

pub taken_told : (left : Option (List ℕ)) (before : List ℕ) (taken : NumbersTaken) (chain : Chain) (from : Option Stamp) (t : Taken) → IsTaken taken chain from
    → OfSource left before before (λ b. LeavesGoingOn (resumed_fault.Taken taken) chain from b t t None)
taken_told left before taken chain from t is = of_nothing left before (λ b. LeavesGoingOn (resumed_fault.Taken taken) chain from b t t None) (λ b. (is, same_kept t, refl))

-- ---- from bytes to bytes
module _ (images : Option (List ℕ)) (images_before images_after : List ℕ) (left : Option (List ℕ)) (before : List ℕ) where
  pub unopened_resumed : (e : RunFault) (from : Option Stamp) (t : Taken) → OfSource images images_before images_after (IsUnopened e)
      → OfSource images images_before images_after (λ i. OfSource left before before (λ b. LeavesResumed (resumed_fault.Unopened e) i from b t t None))
  unopened_resumed e from t why =
      first images images_before images_after left before (IsUnopened e) (λ i b. LeavesResumed (resumed_fault.Unopened e) i from b t t None) (λ i b is. (is, same_kept t, refl)) why

  pub ran_resumed : (after : List ℕ) (r : Result ℕ ResumedFault) (chain : Chain) (from : Option Stamp) (old new : Taken) (at : Option Stamp) → OfSource images images_before images_after (λ i. IsOpened i chain)
      → IfOk r (λ count. OfSource left before after (λ b. WentOn chain from b old new count at))
      → IfOk r (λ count. OfSource images images_before images_after (λ i. OfSource left before after (λ b. RanResumed i from b old new count at)))
  ran_resumed after (Err e) chain from old new at opened went = tt
  ran_resumed after (Ok count) chain from old new at opened went =
      both images images_before images_after left before after (λ i. IsOpened i chain) (λ b. WentOn chain from b old new count at) (λ i b. RanResumed i from b old new count at)
      (λ i b is h. let (db, reads, same) = is in (db, reads, subst (λ (l : Chain). WentOn l from b old new count at) same h)) opened went

  left_by : (e : ResumedFault) (i b : List ℕ) (chain : Chain) (from : Option Stamp) (old new : Taken) (at : Option Stamp) → IsOpened i chain → LeavesGoingOn e chain from b old new at → LeavesResumed e i from b old new at
  left_by (resumed_fault.Unopened f) i b chain from old new at is leaves = absurd leaves
  left_by (resumed_fault.Taken taken) i b chain from old new at is leaves =
      let (db, reads, same) = is in
      (db, reads, subst (λ (l : Chain). LeavesGoingOn (resumed_fault.Taken taken) l from b old new at) same leaves)
  left_by (resumed_fault.Ended f) i b chain from old new at is leaves =
      let (db, reads, same) = is in
      (db, reads, subst (λ (l : Chain). LeavesGoingOn (resumed_fault.Ended f) l from b old new at) same leaves)

  pub left_resumed : (after : List ℕ) (r : Result ℕ ResumedFault) (chain : Chain) (from : Option Stamp) (old new : Taken) (at : Option Stamp) → OfSource images images_before images_after (λ i. IsOpened i chain)
      → IfErr r (λ e. OfSource left before after (λ b. LeavesGoingOn e chain from b old new at))
      → IfErr r (λ e. OfSource images images_before images_after (λ i. OfSource left before after (λ b. LeavesResumed e i from b old new at)))
  left_resumed after (Ok count) chain from old new at opened leaves = tt
  left_resumed after (Err e) chain from old new at opened leaves =
      both images images_before images_after left before after (λ i. IsOpened i chain) (λ b. LeavesGoingOn e chain from b old new at) (λ i b. LeavesResumed e i from b old new at)
      (λ i b is h. left_by e i b chain from old new at is h) opened leaves
