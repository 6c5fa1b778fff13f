-- Two runs of the same image and batches.
use Rattle.std.proofs.Common.{◌≡◌, ◌⊎◌, ◌∙◌, ℕ, List, [], ◌∷◌, ◌++◌, Some, inl, inr, refl, sym, ap, subst, append_assoc, append-nil, Result, Ok, Err, IsOk}
use Rattle.std.specs.Io.KnownBytes.{Appends, Keeps}
use Rattle.catalog.specs.CardMap.{Cards}
use Rattle.executor.specs.declared.refusal.Refusal.TheVariants as refusal
use Rattle.image_records.specs.declared.fault.LoadError.{LoadError}
use Rattle.loader.specs.Image.{image}
use Rattle.records.specs.Io.{AppendsFront}
use Rattle.requests.specs.Batches.{Reading, batches}
use Rattle.requests.specs.declared.request.Batch.{Batch}
use Rattle.runner.specs.Laws.{BeginAlike, BeginsWith, EndsAs, TwoRunsAgree}
use Rattle.runner.specs.Runs.{Began, Left}
use Rattle.runner.specs.Text.{text}
use Rattle.runner.specs.WholeRuns.{LeavesBehind}
use Rattle.runner.specs.declared.fault.RunFault.{RunFault}
use Rattle.runner.specs.declared.fault.RunFault.TheVariants as run_fault
use Rattle.runner.proofs.RunLemmas.{text-both}
use Rattle.tpcc_model.specs.Database.{Database}
use Rattle.tpcc_model.specs.Serial.{State, opening, serial}

-- ---- texts
-- behind the same bytes
cancelled : (before a b : List ℕ) → before ++ a ≡ before ++ b → a ≡ b
cancelled [] a b same = same
cancelled (x ∷ before) a b same = cancelled before a b (let e : before ++ a ≡ before ++ b = cc in e)

fronts-alike : (a b rest more : List ℕ) → a ++ rest ≡ b ++ more → BeginAlike a b
fronts-alike [] b rest more same = inl (b, refl)
fronts-alike (x ∷ a) [] rest more same = inr (x ∷ a, refl)
fronts-alike (x ∷ a) (y ∷ b) rest more same =
    let here : x ≡ y = cc in
    elim (fronts-alike a b rest more (let e : a ++ rest ≡ b ++ more = cc in e)) [
      | inl (further, is) ↦ inl (further, (λ i. sym here i ∷ is i))
      | inr (further, is) ↦ inr (further, (λ i. here i ∷ is i))
    ]

begins-further : (a b c : List ℕ) → BeginsWith b a → BeginsWith c b → BeginsWith c a
begins-further a b c (rest, is) (more, are) = (rest ++ more, are ∙ ap (λ (t : List ℕ). t ++ more) is ∙ append_assoc a rest more)

-- ---- what a run wrote begins the text of all batches
module _ (before a : List ℕ) where
  wrote-all : (whole : List ℕ) → Appends (Some before) (Some (before ++ a)) whole → a ≡ whole
  wrote-all whole written = cancelled before a whole written

  wrote-none : Keeps (Some before) (Some (before ++ a)) → a ≡ []
  wrote-none kept = cancelled before a [] (kept ∙ sym (append-nil before))

  wrote-front : (whole : List ℕ) → AppendsFront (Some before) (Some (before ++ a)) whole → BeginsWith whole a
  wrote-front whole (front, rest, parts, written) = (rest, parts ∙ ap (λ (t : List ℕ). t ++ rest) (sym (wrote-all front written)))

  -- of the first of the batches
  front-of-done : (cards : Cards) (state : State) (all done rest : List Batch) → all ≡ done ++ rest → BeginsWith (text cards state all) (text cards state done)
  front-of-done cards state all done rest parts = (text cards (serial cards state done) rest, ap (text cards state) parts ∙ text-both cards state done rest)

  began-front : (cards : Cards) (state : State) (all done rest : List Batch) → Began cards state all (Some before) (Some (before ++ a)) done rest → BeginsWith (text cards state all) a
  began-front cards state all done rest began =
      subst (BeginsWith (text cards state all)) (sym (wrote-all (text cards state done) began.written)) (front-of-done cards state all done rest began.parts)

  left-front : (e : RunFault) (cards : Cards) (state : State) (reading : Reading) (done : List Batch) → Left e cards state reading done (Some before) (Some (before ++ a)) → BeginsWith (text cards state reading.0) a
  left-front (run_fault.Load e) cards state reading done left = absurd left
  left-front (run_fault.Read e) cards state reading done (inl (why, began)) = began-front cards state reading.0 done [] began
  left-front (run_fault.Read e) cards state reading done (inr (why, (rest, began))) = began-front cards state reading.0 done rest began
  left-front (run_fault.Exec refusal.Memory) cards state reading done (rest, began) = began-front cards state reading.0 done rest began
  left-front (run_fault.Exec refusal.NumbersExhausted) cards state reading done (batch, rest, began, why) = began-front cards state reading.0 done (batch ∷ rest) began
  left-front (run_fault.Exec refusal.BatchTooLong) cards state reading done left = absurd left
  left-front (run_fault.Exec refusal.PointsFull) cards state reading done left = absurd left
  left-front (run_fault.Exec refusal.NoSuchPoint) cards state reading done left = absurd left
  left-front run_fault.Memory cards state reading done (rest, began) = began-front cards state reading.0 done rest began
  left-front run_fault.Write cards state reading done (rest, parts, completed, front) =
      begins-further a (text cards state done) (text cards state reading.0) (wrote-front (text cards state done) front) (front-of-done cards state reading.0 done rest parts)

  behind-front : (e : RunFault) (cards : Cards) (state : State) (batch_bytes : List ℕ) (done : List Batch) → LeavesBehind e cards state batch_bytes done (Some before) (Some (before ++ a))
      → BeginsWith (text cards state (batches batch_bytes).0) a
  behind-front (run_fault.Load e) cards state batch_bytes done left = absurd left
  behind-front (run_fault.Read e) cards state batch_bytes done (inl (why, none, kept)) = subst (BeginsWith (text cards state (batches batch_bytes).0)) (sym (wrote-none kept)) (text cards state (batches batch_bytes).0, refl)
  behind-front (run_fault.Read e) cards state batch_bytes done (inr left) = left-front (run_fault.Read e) cards state (batches batch_bytes) done left
  behind-front (run_fault.Exec e) cards state batch_bytes done left = left-front (run_fault.Exec e) cards state (batches batch_bytes) done left
  behind-front run_fault.Memory cards state batch_bytes done left = left-front run_fault.Memory cards state (batches batch_bytes) done left
  behind-front run_fault.Write cards state batch_bytes done left = left-front run_fault.Write cards state (batches batch_bytes) done left

abbrev whole : Database → List ℕ → List ℕ
whole db batch_bytes = text db.cards (opening db.cards db.rows) (batches batch_bytes).0

-- a run wrote nothing, or a beginning of the text of all batches on the image's database
abbrev WroteFront : List ℕ → List ℕ → List ℕ → Type 0
WroteFront image_bytes batch_bytes a = (a ≡ []) ⊎ ((db : Database) × (image image_bytes ≡ Ok db) × BeginsWith (whole db batch_bytes) a)

ends-front : (r : Result ℕ RunFault) (image_bytes batch_bytes before a : List ℕ) → EndsAs r image_bytes batch_bytes (Some before) (Some (before ++ a)) → WroteFront image_bytes batch_bytes a
ends-front (Ok count) image_bytes batch_bytes before a (db, is, ran) =
    inr (db, is, ([], sym (wrote-all before a (whole db batch_bytes) ran.written) ∙ sym (append-nil a)))
ends-front (Err (run_fault.Load e)) image_bytes batch_bytes before a (why, kept) = inl (wrote-none before a kept)
ends-front (Err (run_fault.Read e)) image_bytes batch_bytes before a (db, is, (done, left)) = inr (db, is, behind-front before a (run_fault.Read e) db.cards (opening db.cards db.rows) batch_bytes done left)
ends-front (Err (run_fault.Exec e)) image_bytes batch_bytes before a (db, is, (done, left)) = inr (db, is, behind-front before a (run_fault.Exec e) db.cards (opening db.cards db.rows) batch_bytes done left)
ends-front (Err run_fault.Memory) image_bytes batch_bytes before a (db, is, (done, left)) = inr (db, is, behind-front before a run_fault.Memory db.cards (opening db.cards db.rows) batch_bytes done left)
ends-front (Err run_fault.Write) image_bytes batch_bytes before a (db, is, (done, left)) = inr (db, is, behind-front before a run_fault.Write db.cards (opening db.cards db.rows) batch_bytes done left)

-- ---- two runs
same-database : (o : Result Database LoadError) (x y : Database) → o ≡ Ok x → o ≡ Ok y → x ≡ y
same-database o x y is also = cc

fronts-of-one : (image_bytes batch_bytes a b : List ℕ) → WroteFront image_bytes batch_bytes a → WroteFront image_bytes batch_bytes b → BeginAlike a b
fronts-of-one image_bytes batch_bytes a b (inl none) other = inl (b, ap (λ (t : List ℕ). t ++ b) (sym none))
fronts-of-one image_bytes batch_bytes a b (inr one) (inl none) = inr (a, ap (λ (t : List ℕ). t ++ a) (sym none))
fronts-of-one image_bytes batch_bytes a b (inr (db, is, (rest, parts))) (inr (other, also, (more, halves))) =
    fronts-alike a b rest more (sym parts ∙ ap (λ d. whole d batch_bytes) (same-database (image image_bytes) db other is also) ∙ halves)

both-whole : (r s : Result ℕ RunFault) (image_bytes batch_bytes before_a a before_b b : List ℕ) → EndsAs r image_bytes batch_bytes (Some before_a) (Some (before_a ++ a))
    → EndsAs s image_bytes batch_bytes (Some before_b) (Some (before_b ++ b)) → IsOk r → IsOk s → a ≡ b
both-whole (Ok n) (Ok m) image_bytes batch_bytes before_a a before_b b (db, is, ran) (other, also, run) ok fine =
    wrote-all before_a a (whole db batch_bytes) ran.written ∙ ap (λ d. whole d batch_bytes) (same-database (image image_bytes) db other is also)
    ∙ sym (wrote-all before_b b (whole other batch_bytes) run.written)
both-whole (Ok n) (Err e) image_bytes batch_bytes before_a a before_b b one two ok fine = let bad : ⊥ = cc in absurd bad
both-whole (Err e) s image_bytes batch_bytes before_a a before_b b one two ok fine = let bad : ⊥ = cc in absurd bad

pub two_runs_agree : TwoRunsAgree
two_runs_agree image_bytes batch_bytes r s before_a a before_b b one two = (
  fronts-of-one image_bytes batch_bytes a b (ends-front r image_bytes batch_bytes before_a a one) (ends-front s image_bytes batch_bytes before_b b two),
  both-whole r s image_bytes batch_bytes before_a a before_b b one two,
)
