-- Batches in two runs.
use Rattle.std.proofs.Common.{◌≡◌, ◌∙◌, ◌≤◌, ◌<◌, ◌+◌, ℕ, List, [], ◌∷◌, ◌++◌, Option, Some, None, Ok, IsSome, unwrap_or, append_assoc, refl, sym, ap, subst, arith}
use Rattle.std.proofs.lemmas.Option.{none-some}
use Rattle.std.specs.FinMap.{get}
use Rattle.catalog.specs.CardMap.{Cards}
use Rattle.executor.specs.Headline.{Completed, all_serially, completed_serially}
use Rattle.executor.specs.Laws.{BatchesKeep}
use Rattle.executor.specs.States.{AreAllWithin, HasHistoryBelow, IsSoundState}
use Rattle.loader.specs.Image.{image}
use Rattle.requests.specs.declared.request.Batch.{Batch}
use Rattle.resuming_laws.specs.Resuming.{StoredRunsGoOn}
use Rattle.runner.specs.Text.{batch_text, text}
use Rattle.stored_image.specs.StoredImage.{image_text}
use Rattle.tpcc_model.specs.Database.{Database, database}
use Rattle.tpcc_model.specs.Serial.{State, after_batch, history_pick, next_number, serial}
use Rattle.tpcc_model.specs.Soundness.{IsSound}
use Rattle.tpcc_rows.proofs.Picks.{greatest-is, picked-row}
use Rattle.tpcc_rows.specs.Picks.{greatest, picked}
use Rattle.tpcc_rows.specs.RowMap.{Rows}
use Rattle.tpcc_rows.specs.declared.key.RowKey.{RowKey}
use Rattle.tpcc_rows.specs.declared.key.RowKey.TheVariants as key
use Rattle.tpcc_rows.specs.declared.row.Row.{Row}

-- ---- one run of two lists
serial-both : (cards : Cards) (start : State) (first rest : List Batch) → serial cards start (first ++ rest) ≡ serial cards (serial cards start first) rest
serial-both cards start [] rest = refl
serial-both cards start (batch ∷ first) rest = serial-both cards (after_batch cards start batch) first rest

completed-both : (cards : Cards) (start : State) (first rest : List Batch)
    → all_serially cards start (first ++ rest) ≡ all_serially cards start first ++ all_serially cards (serial cards start first) rest
completed-both cards start [] rest = refl
completed-both cards start (batch ∷ first) rest =
    ap (λ (done : List Completed). completed_serially cards start batch ∷ done) (completed-both cards (after_batch cards start batch) first rest)

text-both : (cards : Cards) (start : State) (first rest : List Batch) → text cards start (first ++ rest) ≡ text cards start first ++ text cards (serial cards start first) rest
text-both cards start [] rest = refl
text-both cards start (batch ∷ first) rest =
    let next : State = after_batch cards start batch in
    ap (λ (t : List ℕ). batch_text cards start batch ++ t) (text-both cards next first rest)
    ∙ sym (append_assoc (batch_text cards start batch) (text cards next first) (text cards (serial cards next first) rest))

-- ---- the state behind the first list
sound-behind : BatchesKeep → (cards : Cards) (start : State) (batches : List Batch) → IsSoundState cards start → AreAllWithin cards start batches
    → IsSoundState cards (serial cards start batches)
sound-behind keep cards start [] sound within = sound
sound-behind keep cards start (batch ∷ batches) sound within =
    sound-behind keep cards (after_batch cards start batch) batches (keep cards start batch sound within.0) within.1

numbered-behind : (cards : Cards) (start : State) (batches : List Batch) → 1 ≤ start.next → 1 ≤ (serial cards start batches).next
numbered-behind cards start [] low = low
numbered-behind cards start (batch ∷ batches) low = numbered-behind cards (after_batch cards start batch) batches (omega (arith, low))

-- ---- the numbers of the history
of_history : (k : RowKey) (x : Row) (n : ℕ) → history_pick k x ≡ Some n → k ≡ key.History n
of_history (key.Warehouse w) x n is = absurd (none-some n is)
of_history (key.Customer w d c) x n is = absurd (none-some n is)
of_history (key.Stock w i) x n is = absurd (none-some n is)
of_history (key.Order w d o) x n is = absurd (none-some n is)
of_history (key.NewOrder w d o) x n is = absurd (none-some n is)
of_history (key.OrderLine w d o l) x n is = absurd (none-some n is)
of_history (key.History m) x n is = cc
of_history (key.DistrictYtd w d) x n is = absurd (none-some n is)
of_history (key.DistrictNext w d) x n is = absurd (none-some n is)

is-there : (o : Option Row) (x : Row) → o ≡ Some x → IsSome o
is-there o x at = subst (λ (p : Option Row). IsSome p) (sym at) refl

-- each is below a number that they all are below
next-free : (rows : Rows) (next : ℕ) → 1 ≤ next → HasHistoryBelow rows next → next_number rows ≤ next
unfolding next_number
next-free rows next low below = last (greatest (picked history_pick rows)) refl
  where
    last : (g : Option ℕ) → greatest (picked history_pick rows) ≡ g → unwrap_or g 0 + 1 ≤ next
    last None is = low
    last (Some g) is =
        let (k, x, at, pick) = picked-row history_pick rows g (greatest-is (picked history_pick rows) g is).0 in
        let there : IsSome (get rows (key.History g)) = is-there (get rows (key.History g)) x (ap (λ (j : RowKey). get rows j) (sym (of_history k x g pick)) ∙ at) in
        let less : g < next = below g there in
        omega (arith, less)

-- ---- the law
pub goes_on : BatchesKeep → ((db : Database) → IsSound db → image (image_text db) ≡ Ok db) → StoredRunsGoOn
goes_on keep read_back cards start first rest sound low within =
    let last : State = serial cards start first in
    let kept : IsSoundState cards last = sound-behind keep cards start first sound within in
    record {
      db = database cards last.rows;
      read = read_back (database cards last.rows) kept.database;
      free = next-free last.rows last.next (numbered-behind cards start first low) kept.history;
      completed = completed-both cards start first rest;
      written = text-both cards start first rest;
      same_cards = refl;
      left = sym (serial-both cards start first rest);
    }
