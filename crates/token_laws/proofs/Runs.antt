-- Runs with one last token are the same, or a collision is found going back.
use Rattle.std.proofs.Common.{◌≡◌, inl, inr, ℕ, zero, suc, ◌+◌, ◌<◌, ◌≤◌, ◌^◌, List, [], ◌∷◌, length, replicate, refl, sym, ap, subst, subst₂, ◌∙◌, arith}
use Rattle.std.specs.List.{AllByRecursion}
use Rattle.std.specs.Prelude.{IsSomeAnd}
use Rattle.std.proofs.lemmas.List.Elements.{All-from_recursion, recursion_from_All}
use Rattle.std.proofs.lemmas.List.Sums.{sum_by-cons}
use Rattle.serializability.specs.Folds as folds
use Rattle.serializability.specs.Folds.{fold_replies, fold_rows}
use Rattle.sha2.proofs.Facts256.{length-sha256}
use Rattle.catalog.specs.CardMap.{Cards}
use Rattle.requests.specs.declared.request.Batch.{Batch}
use Rattle.requests.specs.declared.request.Request.{Request}
use Rattle.tpcc_laws.specs.Requests.{IsRequest}
use Rattle.tpcc_laws.proofs.Keeping.{step_keeps}
use Rattle.tpcc_model.specs.Database.{Database, database}
use Rattle.tpcc_model.specs.Serial.{State, after_batch, batch_replies, batch_rows, next_number, opening, serial}
use Rattle.tpcc_model.specs.Soundness.{IsSound}
use Rattle.tpcc_model.specs.Steps.{steps_at}
use Rattle.tpcc_model.specs.Tokens.{token_of}
use Rattle.tpcc_rows.specs.Changing.{after}
use Rattle.tpcc_rows.specs.Limits.{IsBetween}
use Rattle.tpcc_rows.specs.RowMap.{Rows}
use Rattle.tpcc_rows.specs.declared.id.TheConstants.{END_OF_NUMBERS, LAST_REQUEST}
use Rattle.token_laws.specs.Collisions.{IsCollision}
use Rattle.token_laws.specs.Covered.{Covered, token}
use Rattle.token_laws.specs.CoveredLimits.{AreBytes, IsReply, IsWithinLimits}
use Rattle.token_laws.specs.HashChains.{AreSameSince, IsHashChain, collision_since}
use Rattle.token_laws.specs.Runs.{EqualRuns, IsBatch, IsRun, covered_from, request_count}
use Rattle.token_laws.specs.States.{of_batch, of_opening}
use Rattle.token_laws.proofs.Bytes.{bytes-sha256}
use Rattle.token_laws.proofs.HashChains.{equal_hash_chains}
use Rattle.token_laws.proofs.Lists.{bytes-cons, no_bytes}
use Rattle.token_laws.proofs.Sound.{sound_is_writable}
use Rattle.token_laws.proofs.StepReplies.{step_replies}

-- ---- the requests of a batch
-- they keep the database sound, and reply within the limits, each once
record IsFolded (cards : Cards) (moment : ℕ) (rows : Rows) (n : ℕ) (qs : List Request) : Type 0 where
  sound : IsSound (database cards (fold_rows (steps_at cards moment) rows n qs))
  replies : AllByRecursion IsReply (fold_replies (steps_at cards moment) rows n qs)
  count : length (fold_replies (steps_at cards moment) rows n qs) ≡ length qs

module _ (cards : Cards) (moment : ℕ) (timed : IsBetween 0 999999999999 moment) where
  folded : (rows : Rows) (n : ℕ) (qs : List Request) → IsSound (database cards rows) → AllByRecursion IsRequest qs → 1 ≤ n → n + length qs ≤ END_OF_NUMBERS → IsFolded cards moment rows n qs
  unfolding after
  folded rows n [] sound fits low high = record { sound = sound; replies = tt; count = refl }
  folded rows n (q ∷ qs) sound fits low high =
      let numbered : IsBetween 1 LAST_REQUEST n = (low, omega (arith, high)) in
      let kept = step_keeps (database cards rows) q n moment sound fits.0 numbered timed in
      let rest = folded (folds.after (steps_at cards moment) rows n q) (n + 1) qs kept.sound fits.1 (omega arith) (omega (arith, high)) in
      record { sound = rest.sound; replies = (step_replies (database cards rows) q n moment sound fits.0 numbered timed, rest.replies); count = omega (arith, rest.count) }

-- ---- tokens
token-length : (c : Covered) → length (token c) ≡ 32
unfolding token_of
token-length c = length-sha256 _

token-bytes : (c : Covered) → AreBytes (token c)
unfolding token_of
token-bytes c = bytes-sha256 _

-- ---- batches from a state on
-- a state whose token is the newest of a hash chain, and batches that can follow
record IsStart (cards : Cards) (state : State) (batches : List Batch) (newest : Covered) (earlier : List Covered) : Type 0 where
  sound : IsSound (database cards state.rows)
  low : 1 ≤ state.next
  numbers : state.next + request_count batches ≤ END_OF_NUMBERS
  few : state.sequence + length batches < 2 ^ 64
  batches_within : AllByRecursion IsBatch batches
  linked : IsHashChain newest earlier
  own_token : token newest ≡ state.token
  own_sequence : newest.sequence ≡ state.sequence

-- the hash chain of all of them
record IsEnd (cards : Cards) (state : State) (batches : List Batch) (before : List Covered) : Type 0 where
  newest : Covered
  earlier : List Covered
  is : covered_from cards state batches before ≡ newest ∷ earlier
  linked : IsHashChain newest earlier
  own_token : token newest ≡ (serial cards state batches).token
  own_sequence : newest.sequence ≡ state.sequence + length batches

count-more : (batch : Batch) (batches : List Batch) → request_count (batch ∷ batches) ≡ length batch.requests + request_count batches
count-more batch batches = sum_by-cons (λ (b : Batch). length b.requests) batch batches

module _ (cards : Cards) where
  -- the batch is added to the hash chain
  next_start : (state : State) (batch : Batch) (batches : List Batch) (c : Covered) (cs : List Covered) → IsStart cards state (batch ∷ batches) c cs → IsStart cards (after_batch cards state batch) batches (of_batch cards state batch) (c ∷ cs)
  next_start state batch batches c cs start =
      let own = start.batches_within.0 in
      let more = count-more batch batches in
      let all = folded cards batch.moment own.moment state.rows state.next batch.requests start.sound (recursion_from_All IsRequest batch.requests own.requests) start.low (omega (arith, start.numbers, more)) in
      let within : IsWithinLimits (of_batch cards state batch) = record {
        sequence = omega (arith, start.few);
        prior = subst AreBytes start.own_token (token-bytes c);
        prior_length = ap length (sym start.own_token) ∙ token-length c;
        database = sound_is_writable (database cards (batch_rows cards state batch)) all.sound;
        numbers = omega (arith, start.numbers, more, all.count);
        replies = All-from_recursion IsReply (batch_replies cards state batch) all.replies;
      } in
      record {
        sound = all.sound;
        low = omega (arith, start.low);
        numbers = omega (arith, start.numbers, more);
        few = omega (arith, start.few);
        batches_within = start.batches_within.1;
        linked = record { limits = (within, start.linked.limits); linked = (sym start.own_token, start.linked.linked) };
        own_token = refl;
        own_sequence = refl;
      }

  to_end : (state : State) (batches : List Batch) (c : Covered) (cs : List Covered) → IsStart cards state batches c cs → IsEnd cards state batches (c ∷ cs)
  to_end state [] c cs start = record { newest = c; earlier = cs; is = refl; linked = start.linked; own_token = start.own_token; own_sequence = omega (arith, start.own_sequence) }
  to_end state (batch ∷ batches) c cs start =
      let end = to_end (after_batch cards state batch) batches (of_batch cards state batch) (c ∷ cs) (next_start state batch batches c cs start) in
      record { newest = end.newest; earlier = end.earlier; is = end.is; linked = end.linked; own_token = end.own_token; own_sequence = omega (arith, end.own_sequence) }

-- ---- runs
zeros : (n : ℕ) → AreBytes (replicate n 0)
zeros zero = no_bytes
zeros (suc n) = bytes-cons (omega arith) (zeros n)

next_low : (rows : Rows) → 1 ≤ next_number rows
unfolding next_number
next_low rows = omega arith

run_end : (db : Database) (batches : List Batch) → IsRun db batches → IsEnd db.cards (opening db.cards db.rows) batches (of_opening db.cards db.rows ∷ [])
run_end db batches run =
    let within : IsWithinLimits (of_opening db.cards db.rows) = record {
      sequence = omega arith;
      prior = zeros 32;
      prior_length = refl;
      database = sound_is_writable db run.sound;
      numbers = omega (arith, run.numbers);
      replies = λ k d low. absurd (omega (arith, low));
    } in
    to_end db.cards (opening db.cards db.rows) batches (of_opening db.cards db.rows) [] (record {
      sound = run.sound;
      low = next_low db.rows;
      numbers = run.numbers;
      few = omega (arith, run.sequence);
      batches_within = run.batches_within;
      linked = record { limits = (within, tt); linked = tt };
      own_token = refl;
      own_sequence = refl;
    })

pub equal_runs : EqualRuns
equal_runs a b xs ys p q equal =
    let one = run_end a xs p in
    let other = run_end b ys q in
    elim (equal_hash_chains one.newest other.newest one.earlier other.earlier one.linked other.linked (one.own_token ∙ equal ∙ sym other.own_token)) [
      | inl same ↦ inl (record {
        count = omega (arith, one.own_sequence, other.own_sequence, same.0.sequence);
        same = subst₂ AreSameSince (sym one.is) (sym other.is) same;
      })
      | inr found ↦ inr (subst₂ (λ (s t : List Covered). IsSomeAnd (collision_since s t) IsCollision) (sym one.is) (sym other.is) found)
    ]
