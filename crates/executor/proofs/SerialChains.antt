-- A chain is the one that one thread makes of the batches that are kept.
use Rattle.std.proofs.Common.{◌≡◌, ℕ, zero, suc, ◌+◌, ◌-◌, ◌≤◌, List, [], ◌∷◌, ◌++◌, length, take, Some, None, refl, sym, ap, subst, ◌∙◌, append_assoc, append-nil, arith}
use Rattle.std.proofs.lemmas.List.{length-append, length_push}
use Rattle.std.specs.List.{slice_get}
use Rattle.catalog.specs.CardMap.{Cards}
use Rattle.requests.specs.declared.request.Batch.{Batch}
use Rattle.tpcc_model.specs.Serial.{State, after_batch, serial}
use Rattle.executor.specs.Calls.{Call, Committed, Executed, IsRecordOfEither, LeadOn, Leads, Refused, ReturnedTo, kept_by, kept_on}
use Rattle.executor.specs.Kept.{Kept, all_kept, none_kept, serial_chain, states_met, up_to, with_batch, with_committed}
use Rattle.executor.specs.Laws.{ChainsAreSerial}
use Rattle.executor.specs.Chains.{IsReturned, Chain, committed, extended}
use Rattle.executor.specs.States.{IsSoundState}
use Rattle.executor.specs.declared.record.Record.{Record}
use Rattle.executor.proofs.Running.{serial-more}

-- ---- batches one after the other
pub serial-append : (cards : Cards) (state : State) (first rest : List Batch) → serial cards state (first ++ rest) ≡ serial cards (serial cards state first) rest
serial-append cards state [] rest = refl
serial-append cards state (batch ∷ first) rest = serial-append cards (after_batch cards state batch) first rest

pub sequence-of : (cards : Cards) (start : State) (batches : List Batch) → (serial cards start batches).sequence ≡ start.sequence + length batches
sequence-of cards start [] = let e : start.sequence ≡ start.sequence + 0 = omega arith in e
sequence-of cards start (batch ∷ batches) = sequence-of cards (after_batch cards start batch) batches ∙ (let e : start.sequence + 1 + length batches ≡ start.sequence + length (batch ∷ batches) = omega arith in e)

states_met-more : (cards : Cards) (state : State) (batches : List Batch) (batch : Batch) → states_met cards state (batches ++ batch ∷ []) ≡ states_met cards state batches ++ serial cards state batches ∷ []
states_met-more cards state [] batch = refl
states_met-more cards state (first ∷ batches) batch = ap (λ (ss : List State). state ∷ ss) (states_met-more cards (after_batch cards state first) batches batch)

abbrev chain_of : Cards → List State → State → Chain
chain_of cards earlier present = record { cards = cards; earlier = earlier; present = present }

chain-same : (cards : Cards) (xs ys : List State) (x y : State) → xs ≡ ys → x ≡ y → chain_of cards xs x ≡ chain_of cards ys y
chain-same cards xs ys x y before now = (λ i. chain_of cards (before i) (now i))

module _ (cards : Cards) (start : State) where
  -- ---- a batch was executed
  pub serial_chain-extended : (kept : Kept) (batch : Batch) → extended (serial_chain cards start kept) batch ≡ serial_chain cards start (with_batch batch kept)
  serial_chain-extended kept batch =
      chain-same cards _ _ _ _
      (ap (λ (s : State). states_met cards (serial cards start kept.committed) kept.uncommitted ++ s ∷ []) (serial-append cards start kept.committed kept.uncommitted)
      ∙ sym (states_met-more cards (serial cards start kept.committed) kept.uncommitted batch))
      (sym (serial-more cards start (all_kept kept) batch) ∙ ap (serial cards start) (append_assoc kept.committed kept.uncommitted (batch ∷ [])))

  -- ---- the oldest one was committed
  committed-on : (done open_ : List Batch)
      → committed (serial_chain cards start (record { committed = done; uncommitted = open_ })) ≡ serial_chain cards start (with_committed (record { committed = done; uncommitted = open_ }))
  committed-on done [] = chain-same cards _ _ _ _ refl (ap (serial cards start) (sym (append-nil (done ++ []))))
  committed-on done (batch ∷ rest) =
      chain-same cards _ _ _ _ (ap (λ (s : State). states_met cards s rest) (sym (serial-more cards start done batch)))
      (ap (serial cards start) (sym (append_assoc done (batch ∷ []) rest)))

  pub serial_chain-committed : (kept : Kept) → committed (serial_chain cards start kept) ≡ serial_chain cards start (with_committed kept)
  serial_chain-committed kept = committed-on kept.committed kept.uncommitted

-- ---- back at a state
-- so many of the batches lead to it
record IsCutAt (cards : Cards) (state : State) (batches : List Batch) (early : List State) (back : State) : Type 0 where
  met : early ≡ states_met cards state (take (back.sequence - state.sequence) batches)
  left : back ≡ serial cards state (take (back.sequence - state.sequence) batches)

head-same : (x y : State) (xs ys : List State) → x ∷ xs ≡ y ∷ ys → x ≡ y
head-same x y xs ys e = cc

tail-same : (x y : State) (xs ys : List State) → x ∷ xs ≡ y ∷ ys → xs ≡ ys
tail-same x y xs ys e = cc

cut-here : (cards : Cards) (state back : State) (batches : List Batch) → state ≡ back → IsCutAt cards state batches [] back
cut-here cards state back batches same =
    let none : back.sequence - state.sequence ≡ 0 = let e = ap (λ (s : State). s.sequence) same in omega (arith, e) in
    record {
      met = ap (λ n. states_met cards state (take n batches)) (sym none);
      left = sym same ∙ ap (λ n. serial cards state (take n batches)) (sym none);
    }

cut-further : (cards : Cards) (state back first : State) (batch : Batch) (batches : List Batch) (early : List State) → state ≡ first → IsCutAt cards (after_batch cards state batch) batches early back
    → IsCutAt cards state (batch ∷ batches) (first ∷ early) back
cut-further cards state back first batch batches early same cut =
    let count : ℕ = back.sequence - (state.sequence + 1) in
    let number : back.sequence ≡ state.sequence + 1 + length (take count batches) = ap (λ (s : State). s.sequence) cut.left ∙ sequence-of cards (after_batch cards state batch) (take count batches) in
    let more : suc count ≡ back.sequence - state.sequence = omega (arith, number) in
    record {
      met = (λ i. sym same i ∷ cut.met i) ∙ ap (λ n. states_met cards state (take n (batch ∷ batches))) more;
      left = cut.left ∙ ap (λ n. serial cards state (take n (batch ∷ batches))) more;
    }

cut-at : (cards : Cards) (state : State) (batches : List Batch) (early : List State) (back : State) (later : List State)
    → states_met cards state batches ++ serial cards state batches ∷ [] ≡ (early ++ back ∷ []) ++ later → IsCutAt cards state batches early back
cut-at cards state [] [] back later same = cut-here cards state back [] (head-same state back [] later same)
cut-at cards state [] (e ∷ early) back later same =
    let size = length_push early back in
    let both = length-append (early ++ back ∷ []) later in
    let rest : [] ≡ (early ++ back ∷ []) ++ later = tail-same state e [] ((early ++ back ∷ []) ++ later) same in
    let none = ap (λ (ss : List State). length ss) rest in
    absurd (omega (arith, size, both, none))
cut-at cards state (batch ∷ batches) [] back later same = cut-here cards state back (batch ∷ batches) (head-same state back _ later same)
cut-at cards state (batch ∷ batches) (e ∷ early) back later same =
    cut-further cards state back e batch batches early (head-same state e _ _ same) (cut-at cards (after_batch cards state batch) batches early back later (tail-same state e _ _ same))

module _ (cards : Cards) (start : State) where
  pub serial_chain-returned : (kept : Kept) (sequence : ℕ) (new : Chain) → IsReturned sequence (serial_chain cards start kept) new → new ≡ serial_chain cards start (up_to start.sequence sequence kept)
  serial_chain-returned kept sequence new back =
      let base : State = serial cards start kept.committed in
      let cut = cut-at cards base kept.uncommitted new.earlier new.present back.gone.0
      (ap (λ (s : State). states_met cards base kept.uncommitted ++ s ∷ []) (sym (serial-append cards start kept.committed kept.uncommitted)) ∙ back.gone.1) in
      let number : new.present.sequence - base.sequence ≡ sequence - (start.sequence + length kept.committed) =
      (λ i. back.present i - sequence-of cards start kept.committed i) in
      let same : new ≡ chain_of cards new.earlier new.present = (λ i. chain_of (back.cards i) new.earlier new.present) in
      same
      ∙ chain-same cards _ _ _ _ (cut.met ∙ ap (λ n. states_met cards base (take n kept.uncommitted)) number)
      (cut.left ∙ ap (λ n. serial cards base (take n kept.uncommitted)) number
      ∙ sym (serial-append cards start kept.committed (take (sequence - (start.sequence + length kept.committed)) kept.uncommitted)))

  -- ---- a call
  pub serial_chain-led : (kept : Kept) (call : Call) (new : Chain) → Leads call (serial_chain cards start kept) new → new ≡ serial_chain cards start (kept_by start call kept)
  serial_chain-led kept (Executed batch r) new leads = leads.1 ∙ serial_chain-extended cards start kept batch
  serial_chain-led kept Committed new leads = leads ∙ serial_chain-committed cards start kept
  serial_chain-led kept (ReturnedTo sequence) new leads = serial_chain-returned kept sequence new leads.0
  serial_chain-led kept Refused new leads = leads

  sound-led : (call : Call) (old new : Chain) → IsSoundState old.cards old.present → Leads call old new → IsSoundState new.cards new.present
  sound-led (Executed batch r) old new sound leads = leads.2
  sound-led Committed old new sound leads = subst (λ (l : Chain). IsSoundState l.cards l.present) (sym leads) sound
  sound-led (ReturnedTo sequence) old new sound leads = leads.1
  sound-led Refused old new sound leads = subst (λ (l : Chain). IsSoundState l.cards l.present) (sym leads) sound

  -- ---- calls, one after the other
  pub chain-led : (kept : Kept) (calls : List Call) (chain : Chain) → LeadOn calls (serial_chain cards start kept) chain → chain ≡ serial_chain cards start (kept_on start calls kept)
  chain-led kept [] chain leads = leads
  chain-led kept (call ∷ calls) chain leads =
      let between = serial_chain-led kept call leads.0 leads.1 in
      chain-led (kept_by start call kept) calls chain (subst (λ (l : Chain). LeadOn calls l chain) between leads.2)

  sound-on : (kept : Kept) (calls : List Call) (chain : Chain) → IsSoundState cards (serial cards start (all_kept kept)) → LeadOn calls (serial_chain cards start kept) chain
      → (count : ℕ) → count ≤ length calls → IsSoundState cards (serial cards start (all_kept (kept_on start (take count calls) kept)))
  sound-on kept calls chain sound leads zero low = sound
  sound-on kept [] chain sound leads (suc count) low = absurd (omega (arith, low))
  sound-on kept (call ∷ calls) chain sound leads (suc count) low =
      let between = serial_chain-led kept call leads.0 leads.1 in
      let sound_now = sound-led call (serial_chain cards start kept) leads.0 sound leads.1 in
      sound-on (kept_by start call kept) calls chain (subst (λ (l : Chain). IsSoundState l.cards l.present) between sound_now)
      (subst (λ (l : Chain). LeadOn calls l chain) between leads.2) count (omega (arith, low))

  records-on : (kept : Kept) (calls : List Call) (chain : Chain) → LeadOn calls (serial_chain cards start kept) chain
      → (count : ℕ) (batch : Batch) (r : Record) → slice_get calls count ≡ Some (Executed batch r) → IsRecordOfEither cards (serial cards start (all_kept (kept_on start (take count calls) kept))) batch r
  records-on kept [] chain leads count batch r at = let no : None ≡ Some (Executed batch r) = at in let bad : ⊥ = cc in absurd bad
  records-on kept (call ∷ calls) chain leads zero batch r at =
      let is : call ≡ Executed batch r = cc in
      (subst (λ (c : Call). Leads c (serial_chain cards start kept) leads.0) is leads.1).0
  records-on kept (call ∷ calls) chain leads (suc count) batch r at =
      let between = serial_chain-led kept call leads.0 leads.1 in
      records-on (kept_by start call kept) calls chain (subst (λ (l : Chain). LeadOn calls l chain) between leads.2) count batch r at

pub chains_are_serial : ChainsAreSerial
chains_are_serial cards start calls chain sound leads = record {
  states_as_serial = chain-led cards start none_kept calls chain leads;
  records_as_serial = records-on cards start none_kept calls chain leads;
  sound = sound-on cards start none_kept calls chain sound leads;
}
