-- The headline of commands that were answered one after the other.
use Rattle.std.proofs.Common.{◌≡◌, ◌∙◌, ℕ, zero, suc, ◌+◌, ◌≤◌, Bool, true, false, List, [], ◌∷◌, ◌++◌, length, map, take, Some, None, inl, inr, refl, sym, ap, subst, arith}
use Rattle.std.specs.List.{slice_get}
use Rattle.catalog.specs.CardMap.{Cards}
use Rattle.commands.specs.declared.command.Command.TheVariants as command
use Rattle.commands.specs.declared.command.Control.TheVariants as control
use Rattle.commands.specs.declared.command.Heard.{Heard}
use Rattle.commands.specs.declared.command.Heard.TheVariants as heard
use Rattle.executor.specs.Headline.{MeetsConditions}
use Rattle.executor.specs.Kept.{Kept, all_kept, none_kept, serial_chain}
use Rattle.executor.specs.Chains.{Chain}
use Rattle.executor.specs.States.{IsSoundState}
use Rattle.executor.proofs.SerialChains.{serial_chain-committed, serial_chain-extended, serial_chain-returned}
use Rattle.session.specs.Answers.{Answers, AnswersAll}
use Rattle.session.specs.Laws.{SessionsAreSerial}
use Rattle.session.specs.SessionHeadline.{AreAnswered, SessionHeadline, Turn, heard_in, kept_by, kept_on, text_of}
use Rattle.tpcc_model.specs.Database.{Database, database}
use Rattle.tpcc_model.specs.Serial.{State, serial}
use Rattle.tpcc_model.specs.Soundness.{IsSound}

meets_conditions : (db : Database) → IsSound db → MeetsConditions db.rows
meets_conditions db sound = record { condition_1 = sound.condition_1; conditions_2_to_4 = sound.districts }

module _ (cards : Cards) (start : State) where
  -- whether what was heard was refused, and the chain after it
  led : (kept : Kept) (c : Heard) (new : Chain) (text : List ℕ) → Answers c (serial_chain cards start kept) new text
      → (refused : Bool) × (new ≡ serial_chain cards start (kept_by start c refused kept))
  led kept (heard.Command (command.Batch batch)) new text (inl (admitted, chain, is)) = (false, chain ∙ serial_chain-extended cards start kept batch)
  led kept (heard.Command (command.Batch batch)) new text (inr (e, why, chain, is)) = (true, chain)
  led kept (heard.Command (command.Control control.Commit)) new text (inl (n, at, chain, is)) = (false, chain ∙ serial_chain-committed cards start kept)
  led kept (heard.Command (command.Control control.Commit)) new text (inr (none, (e, why, chain, is))) = (true, chain)
  led kept (heard.Command (command.Control (control.RollbackTo n))) new text (inl (back, is)) = (false, serial_chain-returned cards start kept n new back)
  led kept (heard.Command (command.Control (control.RollbackTo n))) new text (inr (none, (e, why, chain, is))) = (true, chain)
  led kept (heard.Command (command.Control control.State)) new text (chain, is) = (false, chain)
  led kept (heard.Command (command.Control control.At)) new text (chain, is) = (false, chain)
  led kept (heard.Command (command.Control control.Image)) new text (inl (chain, is)) = (false, chain)
  led kept (heard.Command (command.Control control.Image)) new text (inr (e, why, chain, is)) = (true, chain)
  led kept (heard.Fault f) new text (chain, is) = (false, chain)

  abbrev chain_on : Kept → List Turn → Chain
  chain_on kept turns = serial_chain cards start (kept_on start turns kept)

  -- the turns that commands had where these batches are kept
  record AreTurns (kept : Kept) (commands : List Heard) (new : Chain) (text : List ℕ) : Type 0 where
    turns : List Turn
    commands_are : heard_in turns ≡ commands
    text_is : text_of turns ≡ text
    chain : new ≡ chain_on kept turns
    answers : (count : ℕ) (turn : Turn) → slice_get turns count ≡ Some turn → Answers turn.heard (chain_on kept (take count turns)) (chain_on kept (take (count + 1) turns)) turn.text
    sound : (count : ℕ) → count ≤ length turns → IsSoundState cards (chain_on kept (take count turns)).present

  no-turns : (kept : Kept) (new : Chain) (text : List ℕ) → IsSoundState cards (serial cards start (all_kept kept)) → new ≡ serial_chain cards start kept → text ≡ [] → AreTurns kept [] new text
  no-turns kept new text sound chain none = record {
    turns = [];
    commands_are = refl;
    text_is = sym none;
    chain = chain;
    answers = λ count turn at. let no : None ≡ Some turn = at in let bad : ⊥ = cc in absurd bad;
    sound = at;
  } where
    at : (count : ℕ) → count ≤ 0 → IsSoundState cards (chain_on kept (take count [])).present
    at zero low = sound
    at (suc count) low = absurd (omega (arith, low))

  -- one turn before
  module _ (kept : Kept) (c : Heard) (refused : Bool) (first : List ℕ) (answered : Answers c (serial_chain cards start kept) (serial_chain cards start (kept_by start c refused kept)) first)
      (sound : IsSoundState cards (serial cards start (all_kept kept))) where
    abbrev here : Turn
    here = record { heard = c; refused = refused; text = first }

    turn-more : (commands : List Heard) (new : Chain) (text rest : List ℕ) → AreTurns (kept_by start c refused kept) commands new rest → text ≡ first ++ rest → AreTurns kept (c ∷ commands) new text
    turn-more commands new text rest are parts = record {
      turns = here ∷ are.turns;
      commands_are = ap (λ (cs : List Heard). c ∷ cs) are.commands_are;
      text_is = ap (λ (t : List ℕ). first ++ t) are.text_is ∙ sym parts;
      chain = are.chain;
      answers = answers;
      sound = sound_at;
    } where
      answers : (count : ℕ) (turn : Turn) → slice_get (here ∷ are.turns) count ≡ Some turn → Answers turn.heard (chain_on kept (take count (here ∷ are.turns))) (chain_on kept (take (count + 1) (here ∷ are.turns))) turn.text
      answers zero turn at =
          let is : here ≡ turn = cc in
          subst (λ (t : Turn). Answers t.heard (chain_on kept (take zero (here ∷ are.turns))) (chain_on kept (take (zero + 1) (here ∷ are.turns))) t.text) is answered
      answers (suc count) turn at =
          let more : suc (count + 1) ≡ suc count + 1 = omega arith in
          subst (λ n. Answers turn.heard (chain_on kept (take (suc count) (here ∷ are.turns))) (chain_on kept (take n (here ∷ are.turns))) turn.text) more (are.answers count turn at)

      sound_at : (count : ℕ) → count ≤ length (here ∷ are.turns) → IsSoundState cards (chain_on kept (take count (here ∷ are.turns))).present
      sound_at zero low = sound
      sound_at (suc count) low = are.sound count (omega (arith, low))

  turns-on : (kept : Kept) (commands : List Heard) (new : Chain) (text : List ℕ) → IsSoundState cards (serial cards start (all_kept kept)) → AnswersAll commands (serial_chain cards start kept) new text
      → AreTurns kept commands new text
  turns-on kept [] new text sound (chain, none) = no-turns kept new text sound chain none
  turns-on kept (c ∷ commands) new text sound (between, first, rest, answered, sound_now, all, parts) =
      let (refused, is) = led kept c between first answered in
      turn-more kept c refused first (subst (λ (l : Chain). Answers c (serial_chain cards start kept) l first) is answered) sound commands new text rest
      (turns-on (kept_by start c refused kept) commands new rest (subst (λ (l : Chain). IsSoundState l.cards l.present) is sound_now)
      (subst (λ (l : Chain). AnswersAll commands l new rest) is all))
      parts

pub sessions_are_serial : SessionsAreSerial
sessions_are_serial commands old new text alone sound answered =
    let cards = old.cards in
    let start = old.present in
    let opened : old ≡ serial_chain cards start none_kept = (λ i. record { cards = cards; earlier = alone i; present = start }) in
    let are = turns-on cards start none_kept commands new text sound (subst (λ (l : Chain). AnswersAll commands l new text) opened answered) in
    record {
      turns = are.turns;
      commands_are = are.commands_are;
      text_is = are.text_is;
      headline = record {
        states_as_serial = are.chain;
        answers_as_serial = are.answers;
        sound = λ count low. (are.sound count low).database;
        conditions = λ count low. let db : Database = database cards (chain_on cards start none_kept (take count are.turns)).present.rows in meets_conditions db (are.sound count low).database;
      };
    }
