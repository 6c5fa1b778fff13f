use Rattle.std.proofs.Common.{◌≡◌, ◌∙◌, List, ap, ap₂, length, subst, sym, arith}
use Rattle.tpcc_model.specs.Database.{database}
use Rattle.tpcc_model.specs.Serial.{State, opening}
use Rattle.executor.specs.Chains.{IsKeptState, Chain, state_of, states_of}
use Rattle.executor.specs.States.{IsSoundState}
use Rattle.executor.specs.declared.stamp.Stamp.{Stamp}
use Rattle.executor.proofs.ChainFacts.{all-none}
use Rattle.executor.proofs.Openings.{opening_stamp}
use Rattle.executor.proofs.executor.Executor.of_parts.Goals as goal

pub invariant_of-result-2 : goal.invariant_of-result-2
invariant_of-result-2 c =
    let rows = c.args.store.rows in
    let stamp : Stamp = record { next = c.next_number-next.result; sequence = 0; token = c.token.result } in
    let state : state_of rows stamp ≡ opening c.args.catalog rows =
    opening_stamp c.args.catalog rows stamp c.args.digest c.root.result c.reply_digest.result c.next_number-next.ensures.value c.requires.digest (c.root.ensures rows c.requires.tree) c.reply_digest.ensures c.token.ensures in
    record {
      stamped = ap length c.new.ensures ∙ sym (ap length c.requires.points);
      earlier = all-none (IsKeptState c.args.catalog) c.args.store.points c.new.result.items c.requires.points;
      present = record {
        sound = subst (IsSoundState c.args.catalog) (sym state) (c.sound_states.ensures.opening (database c.args.catalog rows) c.requires.sound);
        next_within = c.next_number-next.ensures.range;
        sequence_within = omega arith;
      };
    }

pub returns-clause-chain : goal.returns-clause-chain
returns-clause-chain c =
    let rows = c.args.store.rows in
    let stamp : Stamp = record { next = c.next_number-next.result; sequence = 0; token = c.token.result } in
    let state : state_of rows stamp ≡ opening c.args.catalog rows =
    opening_stamp c.args.catalog rows stamp c.args.digest c.root.result c.reply_digest.result c.next_number-next.ensures.value c.requires.digest (c.root.ensures rows c.requires.tree) c.reply_digest.ensures c.token.ensures in
    ap₂ (λ (earlier : List State) (present : State). let l : Chain = record { cards = c.args.catalog; earlier = earlier; present = present } in l) (ap (λ points. states_of points c.new.result.items) c.requires.points) state

pub returns-clause-sound : goal.returns-clause-sound
returns-clause-sound c =
    let rows = c.args.store.rows in
    let stamp : Stamp = record { next = c.next_number-next.result; sequence = 0; token = c.token.result } in
    let state : state_of rows stamp ≡ opening c.args.catalog rows =
    opening_stamp c.args.catalog rows stamp c.args.digest c.root.result c.reply_digest.result c.next_number-next.ensures.value c.requires.digest (c.root.ensures rows c.requires.tree) c.reply_digest.ensures c.token.ensures in
    subst (IsSoundState c.args.catalog) (sym state) (c.sound_states.ensures.opening (database c.args.catalog rows) c.requires.sound)
