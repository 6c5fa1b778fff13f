use Rattle.std.proofs.Common.{◌≡◌, ◌∙◌, ◌+◌, None, ap, length, sym, arith}
use Rattle.rollback.specs.declared.points.TheConstants.{POINTS}
use Rattle.executor.specs.Executions.{refusal_for}
use Rattle.executor.specs.Chains.{Chain, extended}
use Rattle.executor.specs.declared.stamp.Stamp.{Stamp}
use Rattle.executor.proofs.Admissions.{numbers_for, place_for}
use Rattle.executor.proofs.Executing.{left_by, chain_after, sound_after, within_after}
use Rattle.executor.proofs.ChainFacts.{length-states_of, stamped_more}
use Rattle.executor.proofs.executor.Executor.execute_by.Goals as goal

pub execute-requires-clause-room : goal.execute-requires-clause-room
execute-requires-clause-room g c κs lives =
    let none : refusal_for POINTS c.args.self.now c.args.batch.now ≡ None = sym c.refusal_for.ensures ∙ c.in_default.is in
    let place = place_for POINTS c.args.self.now c.args.batch.now none in
    let kept = sym (ap (λ (l : Chain). length l.earlier) c.self.view_is) ∙ length-states_of c.self.inside.engine.store.points c.self.inside.earlier.items c.self.invariant.stamped in
    let same = c.self.invariant.stamped in
    omega (arith, place, kept, same)

pub push-requires : goal.push-requires
push-requires g c =
    let none : refusal_for POINTS c.args.self.now c.args.batch.now ≡ None = sym c.refusal_for.ensures ∙ c.in_default.is in
    let place = place_for POINTS c.args.self.now c.args.batch.now none in
    let kept = sym (ap (λ (l : Chain). length l.earlier) c.self.view_is) ∙ length-states_of c.self.inside.engine.store.points c.self.inside.earlier.items c.self.invariant.stamped in
    (omega arith, omega (arith, place, kept))

pub invariant_of-self-2 : goal.invariant_of-self-2
invariant_of-self-2 g c =
    let old = c.self.inside.engine in
    let stamp = c.self.inside.present in
    let batch = c.args.batch.now in
    let now : Stamp = record { next = stamp.next + c.len.result; sequence = c.in_ok-record.record.sequence; token = c.in_ok-record.record.token } in
    let left = left_by old c.execute.new.self stamp batch _ c.in_ok-record.record c.len.result c.in_ok-record.ensures.record c.in_ok-record.ensures.rows c.in_ok-record.ensures.points c.execute.ensures.cards c.len.ensures in
    let none : refusal_for POINTS c.args.self.now batch ≡ None = sym c.refusal_for.ensures ∙ c.in_default.is in
    let (last, end) = numbers_for POINTS c.args.self.now batch none in
    let next_there = ap (λ (l : Chain). l.present.next) c.self.view_is in
    let sequence_there = ap (λ (l : Chain). l.present.sequence) c.self.view_is in
    let low = c.self.invariant.present.next_within.0 in
    let sequence = left.told.sequence in
    let count = c.len.ensures in
    record {
      stamped = stamped_more old.store.points c.execute.new.self.store.points c.self.inside.earlier.items c.push.new.self.items old.store.rows stamp left.points c.push.ensures.items c.self.invariant.stamped;
      earlier = within_after old c.execute.new.self stamp now batch _ c.in_ok-record.record left c.self.inside.earlier.items c.push.new.self.items c.self.invariant.stamped c.push.ensures.items c.self.invariant.earlier c.self.invariant.present;
      present = record {
        sound = sound_after old c.execute.new.self stamp now batch _ c.in_ok-record.record left c.sound_states.ensures.after c.self.invariant.present.sound c.keep_within.ensures;
        next_within = (omega (arith, low, count), omega (arith, end, next_there, count));
        sequence_within = omega (arith, sequence, last, sequence_there);
      };
    }

pub returns-clause-chain : goal.returns-clause-chain
returns-clause-chain g c =
    let old = c.self.inside.engine in
    let stamp = c.self.inside.present in
    let batch = c.args.batch.now in
    let now : Stamp = record { next = stamp.next + c.len.result; sequence = c.in_ok-record.record.sequence; token = c.in_ok-record.record.token } in
    let left = left_by old c.execute.new.self stamp batch _ c.in_ok-record.record c.len.result c.in_ok-record.ensures.record c.in_ok-record.ensures.rows c.in_ok-record.ensures.points c.execute.ensures.cards c.len.ensures in
    chain_after old c.execute.new.self stamp now batch _ c.in_ok-record.record left c.self.inside.earlier.items c.push.new.self.items c.self.invariant.stamped c.push.ensures.items
    ∙ ap (λ (l : Chain). extended l batch) c.self.view_is

pub returns-clause-sound : goal.returns-clause-sound
returns-clause-sound g c =
    let old = c.self.inside.engine in
    let stamp = c.self.inside.present in
    let batch = c.args.batch.now in
    let now : Stamp = record { next = stamp.next + c.len.result; sequence = c.in_ok-record.record.sequence; token = c.in_ok-record.record.token } in
    let left = left_by old c.execute.new.self stamp batch _ c.in_ok-record.record c.len.result c.in_ok-record.ensures.record c.in_ok-record.ensures.rows c.in_ok-record.ensures.points c.execute.ensures.cards c.len.ensures in
    sound_after old c.execute.new.self stamp now batch _ c.in_ok-record.record left c.sound_states.ensures.after c.self.invariant.present.sound c.keep_within.ensures
