use Rattle.std.proofs.Common.{rules, ◌≡◌, ◌∙◌, ◌+◌, ◌∷◌, ℕ, List, ap, drop, get_or, inr, length, subst, sym, take, arith}
use Rattle.std.proofs.lemmas.List.{drop_more, length_push}
use Rattle.requests.specs.declared.request.Batch.{Batch}
use Rattle.rollback.specs.declared.points.TheConstants.{POINTS}
use Rattle.executor.specs.Executions.{IsRefusedFor, refusal_for}
use Rattle.executor.specs.Chains.{Chain, extended}
use Rattle.executor.specs.Runs.{AreRecordsOf, alone, chain_after}
use Rattle.executor.specs.States.{IsSoundState}
use Rattle.executor.specs.declared.record.Record.{Record}
use Rattle.executor.proofs.Headlines.{headline_of_chain, headline_of_none, sound_before, sound_more}
use Rattle.executor.proofs.Running.{chain_more, record_at, records_more, take_more}
use Rattle.executor.proofs.executor.Executor.run.Goals as goal

pub returns-in-Err-clause-run : goal.returns-in-Err-clause-run
returns-in-Err-clause-run g c =
    let batches = c.args.batches.now in
    let batch = c.batch-item.result in
    let i = c.loop-batch.batch-index in
    let counted = c.loop-batch.invariant.counted in
    record {
      records = c.loop-batch.invariant.records;
      chain = c.in-Err.ensures.err ∙ c.loop-batch.invariant.chain ∙ ap (λ (n : ℕ). chain_after c.args.self.now (take n batches)) (sym counted);
      stop = inr (
        batch,
        drop (i + 1) batches,
        ap (λ (n : ℕ). drop n batches) counted ∙ drop_more batches i batch c.loop-batch-test.true ∙ ap (λ (b : Batch). b ∷ drop (i + 1) batches) (sym c.batch-item.is),
        subst (λ (l : Chain). IsRefusedFor (refusal_for POINTS l batch) c.in-Err.refusal) (sym c.in-Err.ensures.err) c.in-Err.ensures.refused,
      );
    }

pub loop-batch-preserved : goal.loop-batch-preserved
loop-batch-preserved g c =
    let old = c.args.self.now in
    let batches = c.args.batches.now in
    let batch = c.batch-item.result in
    let i = c.loop-batch.batch-index in
    let records = c.loop-batch.records.items in
    let done = c.in-Ok-execute.record in
    let counted = c.loop-batch.invariant.counted in
    let there = c.loop-batch-test.true in
    let at : batch ≡ get_or batches (length records) batch = c.batch-item.is ∙ ap (λ (n : ℕ). get_or batches n batch) (sym counted) in
    let chain = c.loop-batch.invariant.chain ∙ ap (λ (n : ℕ). chain_after old (take n batches)) (sym counted) in
    let chain_now : c.commit_all.new.self ≡ chain_after old (take (i + 1) batches) =
    c.commit_all.ensures ∙ ap alone c.in-Ok-execute.ensures.chain ∙ ap (λ (l : Chain). alone (extended l batch)) c.loop-batch.invariant.chain
    ∙ chain_more old (take i batches) batch ∙ ap (chain_after old) (sym (take_more batches i batch there c.batch-item.is)) in
    let sound_now : IsSoundState c.commit_all.new.self.cards c.commit_all.new.self.present = subst (λ (l : Chain). IsSoundState l.cards l.present) (sym c.commit_all.ensures) c.execute.ensures.sound in
    record {
      counted = ap length c.push_reserved.ensures.items ∙ length_push records done ∙ ap (λ (n : ℕ). n + 1) counted;
      room = search rules;
      records =
          subst (λ (rs : List Record). AreRecordsOf old.cards old.present batches rs) (sym c.push_reserved.ensures.items)
          (records_more old.cards old.present batches records batch done (omega (arith, counted, there)) at c.loop-batch.invariant.records (record_at old c.loop-batch.self (take (length records) batches) batch done chain c.in-Ok-execute.ensures.record));
      chain = chain_now;
      sound = sound_now;
      each_sound = sound_more old c.commit_all.new.self batches i chain_now sound_now c.loop-batch.invariant.each_sound;
    }

pub returns-in-Err-clause-headline : goal.returns-in-Err-clause-headline
returns-in-Err-clause-headline g c =
    let batches = c.args.batches.now in
    let counted = c.loop-batch.invariant.counted in
    headline_of_chain c.args.self.now c.execute.new.self batches c.loop-batch.records.items c.loop-batch.invariant.records
    (c.in-Err.ensures.err ∙ c.loop-batch.invariant.chain ∙ ap (λ (n : ℕ). chain_after c.args.self.now (take n batches)) (sym counted))
    (λ count low. c.loop-batch.invariant.each_sound count (omega (arith, low, counted)))

pub returns-clause-headline : goal.returns-clause-headline
returns-clause-headline g c =
    let batches = c.args.batches.now in
    let counted = c.loop-batch.invariant.counted in
    headline_of_chain c.args.self.now c.loop-batch.self batches c.loop-batch.records.items c.loop-batch.invariant.records
    (c.loop-batch.invariant.chain ∙ ap (λ (n : ℕ). chain_after c.args.self.now (take n batches)) (sym counted))
    (λ count low. c.loop-batch.invariant.each_sound count (omega (arith, low, counted)))

pub returns-in_default-clause-headline : goal.returns-in_default-clause-headline
returns-in_default-clause-headline g c = headline_of_none c.args.self.now c.args.batches.now c.new.result.items (search rules) c.keep_sound.ensures

pub loop-batch-init : goal.loop-batch-init
loop-batch-init g c = record {
  counted = search rules;
  room = search rules;
  records = search rules;
  chain = search rules;
  sound = search rules;
  each_sound = sound_before c.args.self.now.cards c.args.self.now.present c.args.batches.now c.keep_sound.ensures;
}
