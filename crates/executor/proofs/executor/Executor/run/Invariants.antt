use Rattle.std.proofs.Common.{◌≡◌, ◌≤◌, ℕ, length, take}
use Rattle.std.specs.Vec.{vec_capacity}
use Rattle.tpcc_model.specs.Serial.{serial}
use Rattle.executor.specs.Runs.{AreRecordsOf, chain_after}
use Rattle.executor.specs.States.{IsSoundState}
use Rattle.executor.proofs.executor.Executor.run.Given as goal

abbrev pub invariant-loop-batch : goal.invariant-loop-batch
invariant-loop-batch g l = record {
  counted : length l.records.items ≡ l.batch-index;
  room : length l.batches ≤ vec_capacity l.records;
  records : AreRecordsOf l.fn.self.cards l.fn.self.present l.batches l.records.items;
  chain : l.self ≡ chain_after l.fn.self (take l.batch-index l.batches);
  sound : IsSoundState l.self.cards l.self.present;
  each_sound : (count : ℕ) → count ≤ l.batch-index → IsSoundState l.fn.self.cards (serial l.fn.self.cards l.fn.self.present (take count l.batches));
}
