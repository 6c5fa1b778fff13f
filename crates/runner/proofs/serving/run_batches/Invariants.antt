use Rattle.std.proofs.Common.{◌≡◌, ◌+◌, ◌++◌, List, length}
use Rattle.std.specs.Io.KnownBytes.{Appends}
use Rattle.requests.specs.Batches.{Reading, batches}
use Rattle.requests.specs.declared.request.Batch.{Batch}
use Rattle.runner.specs.ReadingAhead.{IsNext, pending}
use Rattle.runner.specs.Runs.{AreCompleted, chain_on}
use Rattle.runner.specs.Text.{text}
use Rattle.runner.proofs.serving.run_batches.Given as goal

-- some batches are completed, committed and written; the next one is read, and the others are left to be read
abbrev pub invariant-batches : goal.invariant-batches
invariant-batches g l = (g.S.Sink.failed l.sink ≡ g.S.Sink.failed l.initial.sink)
    × (written : List Batch)
    × (before : Reading)
    × (batches l.text ≡ (written ++ before.0, before.1))
    × IsNext before l.reader.left l.next
    × (length written ≡ l.done)
    × (l.executor ≡ chain_on l.initial.executor.cards l.initial.executor.present written)
    × AreCompleted l.initial.executor.cards l.initial.executor.present written
    × Appends (g.S.Sink.taken l.initial.sink) (g.S.Sink.taken l.sink) (text l.initial.executor.cards l.initial.executor.present written)

abbrev pub decreases-batches : goal.decreases-batches
decreases-batches g l = pending l.next + length l.reader.left.0
