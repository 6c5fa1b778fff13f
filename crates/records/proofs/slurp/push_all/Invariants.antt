use Rattle.std.proofs.Common.{◌≡◌, ℕ, List, ◌++◌, length}
use Rattle.std.specs.Io.KnownBytes.{Appends}
use Rattle.records.proofs.slurp.push_all.Given as goal

abbrev pub invariant-loop-rest : goal.invariant-loop-rest
invariant-loop-rest g l = (g.S.Sink.failed l.sink ≡ g.S.Sink.failed l.initial.sink)
    × (front : List ℕ) × (l.text ≡ front ++ l.rest) × Appends (g.S.Sink.taken l.initial.sink) (g.S.Sink.taken l.sink) front

abbrev pub decreases-loop-rest : goal.decreases-loop-rest
decreases-loop-rest g l = length l.rest
