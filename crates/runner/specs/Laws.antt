-- Laws of runs.
use Rattle.std.specs.Prelude.{◌≡◌, ◌⊎◌, ℕ, List, ◌++◌, IsOk, Some, Result, Ok, Err}
use Rattle.runner.specs.Runs.{Taken}
use Rattle.runner.specs.WholeRuns.{LeavesRun, RanWhole}
use Rattle.runner.specs.declared.fault.RunFault.{RunFault}

-- what a run with this result leaves
abbrev pub EndsAs : Result ℕ RunFault → List ℕ → List ℕ → Taken → Taken → Type 0
EndsAs (Ok count) image_bytes batch_bytes old new = RanWhole image_bytes batch_bytes old new count
EndsAs (Err e) image_bytes batch_bytes old new = LeavesRun e image_bytes batch_bytes old new

-- the text begins with this one
abbrev pub BeginsWith : List ℕ → List ℕ → Type 0
BeginsWith text front = (rest : List ℕ) × (text ≡ front ++ rest)

-- of two texts, one is a prefix of the other
abbrev pub BeginAlike : List ℕ → List ℕ → Type 0
BeginAlike a b = BeginsWith b a ⊎ BeginsWith a b

-- two runs of the same image and batches, each with its own workers and gate, write texts of which one is a prefix of the other,
-- after what their sinks had received before; and if both complete, the same text
abbrev pub TwoRunsAgree : Type 0
TwoRunsAgree = (image_bytes batch_bytes : List ℕ) (r s : Result ℕ RunFault) (before_a a before_b b : List ℕ)
    → EndsAs r image_bytes batch_bytes (Some before_a) (Some (before_a ++ a)) → EndsAs s image_bytes batch_bytes (Some before_b) (Some (before_b ++ b))
    → BeginAlike a b × (IsOk r → IsOk s → a ≡ b)
