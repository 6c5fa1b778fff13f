-- What is left if the image of a made database isn't written completely.
use Rattle.std.specs.Prelude.{ℕ, List}
use Rattle.std.specs.Io.KnownBytes.{Keeps}
use Rattle.records.specs.Io.{AppendsFront}
use Rattle.runner.specs.Runs.{Taken}
use Rattle.runner.specs.declared.fault.RunFault.{RunFault}
use Rattle.runner.specs.declared.fault.RunFault.TheVariants as run_fault

-- memory runs out before the first byte; or the sink fails after a prefix of the text
abbrev pub LeavesImage : RunFault → List ℕ → Taken → Taken → Type 0
LeavesImage run_fault.Memory text old new = Keeps old new
LeavesImage run_fault.Write text old new = AppendsFront old new text
LeavesImage _ text old new = ⊥
