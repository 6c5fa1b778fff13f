use Rattle.std.proofs.Common.{◌≡◌, max, drop}
use Rattle.serializability.specs.Levels.{depth}
use Rattle.mixer.proofs.levels.depth_of.Given as goal

abbrev pub invariant-loop-level : goal.invariant-loop-level
invariant-loop-level l = max l.depth (depth (drop l.level-index l.levels)) ≡ depth l.levels
