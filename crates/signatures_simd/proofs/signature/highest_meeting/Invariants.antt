use Rattle.std.proofs.Common.{◌≡◌, None, drop}
use Rattle.serializability.specs.BitSets.{meet}
use Rattle.serializability.specs.LevelRows.{last_from}
use Rattle.signatures_simd.proofs.signature.highest_meeting.Given as goal

abbrev pub invariant-loop-place : goal.invariant-loop-place
invariant-loop-place l = last_from l.place (meet l.other) (drop l.place l.signatures) ≡ None
