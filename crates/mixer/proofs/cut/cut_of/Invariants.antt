use Rattle.std.proofs.Common.{◌≡◌, map, take}
use Rattle.serializability.specs.Levels.{cut_from, depth, places_from}
use Rattle.mixer.proofs.cut.cut_of.Given as goal

abbrev pub invariant-loop-place : goal.invariant-loop-place
invariant-loop-place l = map (λ places. places.items) l.cut.items ≡ cut_from 0 (depth l.levels) (places_from 0 (take l.place l.levels))
