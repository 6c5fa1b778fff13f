use Rattle.std.proofs.Common.{◌≡◌, drop, is_some, map}
use Rattle.profiles.specs.Told.{is_delivery}
use Rattle.profiles.proofs.deliveries.all_told.Given as goal

-- what is left leads to the whole
abbrev pub invariant-loop-place : goal.invariant-loop-place
invariant-loop-place l = map is_some (drop l.place l.told) ≡ map is_delivery (drop l.place l.requests) → map is_some l.told ≡ map is_delivery l.requests
