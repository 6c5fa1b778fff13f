use Rattle.std.proofs.Common.{◌≡◌, ◌++◌, Some, map}
use Rattle.profiles.proofs.batch.taken.Given as goal

abbrev pub invariant-loop-place : goal.invariant-loop-place
invariant-loop-place l = map Some l.footprints.items ++ l.place-iterator.rest.items ≡ l.fn.places.items
