use Rattle.std.proofs.Common.{◌≡◌, vec_len}
use Rattle.hashers.proofs.parcel.Parcel.new.Given as goal

abbrev pub invariant-loop : goal.invariant-loop
invariant-loop g l = vec_len l.texts ≡ l.counter
