use Rattle.std.proofs.Common.{◌≡◌, vec_len}
use Rattle.hashers.proofs.parcel.Parcel.fill.Given as goal

abbrev pub invariant-loop-k : goal.invariant-loop-k
invariant-loop-k g l = vec_len l.self.texts ≡ vec_len l.initial.self.texts
