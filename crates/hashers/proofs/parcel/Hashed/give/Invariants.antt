use Rattle.std.proofs.Common.{◌≡◌, length, map, take}
use Rattle.sha2.specs.Sha256.{sha256}
use Rattle.hashers.proofs.parcel.Hashed.give.Given as goal

abbrev pub invariant-loop-k : goal.invariant-loop-k
invariant-loop-k g l =
    (length l.digests ≡ length l.initial.digests)
    × (take l.k l.digests ≡ map (λ message. sha256 message.now) (take l.k l.messages))
