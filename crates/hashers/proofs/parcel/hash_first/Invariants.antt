use Rattle.std.proofs.Common.{◌≡◌, length, map, take}
use Rattle.sha2.specs.Sha256.{sha256}
use Rattle.hashers.proofs.parcel.hash_first.Given as goal

abbrev pub invariant-loop-text : goal.invariant-loop-text
invariant-loop-text g l =
    (length l.messages.items ≡ l.text-index)
    × (map (λ message. sha256 message.now) l.messages.items ≡ map (λ text. sha256 text.items) (take l.text-index (take l.len l.texts)))
