use Rattle.std.proofs.Common.{◌≡◌, length, map, take}
use Rattle.sha2.specs.Sha256.{sha256}
use Rattle.merkle.proofs.places.bytes_of.Given as goal

abbrev pub invariant-loop-text : goal.invariant-loop-text
invariant-loop-text g l =
    (length l.bytes.items ≡ l.text-index)
    × (map (λ bytes. sha256 bytes.now) l.bytes.items ≡ map (λ text. sha256 text) (take l.text-index l.texts))
