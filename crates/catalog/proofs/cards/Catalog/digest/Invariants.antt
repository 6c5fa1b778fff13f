use Rattle.std.proofs.Common.{◌≡◌, ℕ, List, ◌++◌, drop}
use Rattle.std.specs.FinMap as map
use Rattle.sha2.specs.Hashers.{Holds256}
use Rattle.catalog.specs.CardBytes.{cards_bytes}
use Rattle.catalog.proofs.cards.Catalog.digest.Given as goal

-- what was taken in and the cards that are left are all
abbrev pub invariant-loop-key : goal.invariant-loop-key
invariant-loop-key l = (m : List ℕ) × Holds256 l.hasher m × (m ++ cards_bytes (drop l.key-index l.key-items) ≡ cards_bytes (map.entries l.self))
