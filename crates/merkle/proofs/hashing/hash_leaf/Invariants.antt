use Rattle.std.proofs.Common.{◌≡◌, ℕ, List, ◌++◌}
use Rattle.row_store.specs.Slots.{slots}
use Rattle.merkle.specs.Hashing.{IsFed, page_text}
use Rattle.merkle.proofs.PageTexts.{bytes_from}
use Rattle.merkle.proofs.hashing.hash_leaf.Given as goal

-- what was taken in and what is left are the whole
abbrev pub invariant-loop-slot : goal.invariant-loop-slot
invariant-loop-slot l = (m : List ℕ) × IsFed l.gathered m × (m ++ bytes_from (slots l.page) l.slot ≡ page_text l.page)
