use Rattle.std.proofs.Common.{◌≡◌, ◌++◌}
use Rattle.row_store.specs.Slots.{slots}
use Rattle.merkle.specs.Hashing.{page_text}
use Rattle.merkle.proofs.PageTexts.{bytes_from}
use Rattle.merkle.proofs.hashing.encode_leaf.Given as goal

-- what is written and what is left are the whole
abbrev pub invariant-loop-slot : goal.invariant-loop-slot
invariant-loop-slot l = l.text ++ bytes_from (slots l.page) l.slot ≡ page_text l.page
