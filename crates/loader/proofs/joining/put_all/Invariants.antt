use Rattle.std.specs.Prelude.{length, reverse}
use Rattle.loader.proofs.Late.{IsPutting}
use Rattle.loader.proofs.joining.put_all.Given as goal

-- the last row of those left is the next
abbrev pub invariant-loop-key : goal.invariant-loop-key
invariant-loop-key l = IsPutting l.fn.rows.items (reverse l.left.items) l.tables

abbrev pub decreases-loop-key : goal.decreases-loop-key
decreases-loop-key l = length l.left.items
