use Rattle.std.proofs.Common.{◌≡◌, length}
use Rattle.row_tables.specs.OrderLines.{AreFirstLines, lines_of}
use Rattle.pointed_tables.proofs.roomy.RoomyTables.lines_anywhere.Given as goal

-- the lines so far
abbrev pub invariant-loop-place : goal.invariant-loop-place
invariant-loop-place l = (length (lines_of l.lines) ≡ l.place) × AreFirstLines l.self.rows l.warehouse l.district l.order l.place (lines_of l.lines)
