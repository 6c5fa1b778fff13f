use Rattle.std.proofs.Common.{◌≡◌, take}
use Rattle.std.specs.Prelude.{All}
use Rattle.requests.specs.Lines.{IsReadLine}
use Rattle.requests.proofs.request.OrderedLines.new.Given as goal

-- the first lines, each within its limits
abbrev pub invariant-loop-line : goal.invariant-loop-line
invariant-loop-line l = (l.places.items ≡ take l.line-index l.lines) × All IsReadLine l.places.items
