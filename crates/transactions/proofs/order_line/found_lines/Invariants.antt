use Rattle.std.proofs.Common.{◌≡◌, Ok, map, take}
use Rattle.tpcc_model.specs.Staging.{for_each}
use Rattle.transactions.specs.NewOrderParts.{found_line, line_cards_of}
use Rattle.transactions.proofs.order_line.found_lines.Given as goal

-- the lines so far have these cards
abbrev pub invariant-loop-line : goal.invariant-loop-line
invariant-loop-line l = for_each (found_line l.catalog) (take l.line-index l.lines) ≡ Ok (map line_cards_of l.found.items)
