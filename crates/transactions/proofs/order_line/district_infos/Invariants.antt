use Rattle.std.proofs.Common.{◌≡◌, map, take}
use Rattle.catalog.specs.StockCards.{district_info}
use Rattle.transactions.proofs.order_line.district_infos.Given as goal

-- the texts of the lines so far
abbrev pub invariant-loop-line : goal.invariant-loop-line
invariant-loop-line l = l.infos.items ≡ map (λ line. district_info line.stock.now l.district) (take l.line-index l.lines)
