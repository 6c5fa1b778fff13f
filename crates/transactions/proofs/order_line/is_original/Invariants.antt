use Rattle.std.proofs.Common.{◌≡◌, codes, drop}
use Rattle.tpcc_model.specs.NewOrders.{includes}
use Rattle.transactions.proofs.order_line.is_original.Given as goal

-- the word is not in what is passed
abbrev pub invariant-loop-start : goal.invariant-loop-start
invariant-loop-start l = includes (drop l.start l.text) (codes "ORIGINAL") ≡ includes l.text (codes "ORIGINAL")
