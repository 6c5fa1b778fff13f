use Rattle.std.proofs.Common.{◌≡◌, ◌≤◌, unwrap_or}
use Rattle.tpcc_rows.specs.LeafPicks.{greatest_below}
use Rattle.tpcc_model.specs.Serial.{history_pick}
use Rattle.executor.proofs.opening.next_number.Given as goal

-- the greatest on the pages so far
abbrev pub invariant-loop-leaf : goal.invariant-loop-leaf
invariant-loop-leaf l = (l.last ≤ 999999999999999) × (l.last ≡ unwrap_or (greatest_below history_pick l.store.rows l.leaf) 0)
