use Rattle.std.proofs.Common.{◌≡◌, ◌≤◌, max, unwrap_or, drop}
use Rattle.std.specs.List.{filter_map}
use Rattle.row_store.specs.Slots.{filled, slots}
use Rattle.tpcc_rows.specs.Picks.{greatest}
use Rattle.tpcc_model.specs.Serial.{history_pick}
use Rattle.executor.proofs.opening.last_on_page.Given as goal

-- the greatest so far and of what is left is the greatest of all
abbrev pub invariant-loop-slot : goal.invariant-loop-slot
invariant-loop-slot l =
    (l.last ≤ 999999999999999)
    × (max l.last (unwrap_or (greatest (filter_map (λ e. history_pick e.0 e.1) (filled (drop l.slot (slots l.page))))) 0)
    ≡ unwrap_or (greatest (filter_map (λ e. history_pick e.0 e.1) (filled (slots l.page)))) 0)
