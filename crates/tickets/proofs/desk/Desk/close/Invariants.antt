use Rattle.std.proofs.Common.{◌≡◌, [], ◌++◌, map, reverse, All}
use Rattle.tickets.specs.Seats.{entry_of, IsSeatOf}
use Rattle.tickets.proofs.desk.Desk.close.Given as goal

abbrev pub invariant-loop-seat : goal.invariant-loop-seat
invariant-loop-seat l = record {
  table : l.joined.table_id ≡ l.fn.self.table.shared.table_id;
  bare : l.joined.me.1 ≡ [];
  own : All (IsSeatOf l.fn.self) l.seats.items;
  so_far : l.joined.me.0 ++ reverse (map entry_of l.seats.items) ≡ reverse (map entry_of l.fn.seats.items);
}

abbrev pub decreases-loop-seat : goal.decreases-loop-seat
decreases-loop-seat l = goal.left-loop-seat l
