use Rattle.std.proofs.Common.{◌≡◌, ◌<◌, ◌≤◌, ℕ, [], get_or, length, take}
use Rattle.tables.specs.LastOrders.{last_number, numbers_before, owners}
use Rattle.tables.specs.declared.last_orders.TheConstants.{NUMBERS}
use Rattle.tables.proofs.last_orders.LastOrders.relink.Given as goal

abbrev pub invariant-loop-place : goal.invariant-loop-place
invariant-loop-place l = record {
  orders : length l.self.previous.items ≡ length l.orders;
  customers : 0 < length l.orders → NUMBERS ≤ length l.self.last.items;
  last : (c : ℕ) → c < NUMBERS → get_or l.self.last.items c 0 ≡ last_number c (owners (take l.place l.orders));
  previous : take l.place l.self.previous.items ≡ numbers_before [] (owners (take l.place l.orders));
}
