use Rattle.std.proofs.Common.{◌≡◌, ◌<◌, ℕ, [], length, slice_index_or}
use Rattle.tables.specs.declared.last_orders.LastOrders.{LastOrders}
use Rattle.tables.specs.LastOrders.{AreLinked}
use Rattle.tables.proofs.order_shelf.OrderShelf.new.Given as goal

abbrev pub invariant-loop : goal.invariant-loop
invariant-loop l = record {
  len : length l.last.items ≡ l.counter;
  linked : (n : ℕ) (d : LastOrders) → n < l.counter → AreLinked (slice_index_or l.last.items n d) [];
}
