use Rattle.std.proofs.Common.{◌≡◌, ◌++◌, ◌+◌, ◌*◌, drop, length}
use Rattle.std.specs.List.{flat_map}
use Rattle.tpcc_model.specs.Tokens.{order_or_zero}
use Rattle.token.proofs.encoding.push_orders.Given as goal

-- what was pushed and what is left are all
abbrev pub invariant-loop-order : goal.invariant-loop-order
invariant-loop-order l = record {
  whole : l.out ++ flat_map order_or_zero (drop l.order-index l.orders) ≡ l.initial.out ++ flat_map order_or_zero l.orders;
  len : length l.out ≡ length l.initial.out + 4 * l.order-index;
}
