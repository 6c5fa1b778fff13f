use Rattle.std.proofs.Common.{◌≡◌, ◌-◌}
use Rattle.serializability.specs.Footprints.{joined}
use Rattle.tpcc_model.specs.Database.{database}
use Rattle.tpcc_model.specs.StockLevels.{first_recent}
use Rattle.tpcc_model.specs.Touches.{orders_touch}
use Rattle.profiles.proofs.stock_level.touch_recent.Given as goal

-- the orders so far are touched
abbrev pub invariant-loop-order : goal.invariant-loop-order
invariant-loop-order l = l.footprint ≡ joined l.fn.footprint (orders_touch (database l.catalog l.store.rows) l.p (first_recent l.district.next_order) (l.order - first_recent l.district.next_order))
