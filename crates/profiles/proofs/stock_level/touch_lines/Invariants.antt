use Rattle.std.proofs.Common.{◌≡◌}
use Rattle.serializability.specs.Footprints.{joined}
use Rattle.tpcc_model.specs.Database.{database}
use Rattle.tpcc_model.specs.Touches.{lines_touch}
use Rattle.profiles.proofs.stock_level.touch_lines.Given as goal

-- the lines so far are touched
abbrev pub invariant-loop-index : goal.invariant-loop-index
invariant-loop-index l = l.footprint ≡ joined l.fn.footprint (lines_touch (database l.catalog l.store.rows) l.p l.fn.order l.index)
