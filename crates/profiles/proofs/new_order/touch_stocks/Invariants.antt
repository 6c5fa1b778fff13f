use Rattle.std.proofs.Common.{◌≡◌, drop, map}
use Rattle.serializability.specs.Footprints.{joined, joined_all}
use Rattle.tpcc_model.specs.Touches.{ordered_touch}
use Rattle.profiles.proofs.new_order.touch_stocks.Given as goal

-- the lines that are left lead to where all of them lead
abbrev pub invariant-loop-line : goal.invariant-loop-line
invariant-loop-line l = joined l.footprint (joined_all (map ordered_touch (drop l.line-index l.lines))) ≡ joined l.fn.footprint (joined_all (map ordered_touch l.lines))
