use Rattle.std.proofs.Common.{◌≡◌, drop, map}
use Rattle.serializability.specs.Footprints.{joined, joined_all}
use Rattle.profiles.specs.Declarations.{ordered_item_touch}
use Rattle.profiles.proofs.stock_level.touch_items.Given as goal

-- the lines that are left lead to where all of them lead
abbrev pub invariant-loop-line : goal.invariant-loop-line
invariant-loop-line l = joined l.footprint (joined_all (map (ordered_item_touch l.catalog l.p) (drop l.line-index l.lines))) ≡ joined l.fn.footprint (joined_all (map (ordered_item_touch l.catalog l.p) l.lines))
