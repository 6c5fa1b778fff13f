use Rattle.std.proofs.Common.{◌≡◌, ◌++◌, drop}
use Rattle.profiles.specs.Declarations.{each_after}
use Rattle.profiles.specs.Earlier.{AreCounts, all_known, before, known_of}
use Rattle.profiles.proofs.earlier.count.Given as goal

-- the requests so far are counted, and what is known so far leads to what is known of all
abbrev pub invariant-loop-place : goal.invariant-loop-place
invariant-loop-place l = (AreCounts l.counts.deliveries l.counts.orders (before l.requests l.place))
    × (l.known.items ++ each_after known_of (before l.requests l.place) (drop l.place l.requests) ≡ all_known l.requests)
