use Rattle.std.proofs.Common.{◌≡◌, ◌≤◌, ℕ, length}
use Rattle.serializability.specs.Footprints.{joined}
use Rattle.profiles.specs.Earlier.{before, last_order_of}
use Rattle.profiles.proofs.Walks.{all_earlier}
use Rattle.profiles.proofs.stock_level.touch_earlier.Given as goal

-- the orders before some place are left, the nearest of which is known, and lead to where all of them lead
abbrev pub invariant-loop-next : goal.invariant-loop-next
invariant-loop-next l = (n : ℕ)
    × (n ≤ length l.batch.requests.now)
    × (l.next ≡ last_order_of l.p.warehouse l.p.district (before l.batch.requests.now n))
    × (joined l.footprint (all_earlier l.catalog l.p (before l.batch.requests.now n)) ≡ joined l.fn.footprint (all_earlier l.catalog l.p (before l.batch.requests.now l.fn.place)))

abbrev pub decreases-loop-next : goal.decreases-loop-next
decreases-loop-next l = l.next
