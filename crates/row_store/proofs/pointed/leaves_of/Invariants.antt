use Rattle.std.specs.Prelude.{length}
use Rattle.row_tables.specs.Walks.{left}
use Rattle.row_store.proofs.Listing.{IsListing}
use Rattle.row_store.proofs.pointed.leaves_of.Given as goal

abbrev pub invariant-loop-key : goal.invariant-loop-key
invariant-loop-key l = IsListing (left l.walk) l.leaves l.tables

abbrev pub decreases-loop-key : goal.decreases-loop-key
decreases-loop-key l = length (left l.walk)
