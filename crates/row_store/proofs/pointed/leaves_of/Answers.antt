use Rattle.tpcc_rows.specs.References.{row_of}
use Rattle.row_store.proofs.Listing.{listing-more, listing-none}
use Rattle.row_store.proofs.pointed.leaves_of.Goals as goal

pub loop-key-init : goal.loop-key-init
loop-key-init c = listing-none _ _ c.args.tables.now c.walk-walk.ensures.left c.in_ok-leaves.ensures

pub loop-key-preserved : goal.loop-key-preserved
loop-key-preserved c =
    listing-more _ _ c.in-Some.key (row_of c.in-Some.field-0-1) _ _ c.args.tables.now c.in-Some.ensures.some c.loop-key.invariant c.list.ensures.limits c.in_ok-list.ensures.ok
