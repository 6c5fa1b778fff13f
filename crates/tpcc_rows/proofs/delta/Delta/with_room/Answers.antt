use Rattle.tpcc_rows.proofs.ChangePlaces.{sound-empty}
use Rattle.tpcc_rows.proofs.Keys.{row_key_cmp_total, exact_keys}
use Rattle.tpcc_rows.proofs.Places.{no-entries}
use Rattle.tpcc_rows.proofs.delta.Delta.with_room.Goals as goal

pub invariant_of-result : goal.invariant_of-result
invariant_of-result c = sound-empty c.in_ok-changes.changes.items c.in_ok-ranks.ranks.items c.in_ok-changes.ensures.items c.in_ok-ranks.ensures.items

pub returns : goal.returns
returns c = no-entries row_key_cmp_total exact_keys c.in_ok-changes.changes.items c.in_ok-changes.ensures.items
