use Rattle.pointed_tables.proofs.Besides.{beside-empty, both-empty}
use Rattle.pointed_tables.proofs.roomy.RoomyTables.new.Goals as goal

pub invariant_of-result : goal.invariant_of-result
invariant_of-result c = beside-empty _ _ c.new.ensures.rows

pub returns-clause-rows : goal.returns-clause-rows
returns-clause-rows c = both-empty _ _ c.new.ensures.rows
