use Rattle.std.proofs.Common.{arith, length-append}
use Rattle.tables.specs.Shelves.{place_of}
use Rattle.tables.proofs.Shelved.{AreEmpty-push, placed_empty, union_empty}
use Rattle.tables.proofs.queues.RankQueues.new.Goals as goal

pub loop-preserved : goal.loop-preserved
loop-preserved c = rw c.in_ok-push.ensures.items (record { len = simp length-append (omega arith); empty = AreEmpty-push _ _ c.new.ensures c.loop.invariant.empty })

pub returns : goal.returns
returns c = union_empty place_of _ c.loop.invariant.empty

pub invariant_of-result : goal.invariant_of-result
invariant_of-result c = record { full = omega arith; fits = placed_empty place_of _ c.loop.invariant.empty }
