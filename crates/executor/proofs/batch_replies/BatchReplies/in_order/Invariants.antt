use Rattle.std.proofs.Common.{◌≡◌, ◌+◌, ◌≤◌, ◌++◌, IsSome, Some, length, map}
use Rattle.std.specs.List.{All}
use Rattle.std.specs.Vec.{vec_capacity}
use Rattle.executor.proofs.batch_replies.BatchReplies.in_order.Given as goal

-- the replies so far and the slots that are left are all, and there is room for these
abbrev pub invariant-loop-slot : goal.invariant-loop-slot
invariant-loop-slot l =
    let left = l.slot-iterator.rest.items in
    record {
      all : map Some l.in_order.items ++ left ≡ l.fn.self;
      filled : All IsSome left;
      room : length l.in_order.items + length left ≤ vec_capacity l.in_order;
    }
