use Rattle.std.proofs.Common.{rules, ◌∙◌, ◌∷◌, IsSome, ap}
use Rattle.std.proofs.lemmas.List.Elements.{All-rest}
use Rattle.workers.proofs.Slots.{takes_one}
use Rattle.executor.proofs.batch_replies.BatchReplies.in_order.Goals as goal

pub loop-slot-preserved : goal.loop-slot-preserved
loop-slot-preserved c =
    let left = c.next.new.self.rest.items in
    let next = c.in-Some.ensures.steps.0 in
    record {
      all = takes_one c.loop-slot.in_order.items c.push_reserved.new.self.items c.loop-slot.slot-iterator.rest.items left c.args.self c.unwrap.result (next ∙ ap (λ slot. slot ∷ left) c.unwrap.ensures) c.push_reserved.ensures.items c.loop-slot.invariant.all;
      filled = All-rest IsSome c.in-Some.slot left c.loop-slot.slot-iterator.rest.items next c.loop-slot.invariant.filled;
      room = search rules;
    }
