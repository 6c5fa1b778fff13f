use Rattle.std.proofs.Common.{sym, ◌∙◌}
use Rattle.tickets.specs.declared.event.Event.TheVariants.{Finish}
use Rattle.tickets.proofs.Played.{unwritten, finishes, finishes_not, room_to_finish, room_kept, reached_step}
use Rattle.tickets.proofs.world.World.finish.Goals as goal

pub finish-requires : goal.finish-requires
finish-requires c =
    let ins = c.self.inside in
    let item = c.in-Some.ensures.item in
    room_to_finish ins.places ins.next ins.workers.items ins.halt c.args.worker c.in-Some.worker.now c.args.self.now c.self.view_is item.3.0 item.1 c.in-Some-hand.place c.self.invariant.0 c.self.invariant.1 (sym c.hand.ensures ∙ c.in-Some-hand.is)

pub returns-in_default-hand : goal.returns-in_default-hand
returns-in_default-hand c =
    let ins = c.self.inside in
    let item = c.in-Some.ensures.item in
    unwritten ins.places ins.next ins.workers.items ins.halt c.args.worker c.in-Some.worker.now c.args.self.now c.self.view_is item.3.0 item.1
    ∙ finishes_not ins.places ins.next ins.workers.items ins.halt c.args.worker c.in-Some.worker.now c.args.self.now c.self.view_is item.3.0 item.1 (sym c.hand.ensures ∙ c.in_default-hand.is)

pub returns : goal.returns
returns c =
    let ins = c.self.inside in
    let item = c.in-Some.ensures.item in
    finishes ins.places ins.next ins.workers.items ins.halt c.args.worker c.in-Some.worker.now c.args.self.now c.self.view_is item.3.0 item.1 c.finish.new.self c.in-Some-hand.place (sym c.hand.ensures ∙ c.in-Some-hand.is) c.finish.ensures.worker

pub invariant_of-self-2 : goal.invariant_of-self-2
invariant_of-self-2 c =
    let ins = c.self.inside in
    let item = c.in-Some.ensures.item in (
      room_kept ins.places ins.next ins.workers.items ins.halt c.args.worker c.in-Some.worker.now c.args.self.now c.self.view_is item.3.0 item.1 c.finish.new.self c.self.invariant.0 c.finish.ensures.room,
      reached_step _ c.args.self.now _ (Finish c.args.worker) c.self.invariant.1 c.self.view_is (returns c),
    )
