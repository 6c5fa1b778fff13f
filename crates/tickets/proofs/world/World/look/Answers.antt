use Rattle.tickets.specs.declared.event.Event.TheVariants.{Look}
use Rattle.tickets.proofs.Played.{looks, room_kept, reached_step}
use Rattle.tickets.proofs.world.World.look.Goals as goal
use Rattle.tickets.proofs.world.World.look.Goals.{After-self-in-Some-1}

pub returns-in-Some : goal.returns-in-Some
returns-in-Some c =
    let ins = c.self.inside in
    let item = c.in-Some.ensures.item in
    looks ins.places ins.next ins.workers.items ins.halt c.args.worker c.in-Some.worker.now c.args.self.now c.self.view_is item.3.0 item.1 c.stop.new.self c.if-self.true c.stop.ensures.worker

pub invariant_of-self : goal.invariant_of-self
invariant_of-self c =
    let ins = c.self.inside in
    let item = c.in-Some.ensures.item in (
      room_kept ins.places ins.next ins.workers.items ins.halt c.args.worker c.in-Some.worker.now c.args.self.now c.self.view_is item.3.0 item.1 c.stop.new.self c.self.invariant.0 c.stop.ensures.room,
      reached_step _ c.args.self.now _ (Look c.args.worker) c.self.invariant.1 c.self.view_is (returns-in-Some c),
    )
