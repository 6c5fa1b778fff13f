use Rattle.std.proofs.Common.{sym, ◌∙◌}
use Rattle.tickets.specs.declared.event.Event.TheVariants.{Raise}
use Rattle.tickets.proofs.Played.{unwritten, raises, raises_not, room_kept, reached_step}
use Rattle.tickets.proofs.world.World.raise.Goals as goal

pub returns-in_default-hand : goal.returns-in_default-hand
returns-in_default-hand c =
    let ins = c.self.inside in
    let item = c.in-Some.ensures.item in
    unwritten ins.places ins.next ins.workers.items ins.halt c.args.worker c.in-Some.worker.now c.args.self.now c.self.view_is item.3.0 item.1
    ∙ raises_not ins.places ins.next ins.workers.items ins.halt c.args.worker c.in-Some.worker.now c.args.self.now c.self.view_is item.3.0 item.1 (sym c.hand.ensures ∙ c.in_default-hand.is)

pub returns : goal.returns
returns c =
    let ins = c.self.inside in
    let item = c.in-Some.ensures.item in
    raises ins.places ins.next ins.workers.items ins.halt c.args.worker c.in-Some.worker.now c.args.self.now c.self.view_is item.3.0 item.1 c.raise.new.self c.in-Some-hand.place (sym c.hand.ensures ∙ c.in-Some-hand.is) c.raise.ensures.worker

pub invariant_of-self-2 : goal.invariant_of-self-2
invariant_of-self-2 c =
    let ins = c.self.inside in
    let item = c.in-Some.ensures.item in (
      room_kept ins.places ins.next ins.workers.items ins.halt c.args.worker c.in-Some.worker.now c.args.self.now c.self.view_is item.3.0 item.1 c.raise.new.self c.self.invariant.0 c.raise.ensures.room,
      reached_step _ c.args.self.now _ (Raise c.args.worker) c.self.invariant.1 c.self.view_is (returns c),
    )
