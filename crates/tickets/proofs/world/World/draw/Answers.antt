use Rattle.std.proofs.Common.{◌≡◌, Bool, true, false, refl, ◌||◌, is_some, sym, ap, ◌∙◌, arith}
use Rattle.tickets.specs.declared.event.Event.TheVariants.{Draw}
use Rattle.tickets.specs.Playing.{worker_of, world_of}
use Rattle.tickets.proofs.Played.{unwritten, draws_not, draws_place, draws_end, room_to_draw, room_kept, reached_step}
use Rattle.tickets.proofs.world.World.draw.Goals as goal
use Rattle.tickets.proofs.world.World.draw.Goals.{then-has_stopped-via-then-has_stopped, then-has_stopped-via-else-has_stopped+then-is_some}

or_true : (a b : Bool) → b ≡ true → (a || b) ≡ true
or_true true b e = refl
or_true false b e = e

pub returns-then-has_stopped : goal.returns-then-has_stopped
returns-then-has_stopped c =
    let ins = c.self.inside in
    let item = c.in-Some.ensures.item in
    let x = c.in-Some.worker.now in
    let same = unwritten ins.places ins.next ins.workers.items ins.halt c.args.worker x c.args.self.now c.self.view_is item.3.0 item.1 in
    let stays = draws_not ins.places ins.next ins.workers.items ins.halt c.args.worker x c.args.self.now c.self.view_is item.3.0 item.1 in
    elim c.then-has_stopped.branch [
      | then-has_stopped-via-then-has_stopped w ↦ ap world_of w.self-inside-is ∙ same ∙ stays (ap (λ b. b || is_some (worker_of x).hand) (sym c.has_stopped.ensures ∙ w.if-has_stopped.true))
      | then-has_stopped-via-else-has_stopped+then-is_some w ↦ ap world_of w.self-inside-is ∙ same ∙ stays (or_true (worker_of x).stopped (is_some (worker_of x).hand) (ap is_some (sym w.hand.ensures) ∙ (sym w.is_some.ensures ∙ w.if-is_some.true)))
    ]

pub take-requires : goal.take-requires
take-requires c =
    let ins = c.self.inside in
    let item = c.in-Some.ensures.item in
    room_to_draw ins.places ins.next ins.workers.items ins.halt c.args.worker c.in-Some.worker.now c.args.self.now c.self.view_is item.3.0 item.1 c.self.invariant.0 c.self.invariant.1 c.if-self.true

pub returns-then-self : goal.returns-then-self
returns-then-self c =
    let ins = c.self.inside in
    let item = c.in-Some.ensures.item in
    draws_place ins.places ins.next ins.workers.items ins.halt c.args.worker c.in-Some.worker.now c.args.self.now c.self.view_is item.3.0 item.1 c.take.new.self
    (ap (λ b. b || is_some (worker_of c.in-Some.worker.now).hand) (sym c.has_stopped.ensures ∙ c.if-has_stopped.false) ∙ (ap is_some (sym c.hand.ensures) ∙ (sym c.is_some.ensures ∙ c.if-is_some.false)))
    c.if-self.true c.take.ensures.worker

pub returns-else-self : goal.returns-else-self
returns-else-self c =
    let ins = c.self.inside in
    let item = c.in-Some.ensures.item in
    draws_end ins.places ins.next ins.workers.items ins.halt c.args.worker c.in-Some.worker.now c.args.self.now c.self.view_is item.3.0 item.1 c.stop.new.self
    (ap (λ b. b || is_some (worker_of c.in-Some.worker.now).hand) (sym c.has_stopped.ensures ∙ c.if-has_stopped.false) ∙ (ap is_some (sym c.hand.ensures) ∙ (sym c.is_some.ensures ∙ c.if-is_some.false)))
    (let h = c.if-self.false in omega arith) c.stop.ensures.worker

pub invariant_of-self-then-self : goal.invariant_of-self-then-self
invariant_of-self-then-self c =
    let ins = c.self.inside in
    let item = c.in-Some.ensures.item in (
      room_kept ins.places ins.next ins.workers.items ins.halt c.args.worker c.in-Some.worker.now c.args.self.now c.self.view_is item.3.0 item.1 c.take.new.self c.self.invariant.0 c.take.ensures.room,
      reached_step _ c.args.self.now _ (Draw c.args.worker) c.self.invariant.1 c.self.view_is (returns-then-self c),
    )

pub invariant_of-self-else-self : goal.invariant_of-self-else-self
invariant_of-self-else-self c =
    let ins = c.self.inside in
    let item = c.in-Some.ensures.item in (
      room_kept ins.places ins.next ins.workers.items ins.halt c.args.worker c.in-Some.worker.now c.args.self.now c.self.view_is item.3.0 item.1 c.stop.new.self c.self.invariant.0 c.stop.ensures.room,
      reached_step _ c.args.self.now _ (Draw c.args.worker) c.self.invariant.1 c.self.view_is (returns-else-self c),
    )
