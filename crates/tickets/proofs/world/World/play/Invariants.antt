use Rattle.std.proofs.Common.{◌≡◌, drop}
use Rattle.tickets.specs.World.{after}
use Rattle.tickets.proofs.world.World.play.Given as goal

abbrev pub invariant-loop-event : goal.invariant-loop-event
invariant-loop-event l = after l.self (drop l.event-index l.fn.events) ≡ after l.fn.self l.fn.events
