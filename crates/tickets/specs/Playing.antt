-- What contracts see of a played world.
use Rattle.std.specs.Prelude.{◌≡◌, ℕ, ◌≤◌, List, map, vec_capacity}
use Rattle.tickets.specs.World.{Worker, World, opening, after}
use Rattle.tickets.specs.declared.event.Event.{Event}
use Rattle.tickets.specs.declared.world.World.TheInside.{Inside}
use Rattle.tickets.specs.declared.worker.Worker.{Worker as Held}

abbrev pub worker_of : Held → Worker
worker_of a = record { drawn = a.drawn.items; hand = a.hand; finished = a.finished.items; raised = a.raised; stopped = a.stopped }

abbrev pub world_of : Inside → World
world_of w = record { places = w.places; next = w.next; workers = map worker_of w.workers.items; halt = w.halt }

-- some events lead to this world
abbrev pub IsReached : World → Type 0
IsReached w = (workers : ℕ) × (events : List Event) × (w ≡ after (opening w.places workers) events)

-- the worker has capacity for all places
abbrev pub HasRoom : ℕ → Held → Type 0
HasRoom places a = (places ≤ vec_capacity a.drawn) × (places ≤ vec_capacity a.finished)

-- the worker's capacity is unchanged
abbrev pub KeepsRoom : Held → Held → Type 0
KeepsRoom old new = (vec_capacity new.drawn ≡ vec_capacity old.drawn) × (vec_capacity new.finished ≡ vec_capacity old.finished)
