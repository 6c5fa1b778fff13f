-- The world of a level: workers draw its places in order and finish them, until none is left or all are to stop.
use Rattle.std.specs.Prelude.{ℕ, ◌+◌, Bool, true, false, ltb, ◌||◌, if◌then◌else◌, List, [], ◌∷◌, ◌++◌, replicate, Option, Some, None, is_some, slice_get, slice_set}
use Rattle.std.specs.Option.{option_map_or}
use Rattle.tickets.specs.declared.event.Event.{Event}
use Rattle.tickets.specs.declared.event.Event.TheVariants.{Draw, Finish, Raise, Look}

-- a worker's state: the places that it drew, the one that it holds, those that it finished, the stray one that it raised, and whether it has stopped
pub record Worker : Type 0 where
  pub drawn : List ℕ
  pub hand : Option ℕ
  pub finished : List ℕ
  pub raised : Option ℕ
  pub stopped : Bool

-- the number of places, the next one, the workers by number, and whether all are to stop
pub record World : Type 0 where
  pub places : ℕ
  pub next : ℕ
  pub workers : List Worker
  pub halt : Bool

-- a worker before its first event
abbrev pub fresh : Worker
fresh = record { drawn = []; hand = None; finished = []; raised = None; stopped = false }

-- the world before any event
abbrev pub opening : ℕ → ℕ → World
opening places workers = record { places = places; next = 0; workers = replicate workers fresh; halt = false }

-- ---- what becomes of a worker
-- it has drawn the place, and holds it
abbrev pub taking : ℕ → Worker → Worker
taking place a = record a { drawn = a.drawn ++ place ∷ []; hand = Some place }

-- it has finished the place that it held
abbrev pub finishing : ℕ → Worker → Worker
finishing place a = record a { hand = None; finished = a.finished ++ place ∷ [] }

-- it has raised the place that it held, and stopped
abbrev pub raising : ℕ → Worker → Worker
raising place a = record a { hand = None; raised = Some place; stopped = true }

abbrev pub stopping : Worker → Worker
stopping a = record a { stopped = true }

-- ---- what becomes of the world
-- worker k has become a
abbrev pub with_worker : World → ℕ → Worker → World
with_worker w k a = record w { workers = slice_set w.workers k a }

-- one more place is drawn
abbrev pub past_next : World → World
past_next w = record w { next = w.next + 1 }

-- all are to stop
abbrev pub halted : World → World
halted w = record w { halt = true }

-- worker k, whose state is a, draws the next place, or stops if none is left; not while it holds a place, nor once it has stopped
abbrev pub draw_by : World → ℕ → Worker → World
draw_by w k a =
    if a.stopped || is_some a.hand then w
    else if ltb w.next w.places then with_worker (past_next w) k (taking w.next a)
    else with_worker w k (stopping a)

-- worker k finishes the place that it holds, if any
abbrev pub finish_by : World → ℕ → Worker → World
finish_by w k a = option_map_or (λ place. with_worker w k (finishing place a)) a.hand w

-- worker k raises the place that it holds, if any, and all are to stop
abbrev pub raise_by : World → ℕ → Worker → World
raise_by w k a = option_map_or (λ place. with_worker (halted w) k (raising place a)) a.hand w

-- worker k stops, if all are to stop
abbrev pub look_by : World → ℕ → Worker → World
look_by w k a = if w.halt then with_worker w k (stopping a) else w

-- worker k acts, if there is such a worker
abbrev pub act_by : (World → ℕ → Worker → World) → World → ℕ → World
act_by act w k = option_map_or (act w k) (slice_get w.workers k) w

-- ---- events
abbrev pub step : World → Event → World
step w (Draw k) = act_by draw_by w k
step w (Finish k) = act_by finish_by w k
step w (Raise k) = act_by raise_by w k
step w (Look k) = act_by look_by w k

-- the world after these events
unfoldable pub after : World → List Event → World
after w [] = w
after w (event ∷ events) = after (step w event) events
