-- Invariants of a world.
use Rattle.std.specs.Prelude.{◌≡◌, ℕ, ◌<◌, ◌≤◌, ◌==◌, ◌⊎◌, true, ltb, if◌then◌else◌, List, ◌++◌, None, IsSome, option_to_list, sum_by, count_by, All}
use Rattle.std.specs.List.{Any}
use Rattle.tickets.specs.declared.event.Event.{Event}
use Rattle.tickets.specs.World.{Worker, World, opening, after}

-- how often p occurs in the list
abbrev pub times : ℕ → List ℕ → ℕ
times p = count_by (λ x. x == p)

-- 1 for each number below n, 0 for any other
abbrev pub once_below : ℕ → ℕ → ℕ
once_below n p = if ltb p n then 1 else 0

-- what a worker drew is what it finished, then what it holds or raised
abbrev pub HasWhatItDrew : Worker → Type 0
HasWhatItDrew a = a.drawn ≡ (a.finished ++ option_to_list a.hand) ++ option_to_list a.raised

-- a worker has stopped and holds nothing
abbrev pub IsThrough : Worker → Type 0
IsThrough a = (a.stopped ≡ true) × (a.hand ≡ None)

-- some place is raised
abbrev pub SomeRaised : World → Type 0
SomeRaised w = Any (λ a. IsSome a.raised) w.workers

-- each place was finished once, by one worker, and no other was finished
abbrev pub AllFinished : World → Type 0
AllFinished w = (p : ℕ) → sum_by (λ a. times p a.finished) w.workers ≡ once_below w.places p

pub record IsOnce (w : World) : Type 0 where
  -- each place below the next one was drawn once, by one worker, and no other was drawn
  pub drawn : (p : ℕ) → sum_by (λ a. times p a.drawn) w.workers ≡ once_below w.next p
  pub bound : w.next ≤ w.places
  -- no worker finished or raised what it didn't draw
  pub own : All HasWhatItDrew w.workers
  -- once all workers have stopped, all places are finished or some place is raised
  pub ended : All IsThrough w.workers → AllFinished w ⊎ SomeRaised w

abbrev pub Once : Type 0
Once = (places workers : ℕ) (events : List Event) → 0 < workers → IsOnce (after (opening places workers) events)
