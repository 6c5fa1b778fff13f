-- What contracts see of a desk and its seats.
use Rattle.std.specs.Prelude.{◌≡◌, ℕ, true, false, List, [], ◌∷◌, map, Some, None, is_some, slice_index_or, sum_by, All}
use Rattle.tickets.specs.declared.desk.Desk.{Desk}
use Rattle.tickets.specs.declared.seat.Seat.{Seat}
use Rattle.tickets.specs.declared.entry.Entry.{Entry}
use Rattle.tickets.specs.declared.event.Event.{Event}
use Rattle.tickets.specs.Once.{times, once_below}
use Rattle.tickets.specs.Entries.{acted, blank, has_stopped, last_drawn, with_place, with_end}
use Rattle.tickets.specs.Rule.{Begins, FollowsRule, IsShown}

abbrev pub places_of : Desk → ℕ
places_of desk = desk.size.places

abbrev pub workers_of : Desk → ℕ
workers_of desk = desk.size.workers

-- what is known of the seat's worker
abbrev pub entry_of : Seat → Entry
entry_of seat = slice_index_or seat.inner.me.0 0 (blank 0 0 0)

-- the seat is the desk's, and its worker is as its last event left it
pub record IsSeatOf (desk : Desk) (seat : Seat) : Type 0 where
  pub table : seat.inner.table_id ≡ desk.table.shared.table_id
  pub places : (entry_of seat).places ≡ desk.size.places
  pub workers : (entry_of seat).workers ≡ desk.size.workers
  pub shown : IsShown (entry_of seat)

-- a seat whose worker has done nothing yet
pub record IsNewSeatOf (desk : Desk) (seat : Seat) : Type 0 where
  pub own : IsSeatOf desk seat
  pub going : has_stopped (entry_of seat) ≡ false
  pub nothing : (entry_of seat).drawn ≡ []

-- a place was drawn, and the worker goes on
pub record HasTaken (place : ℕ) (old new : Entry) : Type 0 where
  pub entry : new ≡ acted new.history (with_place place old)
  pub last : last_drawn new ≡ Some place
  pub going : has_stopped new ≡ false

-- no place was left, and the worker has stopped
pub record HasEnded (old new : Entry) : Type 0 where
  pub entry : new ≡ acted new.history (with_end old)
  pub stopped : has_stopped new ≡ true

-- ---- all seats together
-- the invariant holds of the words and of what the seats know
abbrev pub Closes : Desk → ℕ × ℕ → List Seat → Type 0
Closes desk words seats = FollowsRule desk.size (words.0 ∷ words.1 ∷ []) (map entry_of seats ∷ [])

-- each history is a prefix of the same events
abbrev pub AreOfOneLine : List Seat → Type 0
AreOfOneLine seats = (events : List Event) × All (λ seat. Begins (entry_of seat).history events) seats

-- each place below n was drawn once, by one seat, and no other was drawn
abbrev pub AreDrawn : ℕ → List Seat → Type 0
AreDrawn n seats = (p : ℕ) → sum_by (λ seat. times p (entry_of seat).drawn) seats ≡ once_below n p

-- the seat has stopped and raised nothing
abbrev pub HasStoppedQuietly : Seat → Type 0
HasStoppedQuietly seat = (has_stopped (entry_of seat) ≡ true) × ((entry_of seat).raised ≡ None)

abbrev pub HasRaised : Seat → Type 0
HasRaised seat = is_some (entry_of seat).raised ≡ true

abbrev pub HasSeen : Seat → Type 0
HasSeen seat = (entry_of seat).saw ≡ true
