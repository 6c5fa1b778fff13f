-- The invariant of a desk's words and views: they show a world that some events lead to.
use Rattle.std.specs.Prelude.{◌≡◌, ◌≢◌, ℕ, ◌+◌, ◌<◌, ◌≤◌, Bool, true, false, ◌==◌, if◌then◌else◌, List, [], ◌∷◌, ◌++◌, map, length, Some, is_some, slice_get, sum_by, count_by, All}
use Rattle.atomic_table.specs.Table.{Step, Me}
use Rattle.tickets.specs.declared.event.Event.{Event}
use Rattle.tickets.specs.declared.entry.Entry.{Entry}
use Rattle.tickets.specs.declared.size.Size.{Size}
use Rattle.tickets.specs.World.{Worker, World, opening, after}
use Rattle.tickets.specs.Once.{times, SomeRaised}
use Rattle.tickets.specs.Entries.{acted, has_stopped, in_hand, with_draw, with_raise, with_look}

abbrev pub flag : Bool → ℕ
flag b = if b then 1 else 0

-- the entry describes worker k, whose state is a, on a level with this number of places
pub record IsEntryOf (places k : ℕ) (a : Worker) (e : Entry) : Type 0 where
  pub number : e.worker ≡ k
  pub level : e.places ≡ places
  pub drawn : e.drawn ≡ a.drawn
  pub raised : e.raised ≡ a.raised
  pub stopped : has_stopped e ≡ a.stopped
  pub hand : in_hand e ≡ a.hand

-- it is among these entries, at its worker's number
abbrev pub IsEntryIn : List Entry → Entry → Type 0
IsEntryIn entries e = slice_get entries e.worker ≡ Some e

-- words and views show the world; the entries are those of its workers, by number
pub record Shows (w : World) (entries : List Entry) (words : List ℕ) (views : List (List Entry)) : Type 0 where
  -- the ticket is the next place plus the number of workers that drew past the end; the other word is 1 once all are to stop
  pub words_are : words ≡ (w.next + count_by (λ e. e.past) entries) ∷ flag w.halt ∷ []
  -- each worker's entry is in the views once: under any weights the views weigh as much as all entries
  pub weights : (weight : Entry → ℕ) → sum_by (λ view. sum_by weight view) views ≡ sum_by weight entries
  -- and what is known is the entry of its worker
  pub known : All (All (IsEntryIn entries)) views
  -- each entry describes the world's worker of its number
  pub each : (k : ℕ) (e : Entry) → slice_get entries k ≡ Some e → (a : Worker) × (slice_get w.workers k ≡ Some a) × IsEntryOf w.places k a e
  pub count : length entries ≡ length w.workers
  -- workers draw past the end only if no place is left, and see the stop only if all are to stop
  pub past_last : All (λ e. e.past ≡ true → w.next ≡ w.places) entries
  pub saw_halt : All (λ e. e.saw ≡ true → w.halt ≡ true) entries

-- a prefix of the events
abbrev pub Begins : List Event → List Event → Type 0
Begins first events = (later : List Event) × (first ++ later ≡ events)

-- the worker's last event is among these
pub record ActedIn (size : Size) (events : List Event) (e : Entry) : Type 0 where
  pub workers : e.workers ≡ size.workers
  pub begins : Begins e.history events

-- words and views show a world that some events lead to from the opening one
pub record FollowsRule (size : Size) (words : List ℕ) (views : List (List Entry)) : Type 0 where
  pub events : List Event
  pub entries : List Entry
  pub shows : Shows (after (opening size.places size.workers) events) entries words views
  pub moments : All (ActedIn size events) entries

-- ---- the world after a worker's last event
abbrev pub last_world : Entry → World
last_world e = after (opening e.places e.workers) e.history

-- there the worker is as the entry says
pub record IsShown (e : Entry) : Type 0 where
  pub worker : Worker
  pub there : slice_get (last_world e).workers e.worker ≡ Some worker
  pub entry : IsEntryOf e.places e.worker worker e

-- there no other worker has drawn the place
abbrev pub IsAlone : ℕ → Entry → Type 0
IsAlone place e = (k : ℕ) (other : Worker) → slice_get (last_world e).workers k ≡ Some other → k ≢ e.worker → times place other.drawn ≡ 0

-- ---- what a step leaves in the seat's view, and what it tells of each entry there
pub record DrawTells (history : List Event) (ticket : ℕ) (e : Entry) : Type 0 where
  pub line : Begins e.history history
  pub shown : IsShown (acted history (with_draw ticket e))
  -- the ticket is greater than each place that the worker drew before, and at least their number
  pub above : All (λ place. place < ticket) e.drawn
  pub count : length e.drawn ≤ ticket
  pub alone : ticket < e.places → IsAlone ticket (acted history (with_draw ticket e))

pub record Drew (step : Step ℕ) (before : Me ℕ (List Entry)) (ticket : ℕ) (later : Me ℕ (List Entry)) : Type 0 where
  pub history : List Event
  pub leaves : later ≡ (map (λ e. acted history (with_draw ticket e)) before.0, before.1)
  pub tells : All (DrawTells history ticket) before.0

pub record RaiseTells (history : List Event) (e : Entry) : Type 0 where
  pub line : Begins e.history history
  pub shown : IsShown (acted history (with_raise e))

pub record Raised (step : Step ℕ) (before : Me ℕ (List Entry)) (found : ℕ) (later : Me ℕ (List Entry)) : Type 0 where
  pub history : List Event
  pub leaves : later ≡ (map (λ e. acted history (with_raise e)) before.0, before.1)
  pub tells : All (RaiseTells history) before.0

pub record LookTells (history : List Event) (found : ℕ) (e : Entry) : Type 0 where
  pub line : Begins e.history history
  pub shown : IsShown (acted history (with_look (found == 1) e))
  -- a worker that raised or saw the stop before sees it
  pub after_raise : is_some e.raised ≡ true → found ≡ 1
  pub after_look : e.saw ≡ true → found ≡ 1
  pub seen : found == 1 ≡ true → SomeRaised (last_world (acted history e))
  pub unseen : found == 1 ≡ false → history ≡ e.history

pub record Looked (step : Step ℕ) (before : Me ℕ (List Entry)) (found : ℕ) (later : Me ℕ (List Entry)) : Type 0 where
  pub history : List Event
  pub leaves : later ≡ (map (λ e. acted history (with_look (found == 1) e)) before.0, before.1)
  pub tells : All (LookTells history found) before.0
