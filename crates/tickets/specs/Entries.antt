-- What is known of a worker: its entry in its seat's view.
use Rattle.std.specs.Prelude.{ℕ, zero, suc, Bool, true, false, ltb, ◌||◌, if◌then◌else◌, List, [], ◌∷◌, ◌++◌, Option, None, is_some}
use Rattle.std.specs.List.{last_or}
use Rattle.tickets.specs.declared.entry.Entry.{Entry}
use Rattle.tickets.specs.declared.event.Event.{Event}

-- the entry of worker k before its first draw, on a level with these numbers of places and workers
abbrev pub blank : ℕ → ℕ → ℕ → Entry
blank places workers k = record { worker = k; places = places; workers = workers; drawn = []; past = false; raised = None; saw = false; history = [] }

-- the entries of n workers from k on
abbrev pub blanks : ℕ → ℕ → ℕ → ℕ → List Entry
blanks places workers k zero = []
blanks places workers k (suc n) = blank places workers k ∷ blanks places workers (suc k) n

-- it drew past the end, raised a place, or saw the stop
abbrev pub has_stopped : Entry → Bool
has_stopped e = e.past || (is_some e.raised || e.saw)

abbrev pub last_drawn : Entry → Option ℕ
last_drawn e = last_or None e.drawn

-- it holds the place that it drew last, until it raises or draws past the end
abbrev pub in_hand : Entry → Option ℕ
in_hand e = if e.past || is_some e.raised then None else last_drawn e

-- the last of these events is its own
abbrev pub acted : List Event → Entry → Entry
acted history e = record e { history = history }

-- it has drawn one more place
abbrev pub with_place : ℕ → Entry → Entry
with_place p e = record e { drawn = e.drawn ++ p ∷ [] }

-- it has drawn past the end
abbrev pub with_end : Entry → Entry
with_end e = record e { past = true }

-- it has drawn this ticket
abbrev pub with_draw : ℕ → Entry → Entry
with_draw ticket e = if ltb ticket e.places then with_place ticket e else with_end e

-- it has raised the place that it drew last
abbrev pub with_raise : Entry → Entry
with_raise e = record e { raised = last_drawn e }

-- it has looked, and seen the stop or not
abbrev pub with_look : Bool → Entry → Entry
with_look seen e = record e { saw = e.saw || seen }
