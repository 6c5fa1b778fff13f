-- The replies to a batch, each in the slot of its request's place.
use Rattle.std.specs.Prelude.{◌≡◌, ℕ, ◌+◌, ◌<◌, List, [], ◌∷◌, length, get_or, Option, Some, None, slice_set}
use Rattle.std.specs.Coded.{Coded, coded_list, coded_option}
use Rattle.std.specs.FinMap.{find}
use Rattle.std.specs.Option.{option_or}
use Rattle.std.specs.Ordering.{nat_cmp}
use Rattle.requests.specs.declared.reply.Reply.{Reply}
use Rattle.requests.specs.contracts.reply.Reply.{the_row as reply_row}
use Rattle.workers.specs.declared.job.Done.{Done}

-- a slot for each place
abbrev pub Slots : Type 0
Slots = List (Option Reply)

abbrev pub slots_code : Coded Slots
slots_code = coded_list (coded_option reply_row.coded)

-- the reply in the slot of a place, if any
abbrev pub reply_at : Slots → ℕ → Option Reply
reply_at slots place = get_or slots place None

-- there is a slot for this place, and it is empty
abbrev pub Awaits : Slots → ℕ → Type 0
Awaits slots place = (place < length slots) × (reply_at slots place ≡ None)

-- the reply of each outcome in the slot of its place
abbrev pub with_each : List Done → Slots → Slots
with_each [] slots = slots
with_each (done ∷ rest) slots = with_each rest (slice_set slots done.place (Some done.reply))

-- the new slots have the replies of the old ones; where these are empty, they have those that are told, each with its request's
-- number, which is this one for the first place
pub record HaveAlso (first : ℕ) (told : List (ℕ × Reply)) (old new : Slots) : Type 0 where
  pub size : length new ≡ length old
  pub replies : (place : ℕ) → place < length old → reply_at new place ≡ option_or (reply_at old place) (find nat_cmp (first + place) told)
