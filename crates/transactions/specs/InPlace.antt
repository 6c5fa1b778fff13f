-- What is executed in place.
use Rattle.std.specs.Prelude.{◌≡◌, Bool, true, false, Some, None, Result, Ok, Err, MatchResult}
use Rattle.serializability.specs.Footprints.{Footprint}
use Rattle.requests.specs.declared.reply.Reply.{Reply}
use Rattle.tpcc_rows.specs.Changing.{after}
use Rattle.tpcc_rows.specs.RowMap.{Changes, Rows}
use Rattle.tpcc_rows.specs.declared.granule.Granule.{Granule}
use Rattle.worker_rows.specs.Views.{View}
use Rattle.transactions.specs.declared.fault.Fault.{Fault}
use Rattle.transactions.specs.declared.fault.Fault.TheVariants as fault
use Rattle.transactions.specs.declared.stop.Stop.{Stop}
use Rattle.transactions.specs.declared.stop.Stop.TheVariants as stop

-- ---- views of a store
-- all of its rows
abbrev pub whole : Rows → View
whole rows = record { rows = rows; bounds = None }

-- those that a footprint lends
abbrev pub loaned : Rows → Footprint Granule → View
loaned rows footprint = record { rows = rows; bounds = Some footprint }

-- ---- answers

-- a step that is refused or strays leaves the rows; after a refusal of memory they are undefined
abbrev pub IsFaultInPlace : (Result (Reply × Changes) Fault → Type 0) → Rows → Rows → Fault → Type 0
IsFaultInPlace Answers before now (fault.Refused why) = Answers (Err (fault.Refused why)) × (now ≡ before)
IsFaultInPlace Answers before now fault.Strayed = Answers (Err fault.Strayed) × (now ≡ before)
IsFaultInPlace Answers before now fault.Memory = Unit {0}

-- the reply is answered with some changes, and these have been made to the rows
abbrev pub AnswersInPlace : (Result (Reply × Changes) Fault → Type 0) → Rows → Rows → Result Reply Fault → Type 0
AnswersInPlace Answers before now result =
    MatchResult result (λ reply. (changes : Changes) × Answers (Ok (reply, changes)) × (now ≡ after before changes)) (IsFaultInPlace Answers before now)

-- ---- ends
-- what strays leaves the rows; memory may be refused at any time
abbrev pub IsErrorInPlace : Bool → Rows → Rows → Stop → Type 0
IsErrorInPlace within before now stop.Strayed = (within ≡ false) × (now ≡ before)
IsErrorInPlace within before now stop.Memory = Unit {0}

-- a request is answered where what it touches is within the view, and strays where it isn't
abbrev pub EndsInPlace : Bool → Rows → Rows → Result Reply Stop → Type 0
EndsInPlace within before now result = MatchResult result (λ reply. within ≡ true) (IsErrorInPlace within before now)
