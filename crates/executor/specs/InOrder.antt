-- A batch executed in order, where some of its requests told what they declared: the others can't stray.
use Rattle.std.specs.Prelude.{◌≡◌, ℕ, ◌+◌, Bool, false, ◌||◌, List, [], ◌∷◌, Option, None, Some, option_copied}
use Rattle.serializability.specs.Folds.{after}
use Rattle.serializability.specs.Footprints.{Footprint}
use Rattle.serializability.specs.InTurn.{strays_in_turn}
use Rattle.serializability.specs.Levels as levels
use Rattle.tpcc_rows.specs.RowMap.{Rows}
use Rattle.tpcc_rows.specs.declared.granule.Granule.{Granule}
use Rattle.catalog.specs.CardMap.{Cards}
use Rattle.requests.specs.declared.reply.Reply.{Reply}
use Rattle.requests.specs.declared.request.Batch.{Batch}
use Rattle.requests.specs.declared.request.Request.{Request}
use Rattle.tpcc_model.specs.Database.{database}
use Rattle.tpcc_model.specs.Machine.{tpcc}
use Rattle.tpcc_model.specs.Serial.{State}
use Rattle.tpcc_model.specs.Soundness.{IsSound}
use Rattle.tpcc_model.specs.Steps.{StepOutcome, replies, rows_after, step, steps_at}
use Rattle.transactions.specs.NumberedRequests.{numbered_step}
use Rattle.workers.specs.declared.job.Job.{Job}
use Rattle.executor.specs.LevelRuns.{declared_footprints, strays_by}
use Rattle.executor.specs.States.{AreWithinLimits}
use Rattle.executor.specs.Told.{told_by}
use Rattle.executor.specs.declared.turn.PlanInTurn.{PlanInTurn}
use Rattle.executor.specs.declared.turn.Told.{Told}

-- a request touches more than it declared, on these rows, if it told what
abbrev pub place_strays : Cards → ℕ → Rows → ℕ → Request → Option (Footprint Granule) → Bool
place_strays cards moment rows number q None = false
place_strays cards moment rows number q (Some footprint) = levels.job_strays (tpcc cards moment) rows (record { number = number; request = q; declared = footprint })

-- what a job or a request does, executed on these rows
abbrev pub job_outcome : Cards → Rows → Job → StepOutcome
job_outcome cards rows job = step (database cards rows) job.request.now job.number job.moment

abbrev pub told_outcome : Cards → Rows → Told → StepOutcome
told_outcome cards rows told = numbered_step (database cards rows) told.asked

abbrev pub told_strays : Cards → Rows → Told → Bool
told_strays cards rows told = place_strays cards told.asked.moment rows told.asked.number told.asked.request.now (option_copied told.footprint)

-- some request touches more than it told, on the rows that those before it leave
abbrev pub told_strays_in_turn : Cards → ℕ → Rows → ℕ → List Request → List (Option (Footprint Granule)) → Bool
told_strays_in_turn cards moment rows number [] told = false
told_strays_in_turn cards moment rows number (q ∷ requests) [] = false
told_strays_in_turn cards moment rows number (q ∷ requests) (place ∷ told) =
    place_strays cards moment rows number q place || told_strays_in_turn cards moment (after (steps_at cards moment) rows number q) (number + 1) requests told

-- what is told of a batch's requests tells whether one strays
abbrev pub TellsOfStrays : Cards → State → Batch → List (Option (Footprint Granule)) → Type 0
TellsOfStrays cards state batch told =
    told_strays_in_turn cards batch.moment state.rows state.next batch.requests told
    ≡ strays_in_turn (tpcc cards batch.moment) state.rows (levels.jobs state.next batch.requests (declared_footprints cards state batch))

-- the replies and rows of a planned batch, executed in order
abbrev pub plan_replies_in_turn : Cards → Rows → PlanInTurn → List Reply
plan_replies_in_turn cards rows plan = replies (database cards rows) plan.batch.now.moment plan.first plan.batch.now.requests

abbrev pub plan_rows_in_turn : Cards → Rows → PlanInTurn → Rows
plan_rows_in_turn cards rows plan = rows_after (database cards rows) plan.batch.now.moment plan.first plan.batch.now.requests

-- some request strays then
abbrev pub plan_strays_in_turn : Cards → Rows → PlanInTurn → Bool
plan_strays_in_turn cards rows plan = told_strays_in_turn cards plan.batch.now.moment rows plan.first plan.batch.now.requests (told_by plan.told)

-- the law: exactly then the batch strays, by its requests' declared footprints and any numbers of granules
abbrev pub StraysAreInTurn : Type 0
StraysAreInTurn = (code : Granule → ℕ) (cards : Cards) (state : State) (batch : Batch)
    → IsSound (database cards state.rows) → AreWithinLimits batch.moment state.next batch.requests
    → strays_by code cards state batch
    ≡ strays_in_turn (tpcc cards batch.moment) state.rows (levels.jobs state.next batch.requests (declared_footprints cards state batch))
