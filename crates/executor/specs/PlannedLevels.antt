-- The levels of a planned batch, on the rows of a database.
use Rattle.std.specs.Prelude.{ℕ, Bool, List, map}
use Rattle.serializability.specs.Footprints.{Has}
use Rattle.serializability.specs.Levels as levels
use Rattle.tpcc_rows.specs.RowMap.{Rows}
use Rattle.catalog.specs.CardMap.{Cards}
use Rattle.requests.specs.declared.reply.Reply.{Reply}
use Rattle.tpcc_model.specs.Machine.{tpcc}
use Rattle.workers.specs.LevelEnds.{LevelJob, plan_jobs}
use Rattle.workers.specs.declared.plan.Plan.{Plan}
use Rattle.executor.specs.Slots.{Awaits, Slots}

-- the replies to all requests elsewhere are awaited as before
abbrev pub AwaitsOthers : List ℕ → Slots → Slots → Type 0
AwaitsOthers places old new = (place : ℕ) → (Has places place → ⊥) → Awaits old place → Awaits new place

-- all levels of a cut, one after the other
abbrev pub plan_levels : Plan → List (List ℕ) → List (List LevelJob)
plan_levels plan cut = map (levels.jobs_at (plan_jobs plan)) cut

abbrev pub plan_strays : Cards → Rows → Plan → List (List ℕ) → Bool
plan_strays cards rows plan cut = levels.strays (tpcc cards plan.batch.now.moment) rows (plan_levels plan cut)

abbrev pub plan_replies : Cards → Rows → Plan → List (List ℕ) → List (ℕ × Reply)
plan_replies cards rows plan cut = levels.run_replies (tpcc cards plan.batch.now.moment) rows (plan_levels plan cut)

abbrev pub plan_rows : Cards → Rows → Plan → List (List ℕ) → Rows
plan_rows cards rows plan cut = levels.run_rows (tpcc cards plan.batch.now.moment) rows (plan_levels plan cut)
