-- Which requests of a batch can stray where it is executed in order.
use Rattle.std.specs.Prelude.{◌≡◌, ℕ, Bool, false, ◌&&◌, ◌||◌, List, [], ◌∷◌}
use Rattle.catalog.specs.CardMap.{Cards}
use Rattle.profiles.specs.Declarations.{declared}
use Rattle.profiles.specs.Told.{is_delivery}
use Rattle.requests.specs.declared.request.Request.{Request}
use Rattle.serializability.specs.Folds.{after}
use Rattle.serializability.specs.InTurn.{strays_in_turn}
use Rattle.serializability.specs.Levels.{Job, job_strays, jobs}
use Rattle.tpcc_model.specs.Database.{database}
use Rattle.tpcc_model.specs.Machine.{tpcc}
use Rattle.tpcc_model.specs.Soundness.{IsSound}
use Rattle.tpcc_model.specs.Steps.{steps_at}
use Rattle.tpcc_rows.specs.RowMap.{Rows}
use Rattle.tpcc_rows.specs.declared.granule.Granule.{Granule}

-- on these rows the job is a delivery that touches something outside its declared footprint
abbrev pub delivery_strays : Cards → ℕ → Rows → Job Granule Request → Bool
delivery_strays cards moment rows job = is_delivery job.request && job_strays (tpcc cards moment) rows job

-- some delivery strays, on the rows that the earlier jobs leave; the other jobs are only executed
abbrev pub deliveries_stray_in_turn : Cards → ℕ → Rows → List (Job Granule Request) → Bool
deliveries_stray_in_turn cards moment rows [] = false
deliveries_stray_in_turn cards moment rows (job ∷ jobs) =
    delivery_strays cards moment rows job || deliveries_stray_in_turn cards moment (after (steps_at cards moment) rows job.number job.request) jobs

-- the law: if a batch's requests declare their footprints on a sound database, and are executed in order, only deliveries stray
abbrev pub OnlyDeliveriesStray : Type 0
OnlyDeliveriesStray = (cards : Cards) (rows : Rows) (moment first : ℕ) (requests : List Request) → IsSound (database cards rows)
    → strays_in_turn (tpcc cards moment) rows (jobs first requests (declared (database cards rows) requests))
    ≡ deliveries_stray_in_turn cards moment rows (jobs first requests (declared (database cards rows) requests))
