-- What a transaction's code answers on the rows that a view lends.
use Rattle.std.specs.Prelude.{Result}
use Rattle.serializability.specs.Footprints.{Footprint}
use Rattle.tpcc_rows.specs.RowMap.{Changes}
use Rattle.tpcc_rows.specs.declared.granule.Granule.{Granule}
use Rattle.catalog.specs.CardMap.{Cards}
use Rattle.requests.specs.declared.reply.Reply.{Reply}
use Rattle.requests.specs.declared.reply.RequestRefusal.{RequestRefusal}
use Rattle.tpcc_model.specs.Database.{Database, database}
use Rattle.tpcc_model.specs.Steps.{StepOutcome}
use Rattle.worker_rows.specs.Views.{View, covers}
use Rattle.transactions.specs.Faults.{AnswersWithin}
use Rattle.transactions.specs.Lending.{lent}
use Rattle.transactions.specs.Outcomes.{Executes}
use Rattle.transactions.specs.declared.stop.Stop.{Stop}
use Rattle.transactions.specs.declared.fault.Fault.{Fault}

-- the database of these cards and of the rows that the view lends
abbrev pub lent_database : Cards → View → Database
lent_database cards view = database cards (lent view)

-- the definition's answer, where what is touched is within the view
abbrev pub AnswersOn : {A B : Type 0} → (A → B) → (Database → Footprint Granule) → (Database → Result B RequestRefusal) → Cards → View → Result A Fault → Type 0
AnswersOn made touch definition cards view result =
    AnswersWithin made (covers view (touch (lent_database cards view))) (definition (lent_database cards view)) result

-- the step's outcome, where what is touched is within the view
abbrev pub ExecutesOn : (Database → Footprint Granule) → (Database → StepOutcome) → Cards → View → Result (Reply × Changes) Stop → Type 0
ExecutesOn touch outcome cards view result = Executes (covers view (touch (lent_database cards view))) (outcome (lent_database cards view)) result
