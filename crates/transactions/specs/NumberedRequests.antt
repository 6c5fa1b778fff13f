-- What a request does that has its number, and the moment of its batch.
use Rattle.tpcc_model.specs.Database.{Database}
use Rattle.tpcc_model.specs.Steps.{StepOutcome, step}
use Rattle.transactions.specs.declared.transaction.NumberedRequest.{NumberedRequest}

abbrev pub numbered_step : Database → NumberedRequest → StepOutcome
numbered_step db asked = step db asked.request.now asked.number asked.moment
