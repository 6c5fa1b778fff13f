-- The path of a batch, by its verdict and its requests' touches: what its levels do, however the batch is executed.
use Rattle.std.specs.Prelude.{Bool, true, false}
use Rattle.catalog.specs.CardMap.{Cards}
use Rattle.requests.specs.declared.request.Batch.{Batch}
use Rattle.requests.specs.declared.request.Verdict.{Verdict}
use Rattle.requests.specs.declared.request.Verdict.TheVariants as verdict
use Rattle.tpcc_model.specs.Serial.{State}
use Rattle.executor.specs.LevelRuns.{strays}
use Rattle.executor.specs.declared.path.Path.{Path}
use Rattle.executor.specs.declared.path.Path.TheVariants as path

abbrev pub path_by : Verdict → Bool → Path
path_by verdict.Rerun strayed = path.Verdict
path_by verdict.Commit true = path.Reran
path_by verdict.Commit false = path.Parallel

abbrev pub path_of : Cards → State → Batch → Path
path_of cards state batch = path_by batch.verdict (strays cards state batch)
