use Rattle.commands.proofs.LawLemmas.{rows_are_records}
use Rattle.commands.proofs.laws.same_records.Goals as goal

pub returns : goal.returns
returns c = rows_are_records
