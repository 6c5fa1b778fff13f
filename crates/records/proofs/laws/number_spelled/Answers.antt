use Rattle.records.proofs.SpellingLemmas.{number_in-spelled}
use Rattle.records.proofs.laws.number_spelled.Goals as goal

pub returns : goal.returns
returns c = number_in-spelled
