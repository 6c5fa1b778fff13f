use Rattle.records.proofs.SpellingLemmas.{number_in-decimal}
use Rattle.records.proofs.laws.number_read_back.Goals as goal

pub returns : goal.returns
returns c = number_in-decimal
