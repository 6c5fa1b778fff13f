use Rattle.records.proofs.SpellingLemmas.{signed_in-decimal}
use Rattle.records.proofs.laws.signed_read_back.Goals as goal

pub returns : goal.returns
returns c = signed_in-decimal
