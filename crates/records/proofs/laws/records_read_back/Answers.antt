use Rattle.records.proofs.SpellingLemmas.{records_after-text}
use Rattle.records.proofs.laws.records_read_back.Goals as goal

pub returns : goal.returns
returns c = λ rows same. rw same (records_after-text rows)
