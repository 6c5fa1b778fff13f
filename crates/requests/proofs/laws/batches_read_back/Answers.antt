use Rattle.requests.proofs.RoundTrip.{batches-batches_text}
use Rattle.requests.proofs.laws.batches_read_back.Goals as goal

pub returns : goal.returns
returns c = batches-batches_text
