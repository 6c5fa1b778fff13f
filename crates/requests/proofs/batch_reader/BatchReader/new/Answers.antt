use Rattle.std.proofs.Common.{arith}
use Rattle.requests.proofs.BatchLemmas.{length-batches}
use Rattle.records.proofs.RecordLemmas.{length-records_in}
use Rattle.requests.proofs.batch_reader.BatchReader.new.Goals as goal

pub invariant_of-result : goal.invariant_of-result
invariant_of-result c =
    let count = length-records_in c.args.text.now in
    (c.records_of.ensures.going, rw c.records_of.ensures.all (omega (arith, count)))

pub returns-clause-count : goal.returns-clause-count
returns-clause-count c = rw c.records_of.ensures.all (length-batches c.args.text.now)
