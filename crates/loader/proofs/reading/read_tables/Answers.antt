use Rattle.std.proofs.Common.{arith}
use Rattle.records.proofs.RecordLemmas.{length-records_in}
use Rattle.loader.proofs.reading.read_tables.Goals as goal

pub read_records-requires-clause-room : goal.read_records-requires-clause-room
read_records-requires-clause-room c =
    let count = length-records_in c.args.text.now in
    let small = c.requires in
    rw c.records_of-reader.ensures.all (omega (arith, count, small))
