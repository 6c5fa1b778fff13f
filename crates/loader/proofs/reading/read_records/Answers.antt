use Rattle.std.proofs.Common.{length, ap, arith}
use Rattle.loader.proofs.reading.read_records.Goals as goal

pub read_rest-requires-clause-room : goal.read_rest-requires-clause-room
read_rest-requires-clause-room c =
    let one = ap length (c.in_ok-next_record.ensures.found c.if-not-branch.false) in
    let room = c.requires.room in
    omega (arith, one, room)
