use Rattle.std.proofs.Common.{Ok, Err, refl}
use Rattle.tables.proofs.Parted.{parted-absent, parted-there}
use Rattle.tables.proofs.Tables.{at}
use Rattle.tables.proofs.table.start.Goals as goal

pub returns-in-Ok : goal.returns-in-Ok
returns-in-Ok g c =
    let es = c.args.entries.now in
    parted-there es c.requires c.args.rank c.in-Ok.place (at es c.args.rank c.requires (Ok c.in-Ok.place) es c.place_of.result refl c.in-Ok.is c.place_of.ensures)

pub returns-in-Err : goal.returns-in-Err
returns-in-Err g c =
    let es = c.args.entries.now in
    parted-absent es c.requires c.args.rank c.in-Err.place (at es c.args.rank c.requires (Err c.in-Err.place) es c.place_of.result refl c.in-Err.is c.place_of.ensures)
