use Rattle.std.proofs.Common.{arith}
use Rattle.pointed_tables.proofs.Besides.{count-both}
use Rattle.pointed_tables.proofs.roomy.RoomyTables.len.Goals as goal

pub returns : goal.returns
returns c =
    let tables = c.len.ensures in
    let aside = c.len-2.ensures in
    let both = count-both c.self.inside.aside.rows c.self.inside.tables c.self.inside.aside.room c.args.self.now c.self.view_is c.self.invariant in
    omega (arith, tables, aside, both)
