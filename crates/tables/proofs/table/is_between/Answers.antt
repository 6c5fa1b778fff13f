use Rattle.std.proofs.Common.{arith}
use Rattle.std.proofs.lemmas.Bool.{ltb-true}
use Rattle.tables.proofs.Tables.{placed-between}
use Rattle.tables.proofs.table.is_between.Goals as goal

pub returns-then-entries-place-2 : goal.returns-then-entries-place-2
returns-then-entries-place-2 g c = λ more.
    placed-between c.args.entries.now c.args.rank c.args.place c.index-entries-place.result c.index-entries-place-then-entries-place-2.result c.requires
    (omega (arith, c.if-place-eq0.false)) c.if-entries-place.false c.if-entries-place-2.true (ltb-true _ _ more)
