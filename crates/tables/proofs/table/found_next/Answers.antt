use Rattle.std.proofs.Common.{sym}
use Rattle.std.proofs.lemmas.Bool.{ltb-true, ltb-false}
use Rattle.tables.proofs.Parted.{another, found, missing, next-absent, next-found, past}
use Rattle.tables.proofs.table.found_next.Goals as goal
use Rattle.tables.proofs.table.found_next.Goals.{in_default-via-in-Some+else-other-rank, in_default-via-in_default}

pub returns-in-Some-clause-value : goal.returns-in-Some-clause-value
returns-in-Some-clause-value g c =
    let here = c.in-Some.ensures.lookup in
    found c.args.entries.now c.requires.order c.args.rank c.args.place c.requires.place c.in-Some.field-0.now (ltb-true _ _ (sym here.0)) here.1 c.if-other-rank.true

pub returns-in-Some-clause-next : goal.returns-in-Some-clause-next
returns-in-Some-clause-next g c =
    let here = c.in-Some.ensures.lookup in
    next-found c.args.entries.now c.requires.order c.args.rank c.args.place c.requires.place c.in-Some.field-0.now (ltb-true _ _ (sym here.0)) here.1 c.if-other-rank.true

pub returns-in_default-clause-value : goal.returns-in_default-clause-value
returns-in_default-clause-value g c =
    let es = c.args.entries.now in
    elim c.in_default.branch [
      | in_default-via-in-Some+else-other-rank w ↦
          missing es c.requires.order c.args.rank c.args.place c.requires.place (another es c.args.rank c.args.place _ w.in-Some.ensures.lookup.1 w.if-other-rank.false)
      | in_default-via-in_default w ↦
          missing es c.requires.order c.args.rank c.args.place c.requires.place (past es c.args.rank c.args.place (ltb-false _ _ (sym w.in_default.ensures.lookup.0)))
    ]

pub returns-in_default-clause-next : goal.returns-in_default-clause-next
returns-in_default-clause-next g c =
    let es = c.args.entries.now in
    elim c.in_default.branch [
      | in_default-via-in-Some+else-other-rank w ↦
          next-absent es c.requires.order c.args.rank c.args.place c.requires.place (another es c.args.rank c.args.place _ w.in-Some.ensures.lookup.1 w.if-other-rank.false)
      | in_default-via-in_default w ↦
          next-absent es c.requires.order c.args.rank c.args.place c.requires.place (past es c.args.rank c.args.place (ltb-false _ _ (sym w.in_default.ensures.lookup.0)))
    ]
