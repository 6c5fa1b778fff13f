use Rattle.std.proofs.Common.{sym}
use Rattle.std.proofs.lemmas.Bool.{ltb-true}
use Rattle.tables.proofs.Tables.{placed-before}
use Rattle.tables.proofs.queue.is_before.Goals as goal

pub returns-in-Some : goal.returns-in-Some
returns-in-Some c = λ less.
    let first = c.in-Some.field-0.now in
    placed-before c.args.entries.now.items c.args.rank first c.requires (λ d. sym (c.in-Some.ensures.item.3.1 d)) (ltb-true c.args.rank first.0 less)
