use Rattle.std.proofs.Common.{◌+◌, ◌∷◌, ◌++◌, [], ap, ◌∙◌}
use Rattle.pointed_tables.specs.Logs.{Olds}
use Rattle.pointed_tables.proofs.Exchanging.{back-exchanged, step-appended}
use Rattle.pointed_tables.proofs.log.change_noting.Goals as goal

pub returns-clause-step : goal.returns-clause-step
returns-clause-step c =
    let was = c.exchange.new.change in
    let removed = c.in_ok-removed.removed in
    step-appended c.args.log.now c.note.new.self (was ∷ []) removed c.args.store.now.rows c.exchange.new.store.rows
    (c.note.ensures.olds ∙ ap (λ (os : Olds). os ++ was ∷ []) c.prepare.ensures.same.olds)
    (c.note.ensures.removals ∙ ap (λ n. n + removed) c.prepare.ensures.same.removals)
    (λ within. c.note.ensures.bounded (c.prepare.ensures.same.bounded within))
    (back-exchanged c.args.change was c.args.store.now.rows c.exchange.new.store.rows removed c.in_ok-removed.ensures.made)
