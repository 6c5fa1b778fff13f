use Rattle.std.proofs.Common.{◌+◌, ◌++◌, sym, ap, subst, ◌∙◌}
use Rattle.pointed_tables.specs.Logs.{AreWithin, Olds}
use Rattle.pointed_tables.proofs.Bounding.{within-appended}
use Rattle.pointed_tables.proofs.Exchanging.{step-appended}
use Rattle.pointed_tables.proofs.log.exchange_noting.Goals as goal

pub returns-clause-step : goal.returns-clause-step
returns-clause-step c =
    let e = c.exchange_all-later.ensures in
    let later = c.exchange_all-later.result.0.items in
    let removals = c.exchange_all-later.result.1 in
    let prepared = c.prepare.new.self in
    step-appended c.args.log.now c.append.new.self later removals c.args.store.now.rows c.exchange_all-later.new.store.rows
    (c.append.ensures.olds ∙ ap (λ (os : Olds). os ++ later) c.prepare.ensures.same.olds)
    (c.append.ensures.removals ∙ ap (λ n. n + removals) c.prepare.ensures.same.removals)
    (λ within.
    subst (λ b. AreWithin b c.append.new.self.olds.items) (sym c.append.ensures.bounds)
    (within-appended prepared.bounds c.exchange_all-later.new.bounds prepared.olds.items later c.append.new.self.olds.items c.append.ensures.olds e.lowered e.within (c.prepare.ensures.same.bounded within)))
    e.back
