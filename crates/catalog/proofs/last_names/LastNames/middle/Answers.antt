use Rattle.std.proofs.Common.{◌+◌, ◌-◌, ◌/◌, get_or, sym, ap, ◌∙◌, arith}
use Rattle.catalog.proofs.Middles.{nobody, somebody}
use Rattle.catalog.proofs.last_names.LastNames.middle.Goals as goal

pub returns-then-count-eq0 : goal.returns-then-count-eq0
returns-then-count-eq0 c = λ cards are. sym (nobody cards c.args.self.now are c.args.warehouse c.args.district c.args.last.now _ _ (c.holders-start.ensures.place cards are) c.if-count-eq0.true)

pub returns : goal.returns
returns c = λ cards are.
    let (start, count) = c.holders-start.result in
    let there = c.index.ensures ∙ ap (λ names. get_or names (start + (count - 1) / 2) c.index.result.now) c.self.view_is in
    sym (somebody cards c.args.self.now are c.args.warehouse c.args.district c.args.last.now start count (c.holders-start.ensures.place cards are) c.index.result.now (omega arith) there)
