use Rattle.std.proofs.Common.{Ok, ap, sym, ◌∙◌, arith}
use Rattle.std.proofs.lemmas.List.{take_all}
use Rattle.std.specs.Prelude.{is_ok}
use Rattle.tpcc_model.specs.Staging.{for_each}
use Rattle.transactions.specs.NewOrderParts.{found_line, line_cards_of}
use Rattle.transactions.specs.Outcomes.{viewed}
use Rattle.transactions.proofs.FoundLines.{all-found, found_count}
use Rattle.transactions.proofs.ForEach.{for_each_more, for_each_stop}
use Rattle.transactions.proofs.order_line.found_lines.Goals as goal

pub why_not_found-requires : goal.why_not_found-requires
why_not_found-requires c =
    ap is_ok (for_each_stop _ _ _ _ c.loop-line-test.true c.line-item.is _ c.in-Err.field-0 c.loop-line.invariant (sym (ap (viewed line_cards_of) c.in-Err.is) ∙ c.found_line.ensures))

pub loop-line-preserved : goal.loop-line-preserved
loop-line-preserved c =
    rw c.in_ok-push-in-Ok.ensures.items (for_each_more _ _ _ _ c.loop-line-test.true c.line-item.is line_cards_of _ c.in-Ok.cards c.loop-line.invariant (sym (ap (viewed line_cards_of) c.in-Ok.is) ∙ c.found_line.ensures))

pub returns-clause-answer : goal.returns-clause-answer
returns-clause-answer c =
    all-found c.args.catalog.now c.args.lines.now _
    (ap (λ ls. for_each (found_line c.args.catalog.now) ls) (sym (take_all c.loop-line.line-index c.args.lines.now (let done = c.loop-line-test.false in omega (arith, done)))) ∙ c.loop-line.invariant)

pub returns-clause-len : goal.returns-clause-len
returns-clause-len c = found_count line_cards_of (λ found. found.items) c.args.catalog.now c.args.lines.now (Ok c.loop-line.found) (returns-clause-answer c)
