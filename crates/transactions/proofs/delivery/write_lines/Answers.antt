use Rattle.std.proofs.Common.{◌≡◌, rules, sym, ap, subst, ◌∙◌}
use Rattle.transactions.specs.DeliveryParts.{lines_written}
use Rattle.transactions.proofs.DeliverySteps.{lines_end, lines_step}
use Rattle.transactions.proofs.delivery.write_lines.Goals as goal

pub loop-line-init : goal.loop-line-init
loop-line-init g c =
    let given : c.into_iter-line-iterator.result.rest.items ≡ c.args.lines.items = search rules in
    record {
      made = λ rows changes stands. (changes, stands, ap (λ lines. lines_written c.args.warehouse c.args.district c.args.order lines changes) given);
      kept = λ first keeps. keeps;
    }

pub loop-line-preserved : goal.loop-line-preserved
loop-line-preserved g c = record {
  made = λ rows changes stands.
      let (now, at, leads) = c.loop-line.invariant.made rows changes stands in (
        _,
        c.in_ok-put.ensures.made rows now at,
        lines_step c.args.warehouse c.args.district c.args.order c.loop-line.line-iterator.rest.items c.next.new.self.rest.items c.in-Some.line now _ c.in-Some.ensures.steps.0 leads,
      );
  kept = λ first keeps. c.in_ok-put.ensures.kept first (c.loop-line.invariant.kept first keeps);
}

pub returns-in_err-put-clause-kept : goal.returns-in_err-put-clause-kept
returns-in_err-put-clause-kept g c = λ first keeps. c.in_err-put.ensures.kept first (c.loop-line.invariant.kept first keeps)

pub returns-clause-kept : goal.returns-clause-kept
returns-clause-kept g c = λ first keeps. c.loop-line.invariant.kept first keeps

pub returns-clause-made : goal.returns-clause-made
returns-clause-made g c = λ rows changes stands.
    let (now, at, leads) = c.loop-line.invariant.made rows changes stands in
    let none = sym c.loop-line.line-iterator.rest.ok.0 ∙ c.in-None.ensures.steps.0 in
    subst (λ made. g.W.RowWriter.Stands rows made c.loop-line.writer) (lines_end c.args.warehouse c.args.district c.args.order c.loop-line.line-iterator.rest.items now _ none leads) at
