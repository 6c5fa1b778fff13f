use Rattle.std.proofs.Common.{◌++◌, sym, ap, ◌∙◌, append-nil}
use Rattle.catalog.proofs.Tables.{moved-in_order, moved-map}
use Rattle.catalog.proofs.table.moved.Goals as goal

pub returns-clause-order : goal.returns-clause-order
returns-clause-order c = moved-in_order c.args.cards c.len.ensures.ordered c.loop-key.moved.items
    (sym (append-nil c.loop-key.moved.items) ∙ ap (λ left. c.loop-key.moved.items ++ left) (sym c.in-None.ensures.steps.0) ∙ c.loop-key.invariant)

pub returns-clause-all : goal.returns-clause-all
returns-clause-all c = moved-map c.args.cards c.len.ensures.ordered c.loop-key.moved.items
    (sym (append-nil c.loop-key.moved.items) ∙ ap (λ left. c.loop-key.moved.items ++ left) (sym c.in-None.ensures.steps.0) ∙ c.loop-key.invariant)
