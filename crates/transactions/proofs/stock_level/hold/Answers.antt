use Rattle.std.proofs.Common.{◌+◌, ap, cond, length, ◌∙◌}
use Rattle.transactions.proofs.HeldItems.{held-more}
use Rattle.transactions.proofs.stock_level.hold.Goals as goal

pub returns-clause-held : goal.returns-clause-held
returns-clause-held c = λ items held.
    held-more c.args.items.now c.insert.new.self c.args.item items held c.in_ok-insert.ensures.updates (c.in_ok-insert.ensures.len ∙ ap (λ added. length c.args.items.now.keys + cond added 1 0) c.in_ok-insert.ensures.added)
