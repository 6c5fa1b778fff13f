use Rattle.std.proofs.Common.{sym, ◌∙◌}
use Rattle.transactions.proofs.FoundLines.{no-item, no-stock}
use Rattle.transactions.proofs.order_line.why_not_found.Goals as goal

pub returns-then-have_items : goal.returns-then-have_items
returns-then-have_items c = no-stock c.args.catalog.now c.args.lines.now (sym c.have_items.ensures ∙ c.if-have_items.true) c.requires

pub returns-else-have_items : goal.returns-else-have_items
returns-else-have_items c = no-item c.args.catalog.now c.args.lines.now (sym c.have_items.ensures ∙ c.if-have_items.false)
