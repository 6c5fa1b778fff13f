use Rattle.std.proofs.Common.{sym, ap, ◌∙◌}
use Rattle.std.specs.Prelude.{option_copied}
use Rattle.catalog.proofs.InOrder.{behind-last}
use Rattle.catalog.proofs.NameOrders.{is_less}
use Rattle.catalog.proofs.rising.is_behind.Goals as goal

pub returns-in-Some : goal.returns-in-Some
returns-in-Some c = λ less.
    behind-last c.args.key.now c.args.cards.now c.in-Some.last.now c.requires (sym c.last.ensures.value ∙ ap option_copied c.in-Some.is)
    (sym c.cmp.ensures ∙ is_less _ (sym c.is_lt.ensures ∙ less))
