use Rattle.std.proofs.Common.{sym, ap, ◌∙◌}
use Rattle.std.specs.Prelude.{option_copied}
use Rattle.catalog.proofs.InOrder.{before-first}
use Rattle.catalog.proofs.NameOrders.{is_less}
use Rattle.catalog.proofs.rising.is_before.Goals as goal

pub returns-in-Some : goal.returns-in-Some
returns-in-Some c = λ less.
    before-first c.args.key.now c.args.cards.now c.in-Some.first.now c.requires (sym c.first.ensures.value ∙ ap option_copied c.in-Some.is)
    (sym c.cmp.ensures ∙ is_less _ (sym c.is_lt.ensures ∙ less))
