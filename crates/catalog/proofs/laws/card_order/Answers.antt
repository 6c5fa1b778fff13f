use Rattle.catalog.proofs.CardCodes.{order_is_of_card_codes}
use Rattle.catalog.proofs.laws.card_order.Goals as goal

pub returns : goal.returns
returns c = order_is_of_card_codes
