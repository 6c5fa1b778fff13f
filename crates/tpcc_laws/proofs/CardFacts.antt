-- What a sound catalog says of a card that is found.
use Rattle.std.proofs.Common.{◌≡◌, ◌-◌, ℕ, zero, suc, List, [], ◌∷◌, get_or, Option, Some, None, subst, arith}
use Rattle.std.specs.Option.{option_and_then}
use Rattle.std.specs.FinMap.{get}
use Rattle.std.specs.List.{AllByRecursion}
use Rattle.catalog.specs.CardKinds.{as_warehouse, as_district, as_customer, as_stock}
use Rattle.catalog.specs.CardMap.{Cards}
use Rattle.catalog.specs.Lookups.{warehouse_card, district_card, customer_card, stock_card}
use Rattle.catalog.specs.StockCards.{district_info}
use Rattle.catalog.specs.declared.card.Card.{Card}
use Rattle.catalog.specs.declared.card.Card.TheVariants as card
use Rattle.catalog.specs.declared.card.CardKey.TheVariants as ckey
use Rattle.catalog.specs.declared.card.WarehouseCard.{WarehouseCard}
use Rattle.catalog.specs.declared.card.DistrictCard.{DistrictCard}
use Rattle.catalog.specs.declared.card.CustomerCard.{CustomerCard}
use Rattle.catalog.specs.declared.card.StockCard.{StockCard}
use Rattle.tpcc_model.specs.Soundness.{AreCards, IsCustomerCard, IsStockCard}
use Rattle.tpcc_rows.specs.Limits.{IsBetween}
use Rattle.tpcc_rows.specs.Texts.{IsText}

warehouse-there : (o : Option Card) (c : WarehouseCard) → option_and_then as_warehouse o ≡ Some c → o ≡ Some (card.Warehouse c)
warehouse-there None c h = cc
warehouse-there (Some (card.Warehouse x)) c h = cc
warehouse-there (Some _) c h = cc

district-there : (o : Option Card) (c : DistrictCard) → option_and_then as_district o ≡ Some c → o ≡ Some (card.District c)
district-there None c h = cc
district-there (Some (card.District x)) c h = cc
district-there (Some _) c h = cc

customer-there : (o : Option Card) (c : CustomerCard) → option_and_then as_customer o ≡ Some c → o ≡ Some (card.Customer c)
customer-there None c h = cc
customer-there (Some (card.Customer x)) c h = cc
customer-there (Some _) c h = cc

pub warehouse-limits : (cards : Cards) (w : ℕ) (c : WarehouseCard) → AreCards cards → warehouse_card cards w ≡ Some c → IsBetween 1 100 w × IsText 10 c.name
warehouse-limits cards w c are h =
    let is = warehouse-there (get cards (ckey.Warehouse w)) c h in
    let limits = are.limits (ckey.Warehouse w) (card.Warehouse c) is in
    let own : c.warehouse ≡ w = (let k = are.keyed (ckey.Warehouse w) (card.Warehouse c) is in cc) in
    (subst (IsBetween 1 100) own limits.0, limits.1)

pub district-limits : (cards : Cards) (w d : ℕ) (c : DistrictCard) → AreCards cards → district_card cards w d ≡ Some c → IsBetween 1 100 w × IsBetween 1 10 d × IsText 10 c.name
district-limits cards w d c are h =
    let is = district-there (get cards (ckey.District w d)) c h in
    let limits = are.limits (ckey.District w d) (card.District c) is in
    let k = are.keyed (ckey.District w d) (card.District c) is in
    let own : c.warehouse ≡ w = cc in
    let part : c.district ≡ d = cc in
    (subst (IsBetween 1 100) own limits.0, subst (IsBetween 1 10) part limits.1, limits.2)

pub customer-limits : (cards : Cards) (w d n : ℕ) (c : CustomerCard) → AreCards cards → customer_card cards w d n ≡ Some c → IsBetween 1 100 w × IsBetween 1 10 d × IsBetween 1 3000 n
customer-limits cards w d n c are h =
    let is = customer-there (get cards (ckey.Customer w d n)) c h in
    let limits : IsCustomerCard c = are.limits (ckey.Customer w d n) (card.Customer c) is in
    let k = are.keyed (ckey.Customer w d n) (card.Customer c) is in
    let own : c.warehouse ≡ w = cc in
    let part : c.district ≡ d = cc in
    let number : c.customer ≡ n = cc in
    (subst (IsBetween 1 100) own limits.warehouse, subst (IsBetween 1 10) part limits.district, subst (IsBetween 1 3000) number limits.customer)

stock-there : (o : Option Card) (c : StockCard) → option_and_then as_stock o ≡ Some c → o ≡ Some (card.Stock c)
stock-there None c h = cc
stock-there (Some (card.Stock x)) c h = cc
stock-there (Some _) c h = cc

no_text : (n : ℕ) → IsText n []
no_text n = record { fits = omega arith; printable = λ k d lt. absurd (omega arith) }

text_at : (n : ℕ) (texts : List (List ℕ)) (i : ℕ) → AllByRecursion (IsText n) texts → IsText n (get_or texts i [])
text_at n [] i are = no_text n
text_at n (text ∷ texts) zero are = are.0
text_at n (text ∷ texts) (suc i) are = text_at n texts i are.1

pub info-limits : (cards : Cards) (w i d : ℕ) (c : StockCard) → AreCards cards → stock_card cards w i ≡ Some c → IsText 24 (district_info c d)
info-limits cards w i d c are h =
    let is = stock-there (get cards (ckey.Stock w i)) c h in
    let limits : IsStockCard c = are.limits (ckey.Stock w i) (card.Stock c) is in
    text_at 24 c.district_infos (d - 1) limits.district_infos
