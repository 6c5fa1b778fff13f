-- When the cards of a new order are found.
use Rattle.std.proofs.Common.{◌≡◌, Bool, true, false, ◌&&◌, is_ok, is_some, List, [], ◌∷◌, Option, Some, None, Result, Ok, Err, refl, ap, ◌∙◌}
use Rattle.std.specs.List.{list_all}
use Rattle.std.specs.Option.{ok_or}
use Rattle.catalog.specs.CardMap.{Cards}
use Rattle.catalog.specs.Lookups.{warehouse_card, district_card, customer_card, item_card, stock_card}
use Rattle.catalog.specs.declared.card.ItemCard.{ItemCard}
use Rattle.catalog.specs.declared.card.StockCard.{StockCard}
use Rattle.requests.specs.declared.reply.RequestRefusal.{RequestRefusal}
use Rattle.requests.specs.declared.reply.RequestRefusal.TheVariants.{ItemNotValid, UnknownKey}
use Rattle.requests.specs.declared.request.NewOrder.{NewOrder}
use Rattle.requests.specs.declared.request.OrderedLine.{OrderedLine}
use Rattle.tpcc_model.specs.NewOrders.{LineCards, LineItem, found_cards, found_item, found_lines, found_stock}
use Rattle.serializability.specs.Footprints.{Footprint}
use Rattle.tpcc_model.specs.Touches.{touch_by}
use Rattle.tpcc_rows.specs.declared.granule.Granule.{Granule}
use Rattle.tpcc_model.specs.Staging.{◌>>=◌, for_each, known}
use Rattle.profiles.specs.Found.{has_cards}

-- a stage on what is to be there
is_ok-there : {A B : Type 0} (o : Option A) (why : RequestRefusal) (f : A → Result B RequestRefusal) (b : Bool) → ((x : A) → is_ok (f x) ≡ b) → is_ok (ok_or o why >>= f) ≡ (is_some o && b)
is_ok-there (Some x) why f b each = each x
is_ok-there None why f b each = refl

-- a stage that answers in any case
is_ok-more : {A B : Type 0} (r : Result A RequestRefusal) (f : A → B) → is_ok (r >>= λ x. Ok (f x)) ≡ is_ok r
is_ok-more (Ok x) f = refl
is_ok-more (Err why) f = refl

module _ (cards : Cards) where
  -- the stocks of one line more
  stocks_more : (line : LineItem) (items : List LineItem) → is_ok (for_each (found_stock cards) (line ∷ items)) ≡ (is_some (stock_card cards line.ordered.supply line.ordered.item) && is_ok (for_each (found_stock cards) items))
  unfolding found_stock
  stocks_more line items = by (stock_card cards line.ordered.supply line.ordered.item)
    where
      by : (o : Option StockCard) → is_ok ((known o >>= λ stock. Ok (record { ordered = line.ordered; item = line.item; stock = stock })) >>= λ y. for_each (found_stock cards) items >>= λ ys. Ok (y ∷ ys)) ≡ (is_some o && is_ok (for_each (found_stock cards) items))
      by (Some stock) = is_ok-more (for_each (found_stock cards) items) (λ (ys : List LineCards). (record { ordered = line.ordered; item = line.item; stock = stock }) ∷ ys)
      by None = refl

  none_more : (b : Bool) → false ≡ (b && false)
  none_more true = refl
  none_more false = refl

  lines_found : (lines : List OrderedLine) → is_ok (found_lines cards lines) ≡ list_all (has_cards cards) lines
  unfolding found_item found_lines
  lines_found [] = refl
  lines_found (line ∷ lines) = by (item_card cards line.item) (for_each (found_item cards) lines) (lines_found lines)
    where
      by : (o : Option ItemCard) (r : Result (List LineItem) RequestRefusal) → is_ok (r >>= for_each (found_stock cards)) ≡ list_all (has_cards cards) lines
          → is_ok (((ok_or o ItemNotValid >>= λ item. Ok (record { ordered = line; item = item })) >>= λ y. r >>= λ ys. Ok (y ∷ ys)) >>= for_each (found_stock cards)) ≡ ((is_some o && is_some (stock_card cards line.supply line.item)) && list_all (has_cards cards) lines)
      by None r rest = refl
      by (Some item) (Err why) rest = none_more (is_some (stock_card cards line.supply line.item)) ∙ ap (λ b. is_some (stock_card cards line.supply line.item) && b) rest
      by (Some item) (Ok items) rest = stocks_more (record { ordered = line; item = item }) items ∙ ap (λ b. is_some (stock_card cards line.supply line.item) && b) rest

  pub all_found : (p : NewOrder) → is_ok (found_cards cards p) ≡ (is_some (warehouse_card cards p.warehouse) && (is_some (district_card cards p.warehouse p.district) && (is_some (customer_card cards p.warehouse p.district p.customer) && list_all (has_cards cards) p.lines)))
  unfolding found_cards
  all_found p =
      is_ok-there (warehouse_card cards p.warehouse) UnknownKey _ _ λ warehouse.
      is_ok-there (district_card cards p.warehouse p.district) UnknownKey _ _ λ district.
      is_ok-there (customer_card cards p.warehouse p.district p.customer) UnknownKey _ _ λ customer.
      is_ok-more (found_lines cards p.lines) _ ∙ lines_found p.lines

-- what is touched where a card is there
pub touched_there : {A : Type 0} (o : Option A) (touch : Footprint Granule) → is_some o ≡ true → touch_by (λ card. touch) (known o) ≡ touch
touched_there (Some card) touch there = refl
touched_there None touch there = cc
