-- What a new order that isn't refused found and made.
use Rattle.std.proofs.Common.{◌≡◌, ◌+◌, ℕ, List, [], ◌∷◌, length, Option, Some, None, IsSome, Ok, sym, ap, subst, ◌∙◌}
use Rattle.std.specs.List.{AllByRecursion}
use Rattle.std.specs.Option.{ok_or, option_and_then}
use Rattle.std.specs.FinMap.{get}
use Rattle.catalog.specs.CardMap.{Cards}
use Rattle.catalog.specs.Lookups.{warehouse_card, district_card, customer_card, item_card, stock_card}
use Rattle.requests.specs.declared.request.NewOrder.{NewOrder}
use Rattle.requests.specs.declared.request.OrderedLine.{OrderedLine}
use Rattle.requests.specs.declared.reply.RequestRefusal.TheVariants.{ItemNotValid}
use Rattle.tpcc_rows.specs.Limits.{IsBetween, between}
use Rattle.tpcc_rows.specs.RowKinds.{as_district_next}
use Rattle.tpcc_rows.specs.Rows.{district_next_row}
use Rattle.tpcc_rows.specs.declared.key.RowKey.TheVariants as key
use Rattle.tpcc_rows.specs.declared.row.Row.{Row}
use Rattle.tpcc_rows.specs.declared.row.Row.TheVariants as row
use Rattle.tpcc_rows.specs.declared.row.DistrictNextRow.{DistrictNextRow}
use Rattle.tpcc_model.specs.Database.{Database}
use Rattle.tpcc_model.specs.NewOrders.{LineCards, LineItem, PlacedOrder, OrderSoFar, found_cards, found_item, found_lines, found_stock, lines_done, new_order, new_order_reply, opened, raised_district}
use Rattle.tpcc_model.specs.Soundness.{AreCards}
use Rattle.tpcc_model.specs.Staging.{for_each, known, within}
use Rattle.tpcc_laws.specs.Requests.{IsNewOrder}
use Rattle.tpcc_laws.proofs.CardFacts.{info-limits}
use Rattle.tpcc_laws.proofs.Doing.{ok-by, ok_or-ok, is_there, between-some}
use Rattle.tpcc_laws.proofs.FoundLines.{found_lines-length}
use Rattle.tpcc_laws.proofs.NewOrderLines.{IsFound}

-- ---- the lines
items_found : (cards : Cards) (lines : List OrderedLine) (items : List LineItem) → AllByRecursion (λ (line : OrderedLine). IsBetween 1 10 line.quantity) lines → for_each (found_item cards) lines ≡ Ok items
    → AllByRecursion (λ (line : LineItem). IsBetween 1 10 line.ordered.quantity) items
unfolding found_item
items_found cards [] items few h = (let none : [] ≡ items = cc in subst (AllByRecursion (λ (line : LineItem). IsBetween 1 10 line.ordered.quantity)) none tt)
items_found cards (line ∷ lines) items few h =
    ok-by (found_item cards line) _ _ h λ first e1 h1.
    ok-by (for_each (found_item cards) lines) _ _ h1 λ rest e2 h2.
    ok-by (ok_or (item_card cards line.item) ItemNotValid) _ _ e1 λ item e3 h3.
    let one : ◌≡◌ {A = LineItem} (record { ordered = line; item = item }) first = cc in
    let all : first ∷ rest ≡ items = cc in
    subst (AllByRecursion (λ (l : LineItem). IsBetween 1 10 l.ordered.quantity)) all (subst (λ (l : LineItem). IsBetween 1 10 l.ordered.quantity) one few.0, items_found cards lines rest few.1 e2)

stocks_found : (cards : Cards) (d : ℕ) (items : List LineItem) (lines : List LineCards) → AreCards cards → AllByRecursion (λ (line : LineItem). IsBetween 1 10 line.ordered.quantity) items → for_each (found_stock cards) items ≡ Ok lines
    → AllByRecursion (IsFound cards d) lines
unfolding found_stock
stocks_found cards d [] lines are few h = (let none : [] ≡ lines = cc in subst (AllByRecursion (IsFound cards d)) none tt)
stocks_found cards d (line ∷ items) lines are few h =
    ok-by (found_stock cards line) _ _ h λ first e1 h1.
    ok-by (for_each (found_stock cards) items) _ _ h1 λ rest e2 h2.
    ok-by (known (stock_card cards line.ordered.supply line.ordered.item)) _ _ e1 λ stock e3 h3.
    let one : ◌≡◌ {A = LineCards} (record { ordered = line.ordered; item = line.item; stock = stock }) first = cc in
    let all : first ∷ rest ≡ lines = cc in
    let there = ok_or-ok _ _ _ e3 in
    subst (AllByRecursion (IsFound cards d)) all (
      subst (IsFound cards d) one (record {
        stock = is_there _ stock there;
        info = info-limits cards line.ordered.supply line.ordered.item d stock are there;
        quantity = few.0;
      }),
      stocks_found cards d items rest are few.1 e2,
    )

lines_found : (cards : Cards) (p : NewOrder) (lines : List LineCards) → AreCards cards → IsNewOrder p → found_lines cards p.lines ≡ Ok lines → AllByRecursion (IsFound cards p.district) lines
unfolding found_lines
lines_found cards p lines are few h =
    ok-by (for_each (found_item cards) p.lines) _ _ h λ items e1 h1.
    stocks_found cards p.district items lines are (items_found cards p.lines items few.quantities e1) h1

-- ---- the district's next number
district-there : (o : Option Row) (r : DistrictNextRow) → option_and_then as_district_next o ≡ Some r → o ≡ Some (row.DistrictNext r)
district-there None r h = cc
district-there (Some (row.DistrictNext x)) r h = cc
district-there (Some _) r h = cc

-- ---- the whole
pub record IsPlacedOrder (db : Database) (p : NewOrder) (moment : ℕ) (made : PlacedOrder) : Type 0 where
  pub district : IsSome (district_card db.cards p.warehouse p.district)
  pub customer : IsSome (customer_card db.cards p.warehouse p.district p.customer)
  pub lines : List LineCards
  pub found : AllByRecursion (IsFound db.cards p.district) lines
  pub count : length lines ≡ length p.lines
  pub old : DistrictNextRow
  pub has_district : get db.rows (key.DistrictNext p.warehouse p.district) ≡ Some (row.DistrictNext old)
  pub next : IsBetween 1 9999999 (old.next_order + 1)
  pub last : OrderSoFar
  pub done : lines_done db.rows p old.next_order 1 lines (opened p moment old.next_order (record { next_order = old.next_order + 1 })) ≡ Ok last
  pub changes : last.changes ≡ made.changes

district-raised : (old new : DistrictNextRow) → raised_district old ≡ Ok new → (new ≡ record { next_order = old.next_order + 1 }) × IsBetween 1 9999999 (old.next_order + 1)
unfolding raised_district
district-raised old new h =
    ok-by (within (between 1 9999999 (old.next_order + 1))) _ _ h λ next e made.
    let n = between-some 1 9999999 (old.next_order + 1) next (ok_or-ok _ _ _ e) in
    let is : ◌≡◌ {A = DistrictNextRow} (record { next_order = next }) new = cc in
    (sym is ∙ ap (λ (z : ℕ). record { next_order = z }) (sym n.0), subst (IsBetween 1 9999999) (sym n.0) n.1)

pub order_found : (db : Database) (p : NewOrder) (moment : ℕ) (made : PlacedOrder) → AreCards db.cards → IsNewOrder p → new_order db p moment ≡ Ok made → IsPlacedOrder db p moment made
unfolding new_order found_cards
order_found db p moment made are few h =
    ok-by (found_cards db.cards p) _ _ h λ cards e0 h0.
    ok-by (known (district_next_row db.rows p.warehouse p.district)) _ _ h0 λ old e1 h1.
    ok-by (raised_district old) _ _ h1 λ new e3 h3.
    ok-by (lines_done db.rows p old.next_order 1 cards.lines (opened p moment old.next_order new)) _ _ h3 λ last e2 h2.
    ok-by (known (warehouse_card db.cards p.warehouse)) _ _ e0 λ c1 e4 h4.
    ok-by (known (district_card db.cards p.warehouse p.district)) _ _ h4 λ c2 e5 h5.
    ok-by (known (customer_card db.cards p.warehouse p.district p.customer)) _ _ h5 λ c3 e6 h6.
    ok-by (found_lines db.cards p.lines) _ _ h6 λ lines e7 h7.
    let same : lines ≡ cards.lines = cc in
    let raised = district-raised old new e3 in
    let is : ◌≡◌ {A = PlacedOrder} (record { reply = new_order_reply cards old.next_order last.lines; changes = last.changes }) made = cc in
    record {
      district = is_there _ c2 (ok_or-ok _ _ _ e5);
      customer = is_there _ c3 (ok_or-ok _ _ _ e6);
      lines = cards.lines;
      found = subst (AllByRecursion (IsFound db.cards p.district)) same (lines_found db.cards p lines are few e7);
      count = ap length (sym same) ∙ found_lines-length db.cards p.lines lines e7;
      old = old;
      has_district = district-there _ old (ok_or-ok _ _ _ e1);
      next = raised.1;
      last = last;
      done = subst (λ (z : DistrictNextRow). lines_done db.rows p old.next_order 1 cards.lines (opened p moment old.next_order z) ≡ Ok last) raised.0 e2;
      changes = ap (λ (z : PlacedOrder). z.changes) is;
    }
