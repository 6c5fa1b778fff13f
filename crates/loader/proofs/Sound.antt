-- Filled tables that pass the checks are sound.
use Rattle.std.proofs.Common.{◌≡◌, ◌∙◌, ◌+◌, ◌-◌, ◌<◌, ◌≤◌, ℕ, zero, suc, ◌&&◌, Bool, true, false, Option, Some, None, IsSome, IfSome, get_or, refl, sym, ap, inl, inr, arith}
use Rattle.std.specs.List.{list_all}
use Rattle.std.specs.Option.{option_and_then}
use Rattle.std.specs.FinMap.{entries, get}
use Rattle.std.proofs.lemmas.Bool.{cases_Bool}
use Rattle.std.proofs.lemmas.Bool.Decides.{Decides-int_eq, nat_tests}
use Rattle.std.proofs.lemmas.List.Folds.{list_all_at}
use Rattle.catalog.specs.CardKinds.{as_customer, as_district, as_item, as_stock, as_warehouse, card_key as own_key}
use Rattle.catalog.specs.CardMap.{AreKeyed, Cards}
use Rattle.catalog.specs.Lookups.{customer_card, district_card}
use Rattle.catalog.specs.declared.card.Card.{Card}
use Rattle.catalog.specs.declared.card.Card.TheVariants as card
use Rattle.catalog.specs.declared.card.CardKey.{CardKey}
use Rattle.catalog.specs.declared.card.CardKey.TheVariants as card_key
use Rattle.catalog.proofs.CardKeys.{card_key_cmp_total, exact_cards}
use Rattle.tpcc_model.specs.Conditions.{Condition1, HasOrder, district_share}
use Rattle.tpcc_model.specs.Database.{Database}
use Rattle.tpcc_model.specs.Soundness.{AreCards, HasCard, IsEntry, IsSound}
use Rattle.tpcc_rows.specs.Limits.{IsBetween, ten}
use Rattle.tpcc_rows.specs.RowKinds.{as_order, as_warehouse as row_as_warehouse}
use Rattle.tpcc_rows.specs.RowMap.{Rows}
use Rattle.tpcc_rows.specs.Rows.{order_row}
use Rattle.tpcc_rows.specs.Totals.{total}
use Rattle.tpcc_rows.specs.declared.key.RowKey.{RowKey}
use Rattle.tpcc_rows.specs.declared.key.RowKey.TheVariants as key
use Rattle.tpcc_rows.specs.declared.row.OrderRow.{OrderRow}
use Rattle.tpcc_rows.specs.declared.row.Row.{Row}
use Rattle.tpcc_rows.specs.declared.row.Row.TheVariants as row
use Rattle.tpcc_rows.proofs.Keys.{exact_keys, row_key_cmp_total}
use Rattle.tpcc_rows.proofs.Singles.{and-left, and-right, passes}
use Rattle.image_checks.specs.Checks.{card_has_parents, has_line, has_own_rows, parents_there, row_has_parents, ytd_agrees, ytds_agree}
use Rattle.image_checks.specs.Districts.{line_counts_agree, next_orders_agree, spans_agree}
use Rattle.image_records.specs.Databases.{has_card, has_row}
use Rattle.image_checks.proofs.DistrictLemmas.{consistent}
use Rattle.loader.proofs.Filled.{IsFilled, IsLimited}

-- ---- look-ups of cards
then-some : {A B : Type 0} (f : A → Option B) (o : Option A) → IsSome (option_and_then f o) → IsSome o
then-some f None h = h
then-some f (Some a) h = refl

-- a card is of its key's kind
then-kind : {B : Type 0} (f : Card → Option B) (cards : Cards) (q : CardKey) → AreKeyed cards → ((c : Card) → own_key c ≡ q → IsSome (f c)) → IsSome (get cards q) → IsSome (option_and_then f (get cards q))
then-kind f cards q keyed kind some = at (get cards q) refl some
  where
    at : (o : Option Card) → get cards q ≡ o → IsSome o → IsSome (option_and_then f o)
    at None e h = h
    at (Some c) e h = kind c (keyed q c e)

warehouse-kind : (w : ℕ) (c : Card) → own_key c ≡ card_key.Warehouse w → IsSome (as_warehouse c)
warehouse-kind w (card.Warehouse c) e = refl
warehouse-kind w _ e = cc

district-kind : (w d : ℕ) (c : Card) → own_key c ≡ card_key.District w d → IsSome (as_district c)
district-kind w d (card.District c) e = refl
district-kind w d _ e = cc

customer-kind : (w d n : ℕ) (c : Card) → own_key c ≡ card_key.Customer w d n → IsSome (as_customer c)
customer-kind w d n (card.Customer c) e = refl
customer-kind w d n _ e = cc

stock-kind : (w i : ℕ) (c : Card) → own_key c ≡ card_key.Stock w i → IsSome (as_stock c)
stock-kind w i (card.Stock c) e = refl
stock-kind w i _ e = cc

item-kind : (i : ℕ) (c : Card) → own_key c ≡ card_key.Item i → IsSome (as_item c)
item-kind i (card.Item c) e = refl
item-kind i _ e = cc

value-of : {X : Type 0} (o : Option X) → IsSome o → (x : X) × (o ≡ Some x)
value-of None h = let bad : ⊥ = cc in absurd bad
value-of (Some x) h = (x, refl)

-- ---- parents
-- each of the ten districts passes
ten-at : (i : ℕ) → i < 10 → get_or ten i 0 ≡ i + 1
ten-at zero h = refl
ten-at (suc zero) h = refl
ten-at (suc (suc zero)) h = refl
ten-at (suc (suc (suc zero))) h = refl
ten-at (suc (suc (suc (suc zero)))) h = refl
ten-at (suc (suc (suc (suc (suc zero))))) h = refl
ten-at (suc (suc (suc (suc (suc (suc zero)))))) h = refl
ten-at (suc (suc (suc (suc (suc (suc (suc zero))))))) h = refl
ten-at (suc (suc (suc (suc (suc (suc (suc (suc zero)))))))) h = refl
ten-at (suc (suc (suc (suc (suc (suc (suc (suc (suc zero))))))))) h = refl
ten-at (suc (suc (suc (suc (suc (suc (suc (suc (suc (suc i)))))))))) h = absurd (omega arith)

ten-pass : (p : ℕ → Bool) → list_all p ten ≡ true → (d : ℕ) → IsBetween 1 10 d → p d ≡ true
ten-pass p all d within = elim (cases_Bool (p d)) [
  | inl good ↦ good
  | inr bad ↦
      let low = within.0 in
      let high = within.1 in
      let place : d - 1 < 10 = omega (arith, low, high) in
      let is : get_or ten (d - 1) 0 ≡ d = ten-at (d - 1) place ∙ omega (arith, low) in
      let no : false ≡ true = sym (list_all_at p ten (d - 1) 0 place (ap p is ∙ bad)) ∙ all in
      cc
]

module _ (db : Database) (filled : IsFilled db) (parents : parents_there db ≡ true) where
  cards-pass : list_all (card_has_parents db) (entries db.cards) ≡ true
  unfolding parents_there
  cards-pass = and-left (list_all (card_has_parents db) (entries db.cards)) (list_all (row_has_parents db) (entries db.rows)) parents

  rows-pass : list_all (row_has_parents db) (entries db.rows) ≡ true
  unfolding parents_there
  rows-pass = and-right (list_all (card_has_parents db) (entries db.cards)) (list_all (row_has_parents db) (entries db.rows)) parents

  -- a present card has its parents
  card-parents : (q : CardKey) → IsSome (get db.cards q) → (c : Card) × (card_has_parents db (q, c) ≡ true)
  card-parents q some =
      let (c, there) = value-of (get db.cards q) some in
      (c, passes card_key_cmp_total exact_cards (card_has_parents db) db.cards q c cards-pass there)

  pub are-cards : AreCards db.cards
  are-cards = record {
    keyed = filled.keyed;
    limits = filled.limits;
    ten_districts = λ w d some within.
        let (c, pass) = card-parents (card_key.Warehouse w) (then-some as_warehouse (get db.cards (card_key.Warehouse w)) some) in
        then-kind as_district db.cards (card_key.District w d) filled.keyed (district-kind w d) (ten-pass (λ d. has_card db.cards (card_key.District w d)) pass d within);
    warehouse_of_district = λ w d some.
        let (c, pass) = card-parents (card_key.District w d) (then-some as_district (get db.cards (card_key.District w d)) some) in
        then-kind as_warehouse db.cards (card_key.Warehouse w) filled.keyed (warehouse-kind w)
        (and-left (has_card db.cards (card_key.Warehouse w)) (has_own_rows db.rows (card_key.District w d)) pass);
    district_of_customer = λ w d n some.
        let (c, pass) = card-parents (card_key.Customer w d n) (then-some as_customer (get db.cards (card_key.Customer w d n)) some) in
        then-kind as_district db.cards (card_key.District w d) filled.keyed (district-kind w d) pass;
    warehouse_of_stock = λ w i some.
        let (c, pass) = card-parents (card_key.Stock w i) (then-some as_stock (get db.cards (card_key.Stock w i)) some) in
        then-kind as_warehouse db.cards (card_key.Warehouse w) filled.keyed (warehouse-kind w) (and-left (has_card db.cards (card_key.Warehouse w)) (has_card db.cards (card_key.Item i)) pass);
    item_of_stock = λ w i some.
        let (c, pass) = card-parents (card_key.Stock w i) (then-some as_stock (get db.cards (card_key.Stock w i)) some) in
        then-kind as_item db.cards (card_key.Item i) filled.keyed (item-kind i) (and-right (has_card db.cards (card_key.Warehouse w)) (has_card db.cards (card_key.Item i)) pass);
  }

  -- a present district has its rows
  own-rows : (w d : ℕ) → IsSome (district_card db.cards w d) → has_own_rows db.rows (card_key.District w d) ≡ true
  own-rows w d some =
      let (c, pass) = card-parents (card_key.District w d) (then-some as_district (get db.cards (card_key.District w d)) some) in
      and-right (has_card db.cards (card_key.Warehouse w)) (has_own_rows db.rows (card_key.District w d)) pass

  -- a present card has its row
  pub rows-there : (k : RowKey) → HasCard db.cards k → IsSome (get db.rows k)
  rows-there (key.Warehouse w) some = filled.there (key.Warehouse w) (card_key.Warehouse w) refl (then-some as_warehouse (get db.cards (card_key.Warehouse w)) some)
  rows-there (key.Customer w d n) some = filled.there (key.Customer w d n) (card_key.Customer w d n) refl (then-some as_customer (get db.cards (card_key.Customer w d n)) some)
  rows-there (key.Stock w i) some = filled.there (key.Stock w i) (card_key.Stock w i) refl (then-some as_stock (get db.cards (card_key.Stock w i)) some)
  rows-there (key.Order w d o) some = absurd some
  rows-there (key.NewOrder w d o) some = absurd some
  rows-there (key.OrderLine w d o n) some = absurd some
  rows-there (key.History n) some = absurd some
  rows-there (key.DistrictYtd w d) some = and-left (has_row db.rows (key.DistrictYtd w d)) (has_row db.rows (key.DistrictNext w d)) (own-rows w d some)
  rows-there (key.DistrictNext w d) some = and-right (has_row db.rows (key.DistrictYtd w d)) (has_row db.rows (key.DistrictNext w d)) (own-rows w d some)

  -- a present row has its parents
  row-parents : (k : RowKey) (x : Row) → get db.rows k ≡ Some x → row_has_parents db (k, x) ≡ true
  row-parents k x there = passes row_key_cmp_total exact_keys (row_has_parents db) db.rows k x rows-pass there

  district-card : (w d : ℕ) → has_card db.cards (card_key.District w d) ≡ true → IsSome (district_card db.cards w d)
  district-card w d some = then-kind as_district db.cards (card_key.District w d) filled.keyed (district-kind w d) some

  customer-card : (w d c : ℕ) → has_card db.cards (card_key.Customer w d c) ≡ true → IsSome (customer_card db.cards w d c)
  customer-card w d c some = then-kind as_customer db.cards (card_key.Customer w d c) filled.keyed (customer-kind w d c) some

  -- the row of an order's key is an order
  order-of : (w d o : ℕ) (x : Row) → get db.rows (key.Order w d o) ≡ Some x → HasOrder db.rows w d o
  order-of w d o x there = of-kind x there (filled.entries (key.Order w d o) x there)
    where
      of-kind : (x : Row) → get db.rows (key.Order w d o) ≡ Some x → IsLimited (key.Order w d o) x → HasOrder db.rows w d o
      of-kind (row.Order r) there h = (r, there)
      of-kind _ there h = absurd h

  -- an order of at least this many lines
  line-order : (w d o n : ℕ) → has_line n (order_row db.rows w d o) ≡ true → (r : OrderRow) × (get db.rows (key.Order w d o) ≡ Some (row.Order r)) × (n ≤ r.line_count)
  line-order w d o n line = at (get db.rows (key.Order w d o)) refl line
    where
      at : (x : Option Row) → get db.rows (key.Order w d o) ≡ x → has_line n (option_and_then as_order x) ≡ true → (r : OrderRow) × (get db.rows (key.Order w d o) ≡ Some (row.Order r)) × (n ≤ r.line_count)
      at (Some (row.Order r)) there line = (r, there, grind (arith, nat_tests))
      at _ there line = cc

  -- each row is sound
  pub entry : (k : RowKey) (x : Row) → get db.rows k ≡ Some x → IsLimited k x → IsEntry db.cards db.rows k x
  entry (key.Warehouse w) (row.Warehouse r) there h = (then-kind as_warehouse db.cards (card_key.Warehouse w) filled.keyed (warehouse-kind w) (filled.owned (key.Warehouse w) (card_key.Warehouse w) (row.Warehouse r) refl there), h)
  entry (key.Customer w d n) (row.Customer r) there h = (then-kind as_customer db.cards (card_key.Customer w d n) filled.keyed (customer-kind w d n) (filled.owned (key.Customer w d n) (card_key.Customer w d n) (row.Customer r) refl there), h)
  entry (key.Stock w i) (row.Stock r) there h = (then-kind as_stock db.cards (card_key.Stock w i) filled.keyed (stock-kind w i) (filled.owned (key.Stock w i) (card_key.Stock w i) (row.Stock r) refl there), h)
  entry (key.Order w d o) (row.Order r) there h =
      let district = has_card db.cards (card_key.District w d) in
      let customer = has_card db.cards (card_key.Customer w d r.customer) in
      let pass : (district && customer) ≡ true = row-parents (key.Order w d o) (row.Order r) there in
      record {
        number = h.0.order;
        district = district-card w d (and-left district customer pass);
        customer = customer-card w d r.customer (and-right district customer pass);
        entry = h.1.entry;
        carrier = h.1.carrier;
        line_count = h.1.line_count;
      }
  entry (key.NewOrder w d o) row.NewOrder there h =
      let (x, order_there) = value-of (get db.rows (key.Order w d o)) (row-parents (key.NewOrder w d o) row.NewOrder there) in
      order-of w d o x order_there
  entry (key.OrderLine w d o n) (row.OrderLine r) there h =
      let line = has_line n (order_row db.rows w d o) in
      let stock = has_card db.cards (card_key.Stock r.supply r.item) in
      let pass : (line && stock) ≡ true = row-parents (key.OrderLine w d o n) (row.OrderLine r) there in
      let (order, order_there, few) = line-order w d o n (and-left line stock pass) in
      record {
        order = order;
        has_order = order_there;
        number = (h.1.number.0, few);
        stock = then-kind as_stock db.cards (card_key.Stock r.supply r.item) filled.keyed (stock-kind r.supply r.item) (and-right line stock pass);
        delivery = h.1.delivery;
        quantity = h.1.quantity;
        amount = h.1.amount;
        district_info = h.1.district_info;
      }
  entry (key.History n) (row.History r) there h =
      let customer = has_card db.cards (card_key.Customer r.customer_warehouse r.customer_district r.customer) in
      let district = has_card db.cards (card_key.District r.warehouse r.district) in
      let pass : (customer && district) ≡ true = row-parents (key.History n) (row.History r) there in
      record {
        number = h.number;
        customer = customer-card r.customer_warehouse r.customer_district r.customer (and-left customer district pass);
        district = district-card r.warehouse r.district (and-right customer district pass);
        date = h.date;
        amount = h.amount;
        text = h.text;
      }
  entry (key.DistrictYtd w d) (row.DistrictYtd r) there h = (district-card w d (row-parents (key.DistrictYtd w d) (row.DistrictYtd r) there), h)
  entry (key.DistrictNext w d) (row.DistrictNext r) there h = (district-card w d (row-parents (key.DistrictNext w d) (row.DistrictNext r) there), h)
  entry _ _ there h = absurd h

-- ---- conditions
-- the check of condition 1, at a look-up
first-at : (rows : Rows) (w : ℕ) (o : Option Row) → ((r : Row) → o ≡ Some r → ytd_agrees rows (key.Warehouse w, r) ≡ true) → IfSome (option_and_then row_as_warehouse o) (λ r. r.ytd ≡ total (district_share w) rows)
first-at rows w None pass = tt
first-at rows w (Some (row.Warehouse r)) pass = (Decides-int_eq r.ytd (total (district_share w) rows)).0 (pass (row.Warehouse r) refl)
first-at rows w (Some _) pass = tt

first-condition : (rows : Rows) → ytds_agree rows ≡ true → Condition1 rows
unfolding ytds_agree
first-condition rows ytds w = first-at rows w (get rows (key.Warehouse w)) (λ r there. passes row_key_cmp_total exact_keys (ytd_agrees rows) rows (key.Warehouse w) r ytds there)

pub is-sound : (db : Database) → IsFilled db → parents_there db ≡ true → ytds_agree db.rows ≡ true → next_orders_agree db.rows ≡ true → spans_agree db.rows ≡ true → line_counts_agree db.rows ≡ true → IsSound db
is-sound db filled parents ytds nexts spans lines = record {
  cards = are-cards db filled parents;
  there = rows-there db filled parents;
  entries = λ k x there. entry db filled parents k x there (filled.entries k x there);
  condition_1 = first-condition db.rows ytds;
  districts = consistent db.rows nexts spans lines;
}
