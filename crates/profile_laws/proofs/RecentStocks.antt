-- The stocks that a stock level reads are those of the lines of the district's last twenty orders.
use Rattle.std.proofs.Common.{◌≡◌, ◌≤◌, ◌<◌, ◌+◌, ℕ, zero, suc, List, [], ◌∷◌, Option, Some, None, inl, inr, refl, sym, ap, subst, ◌∙◌, arith}
use Rattle.std.proofs.lemmas.Bool.{cases_eq}
use Rattle.serializability.specs.Footprints.{Has}
use Rattle.serializability.proofs.Footprints.{Has-append, Has-behind, Has-either}
use Rattle.catalog.specs.Lookups.{stock_card}
use Rattle.catalog.specs.declared.card.StockCard.{StockCard}
use Rattle.requests.specs.declared.request.StockLevel.{StockLevel}
use Rattle.tpcc_rows.specs.Rows.{order_line_row}
use Rattle.tpcc_rows.specs.declared.granule.Granule.{Granule}
use Rattle.tpcc_rows.specs.declared.row.DistrictNextRow.{DistrictNextRow}
use Rattle.tpcc_rows.specs.declared.row.OrderLineRow.{OrderLineRow}
use Rattle.tpcc_model.specs.Database.{Database}
use Rattle.tpcc_model.specs.Touches.{item_touch, line_touch, lines_touch, orders_touch, recent_touch}

pub item_writes : (p : StockLevel) (item : ℕ) (card : Option StockCard) (g : Granule) → Has (item_touch p item card).writes g → ⊥
item_writes p item None g h = h
item_writes p item (Some card) g h = h

module _ (db : Database) (p : StockLevel) where
  abbrev line_at : ℕ → ℕ → Option OrderLineRow
  line_at o n = order_line_row db.rows p.warehouse p.district o n

  -- the stock of an item is read
  abbrev pub IsItemRead : ℕ → Granule → Type 0
  IsItemRead item g = Has (item_touch p item (stock_card db.cards p.warehouse item)).reads g

  -- it is that of a line's item, and the line's number is this one at most
  pub record IsLineRead (o n : ℕ) (g : Granule) : Type 0 where
    pub number : ℕ
    pub first : 1 ≤ number
    pub last : number ≤ n
    pub line : OrderLineRow
    pub there : line_at o number ≡ Some line
    pub read : IsItemRead line.item g

  -- it is that of a line of one of these orders
  pub record IsOrderRead (first count : ℕ) (g : Granule) : Type 0 where
    pub order : ℕ
    pub from : first ≤ order
    pub below : order < first + count
    pub line : IsLineRead order 15 g

  -- ---- lines
  line_back : (o n : ℕ) (line : Option OrderLineRow) (g : Granule) → line_at o (suc n) ≡ line → Has (line_touch db.cards p line).reads g → IsLineRead o (suc n) g
  line_back o n None g is h = absurd h
  line_back o n (Some line) g is h = record { number = suc n; first = omega arith; last = omega arith; line = line; there = is; read = h }

  lines_back : (o n : ℕ) (g : Granule) → Has (lines_touch db p o n).reads g → IsLineRead o n g
  unfolding lines_touch
  lines_back o zero g h = absurd h
  lines_back o (suc n) g h = elim (Has-either (lines_touch db p o n).reads _ g h) [
    | inl before ↦
        let is = lines_back o n g before in
        let last : is.number ≤ n = is.last in
        record { number = is.number; first = is.first; last = omega (arith, last); line = is.line; there = is.there; read = is.read }
    | inr here ↦ line_back o n (line_at o (suc n)) g refl here
  ]

  lines_on : (o n : ℕ) (g : Granule) → IsLineRead o n g → Has (lines_touch db p o n).reads g
  unfolding lines_touch
  lines_on o zero g is = (let low : 1 ≤ is.number = is.first in let high : is.number ≤ 0 = is.last in absurd (omega (arith, low, high)))
  lines_on o (suc n) g is =
      let number : ℕ = is.number in
      let last : number ≤ suc n = is.last in
      elim (cases_eq number (suc n)) [
        | inl same ↦
            let there : line_at o (suc n) ≡ Some is.line = ap (line_at o) (sym same) ∙ is.there in
            Has-behind (lines_touch db p o n).reads _ g (subst (λ (line : Option OrderLineRow). Has (line_touch db.cards p line).reads g) (sym there) is.read)
        | inr other ↦
            Has-append (lines_touch db p o n).reads _ g (lines_on o n g (record { number = number; first = is.first; last = omega (arith, last, other); line = is.line; there = is.there; read = is.read }))
      ]

  line_writes : (line : Option OrderLineRow) (g : Granule) → Has (line_touch db.cards p line).writes g → ⊥
  line_writes None g h = h
  line_writes (Some line) g h = item_writes p line.item (stock_card db.cards p.warehouse line.item) g h

  lines_writes : (o n : ℕ) (g : Granule) → Has (lines_touch db p o n).writes g → ⊥
  unfolding lines_touch
  lines_writes o zero g h = h
  lines_writes o (suc n) g h = elim (Has-either (lines_touch db p o n).writes _ g h) [ inl before ↦ lines_writes o n g before | inr here ↦ line_writes (line_at o (suc n)) g here ]

  -- ---- orders
  pub orders_back : (first count : ℕ) (g : Granule) → Has (orders_touch db p first count).reads g → IsOrderRead first count g
  unfolding orders_touch
  orders_back first zero g h = absurd h
  orders_back first (suc count) g h = elim (Has-either (orders_touch db p first count).reads _ g h) [
    | inl before ↦
        let is = orders_back first count g before in
        let below : is.order < first + count = is.below in
        record { order = is.order; from = is.from; below = omega (arith, below); line = is.line }
    | inr here ↦ record { order = first + count; from = omega arith; below = omega arith; line = lines_back (first + count) 15 g here }
  ]

  pub orders_on : (first count : ℕ) (g : Granule) → IsOrderRead first count g → Has (orders_touch db p first count).reads g
  unfolding orders_touch
  orders_on first zero g is = (let low : first ≤ is.order = is.from in let high : is.order < first + 0 = is.below in absurd (omega (arith, low, high)))
  orders_on first (suc count) g is =
      let order : ℕ = is.order in
      let below : order < first + suc count = is.below in
      elim (cases_eq order (first + count)) [
        | inl same ↦ Has-behind (orders_touch db p first count).reads _ g (lines_on (first + count) 15 g (subst (λ o. IsLineRead o 15 g) same is.line))
        | inr other ↦ Has-append (orders_touch db p first count).reads _ g (orders_on first count g (record { order = order; from = is.from; below = omega (arith, below, other); line = is.line }))
      ]

  orders_writes : (first count : ℕ) (g : Granule) → Has (orders_touch db p first count).writes g → ⊥
  unfolding orders_touch
  orders_writes first zero g h = h
  orders_writes first (suc count) g h = elim (Has-either (orders_touch db p first count).writes _ g h) [ inl before ↦ orders_writes first count g before | inr here ↦ lines_writes (first + count) 15 g here ]

  -- no stock is written
  pub recent_writes : (district : Option DistrictNextRow) (g : Granule) → Has (recent_touch db p district).writes g → ⊥
  recent_writes None g h = h
  recent_writes (Some district) g h = orders_writes _ _ g h
