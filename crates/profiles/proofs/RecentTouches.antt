-- The stocks of one line more, and of one order more.
use Rattle.std.proofs.Common.{◌≡◌, ◌≤◌, ◌+◌, ◌-◌, ℕ, suc, Option, sym, ap, ap₂, ◌∙◌, add-one, arith}
use Rattle.serializability.specs.Footprints.{Footprint, joined}
use Rattle.requests.specs.declared.request.StockLevel.{StockLevel}
use Rattle.tpcc_model.specs.Database.{Database}
use Rattle.tpcc_model.specs.Touches.{line_touch, lines_touch, orders_touch}
use Rattle.tpcc_rows.specs.Rows.{order_line_row}
use Rattle.tpcc_rows.specs.declared.granule.Granule.{Granule}
use Rattle.tpcc_rows.specs.declared.row.OrderLineRow.{OrderLineRow}
use Rattle.profiles.proofs.Joining.{joined-joined, joined-untouched}

module _ (db : Database) (p : StockLevel) (start : Footprint Granule) where
  pub no_line : (o : ℕ) → start ≡ joined start (lines_touch db p o 0)
  unfolding lines_touch
  no_line o = sym (joined-untouched start)

  pub line_more : (o n number : ℕ) → number ≡ n + 1 → (line : Option OrderLineRow) → line ≡ order_line_row db.rows p.warehouse p.district o number → (so_far more : Footprint Granule)
      → so_far ≡ joined start (lines_touch db p o n) → more ≡ joined so_far (line_touch db.cards p line) → more ≡ joined start (lines_touch db p o (n + 1))
  unfolding lines_touch
  line_more o n number same line is so_far more before one =
      one ∙ ap₂ (λ (f : Footprint Granule) (l : Option OrderLineRow). joined f (line_touch db.cards p l)) before (is ∙ ap (order_line_row db.rows p.warehouse p.district o) (same ∙ add-one n))
      ∙ joined-joined start (lines_touch db p o n) (line_touch db.cards p (order_line_row db.rows p.warehouse p.district o (suc n)))
      ∙ sym (ap (λ k. joined start (lines_touch db p o k)) (add-one n))

  pub no_order : (first n : ℕ) → n ≡ 0 → start ≡ joined start (orders_touch db p first n)
  unfolding orders_touch
  no_order first n none = sym (joined-untouched start) ∙ sym (ap (λ k. joined start (orders_touch db p first k)) none)

  pub order_more : (first o number : ℕ) → number ≡ o → first ≤ o → (so_far more : Footprint Granule) → so_far ≡ joined start (orders_touch db p first (o - first)) → more ≡ joined so_far (lines_touch db p number 15)
      → more ≡ joined start (orders_touch db p first (o + 1 - first))
  unfolding orders_touch
  order_more first o number same from so_far more before one =
      let n : o + 1 - first ≡ suc (o - first) = omega arith in
      let at : number ≡ first + (o - first) = omega (arith, same) in
      one ∙ ap₂ (λ (f : Footprint Granule) (k : ℕ). joined f (lines_touch db p k 15)) before at
      ∙ joined-joined start (orders_touch db p first (o - first)) (lines_touch db p (first + (o - first)) 15)
      ∙ sym (ap (λ k. joined start (orders_touch db p first k)) n)
