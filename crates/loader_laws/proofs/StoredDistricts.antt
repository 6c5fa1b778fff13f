-- Consistent districts pass the checks.
use Rattle.std.proofs.Common.{◌≡◌, ◌∙◌, ◌+◌, ◌-◌, ◌==◌, ◌&&◌, ℕ, pos, true, Option, Some, None, unwrap_or, inl, inr, refl, sym, ap₂, arith}
use Rattle.std.specs.Option.{option_map_or}
use Rattle.std.specs.FinMap.{get}
use Rattle.std.proofs.lemmas.Bool.{eq-eqb}
use Rattle.std.proofs.lemmas.Bool.Decides.{Decides-int_eq}
use Rattle.tpcc_model.specs.Conditions.{IsConsistent, line_share, new_order_share, promised_share}
use Rattle.tpcc_model.specs.Database.{Database}
use Rattle.tpcc_model.specs.Soundness.{IsSound}
use Rattle.tpcc_rows.specs.Picks.{greatest, least}
use Rattle.tpcc_rows.specs.RowMap.{Rows}
use Rattle.tpcc_rows.specs.Totals.{total}
use Rattle.tpcc_rows.specs.declared.key.RowKey.{RowKey}
use Rattle.tpcc_rows.specs.declared.key.RowKey.TheVariants as key
use Rattle.tpcc_rows.specs.declared.row.Row.{Row}
use Rattle.tpcc_rows.specs.declared.row.Row.TheVariants as row
use Rattle.tpcc_rows.proofs.Keys.{exact_keys, row_key_cmp_total}
use Rattle.tpcc_rows.proofs.Singles.{all-pass}
use Rattle.image_checks.specs.Districts.{are_without_gap, line_count_agrees, line_counts_agree, new_order_numbers, next_order_agrees, next_orders_agree, order_numbers, span_agrees, spans_agree}
use Rattle.image_checks.proofs.DistrictLemmas.{greatest-of, least-of, new_orders, of-greatest, orders}

same-number : (m n : ℕ) → Some m ≡ Some n → m ≡ n
same-number m n h = cc

module _ (rows : Rows) (w d next : ℕ) (h : IsConsistent rows w d next) where
  -- ---- condition 2
  last-order-agrees : (unwrap_or (greatest (order_numbers rows w d)) 0 == next - 1) ≡ true
  last-order-agrees = by (greatest (order_numbers rows w d)) refl
    where
      by : (o : Option ℕ) → greatest (order_numbers rows w d) ≡ o → (unwrap_or o 0 == next - 1) ≡ true
      by None is = elim h.last_order.there [
        | inl none ↦ eq-eqb 0 (next - 1) (sym none)
        | inr has ↦
            let some : greatest (order_numbers rows w d) ≡ Some (next - 1) = of-greatest (orders rows w d) (next - 1) (record { there = has; above = h.last_order.above }) in
            let no : None ≡ Some (next - 1) = sym is ∙ some in
            let bad : ⊥ = cc in absurd bad
      ]
      by (Some n) is = elim h.last_order.there [
        | inl none ↦ let most = h.last_order.above n (greatest-of (orders rows w d) n is).there in eq-eqb n (next - 1) (omega (arith, none, most))
        | inr has ↦
            let some : greatest (order_numbers rows w d) ≡ Some (next - 1) = of-greatest (orders rows w d) (next - 1) (record { there = has; above = h.last_order.above }) in
            eq-eqb n (next - 1) (same-number n (next - 1) (sym is ∙ some))
      ]

  last-new_order-agrees : option_map_or (λ o. o == next - 1) (greatest (new_order_numbers rows w d)) true ≡ true
  last-new_order-agrees = by (greatest (new_order_numbers rows w d)) refl
    where
      by : (o : Option ℕ) → greatest (new_order_numbers rows w d) ≡ o → option_map_or (λ o. o == next - 1) o true ≡ true
      by None is = refl
      by (Some n) is =
          let last = h.last_new_order n (greatest-of (new_orders rows w d) n is).there in
          eq-eqb n (next - 1) (same-number n (next - 1) (sym is ∙ of-greatest (new_orders rows w d) (next - 1) last))

  -- ---- condition 3
  gap-agrees : are_without_gap (least (new_order_numbers rows w d)) (greatest (new_order_numbers rows w d)) (total (new_order_share w d) rows) ≡ true
  gap-agrees = by (least (new_order_numbers rows w d)) (greatest (new_order_numbers rows w d)) refl refl
    where
      by : (low high : Option ℕ) → least (new_order_numbers rows w d) ≡ low → greatest (new_order_numbers rows w d) ≡ high → are_without_gap low high (total (new_order_share w d) rows) ≡ true
      by None high low_is high_is = refl
      by (Some low) None low_is high_is = refl
      by (Some low) (Some high) low_is high_is = (Decides-int_eq (pos (high - low + 1)) (total (new_order_share w d) rows)).1
          (h.new_orders low high (least-of (new_orders rows w d) low low_is) (greatest-of (new_orders rows w d) high high_is))

module _ (db : Database) (sound : IsSound db) where
  next-order-passes : (k : RowKey) (x : Row) → get db.rows k ≡ Some x → next_order_agrees db.rows (k, x) ≡ true
  next-order-passes (key.DistrictNext w d) (row.DistrictNext r) there =
      let h = sound.districts w d r there in
      ap₂ (λ a b. a && b) (last-order-agrees db.rows w d r.next_order h) (last-new_order-agrees db.rows w d r.next_order h)
  next-order-passes _ _ there = refl

  span-passes : (k : RowKey) (x : Row) → get db.rows k ≡ Some x → span_agrees db.rows (k, x) ≡ true
  span-passes (key.DistrictNext w d) (row.DistrictNext r) there = gap-agrees db.rows w d r.next_order (sound.districts w d r there)
  span-passes _ _ there = refl

  line-count-passes : (k : RowKey) (x : Row) → get db.rows k ≡ Some x → line_count_agrees db.rows (k, x) ≡ true
  line-count-passes (key.DistrictNext w d) (row.DistrictNext r) there =
      (Decides-int_eq (total (promised_share w d) db.rows) (total (line_share w d) db.rows)).1 (sound.districts w d r there).lines
  line-count-passes _ _ there = refl

  pub next_orders-pass : next_orders_agree db.rows ≡ true
  unfolding next_orders_agree
  next_orders-pass = all-pass row_key_cmp_total exact_keys (next_order_agrees db.rows) db.rows next-order-passes

  pub spans-pass : spans_agree db.rows ≡ true
  unfolding spans_agree
  spans-pass = all-pass row_key_cmp_total exact_keys (span_agrees db.rows) db.rows span-passes

  pub line_counts-pass : line_counts_agree db.rows ≡ true
  unfolding line_counts_agree
  line_counts-pass = all-pass row_key_cmp_total exact_keys (line_count_agrees db.rows) db.rows line-count-passes
