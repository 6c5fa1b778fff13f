-- New rows of stocks, put in turn.
use Rattle.std.proofs.Common.{◌≡◌, ◌≢◌, ◌<◌, ◌+◌, ◌==◌, ◌&&◌, inl, inr, ℕ, suc, cond, Bool, true, false, List, [], ◌∷◌, ◌++◌, take, drop, get_or, length, Option, Some, refl, sym, ap, ap₂, ◌∙◌, add-one, arith}
use Rattle.std.proofs.lemmas.Bool.{cases_Bool}
use Rattle.std.proofs.lemmas.Bool.Decides.{nat_tests}
use Rattle.std.proofs.lemmas.List.{take_more}
use Rattle.std.proofs.Math.Seq.{drop-cons}
use Rattle.std.specs.FinMap.{get, insert}
use Rattle.std.specs.Option.{option_map}
use Rattle.tpcc_rows.specs.RowMap.{Changes}
use Rattle.tpcc_rows.specs.declared.key.RowKey.{RowKey}
use Rattle.tpcc_rows.specs.declared.key.RowKey.TheVariants as key
use Rattle.tpcc_rows.specs.declared.row.Row.{Row}
use Rattle.tpcc_rows.specs.declared.row.Row.TheVariants as row
use Rattle.tpcc_rows.specs.declared.row.StockRow.{StockRow}
use Rattle.tpcc_rows.proofs.Keys.{row_key_cmp_total, exact_keys}
use Rattle.tpcc_rows.proofs.Singles.{apart, here}
use Rattle.transactions.specs.NewOrderParts.{stock_changes, with_stocks}
use Rattle.transactions.specs.declared.new_order.NewStock.{NewStock}

abbrev pub key_of : NewStock → RowKey
key_of stock = key.Stock stock.warehouse stock.item

abbrev pub with_stock : NewStock → Changes → Changes
with_stock stock changes = insert changes (key_of stock) (Some (row.Stock stock.row))

-- one stock more
pub with_stocks-more : (stocks : List NewStock) (stock : NewStock) (m : Changes) → with_stocks (stocks ++ stock ∷ []) m ≡ insert (with_stocks stocks m) (key.Stock stock.warehouse stock.item) (Some (row.Stock stock.row))
with_stocks-more [] stock m = refl
with_stocks-more (first ∷ stocks) stock m = with_stocks-more stocks stock (with_stock first m)

-- for tactics
pub ruleset one_more = (with_stocks-more)

-- one stock less to put
pub with_stocks-drop : (stocks : List NewStock) (i : ℕ) (stock : NewStock) → i < length stocks → stock ≡ get_or stocks i stock → (m : Changes) → with_stocks (drop (i + 1) stocks) (with_stock stock m) ≡ with_stocks (drop i stocks) m
with_stocks-drop stocks i stock below is m =
    let here : drop i stocks ≡ stock ∷ drop (suc i) stocks = drop-cons stocks i stock below ∙ ap (λ (x : NewStock). x ∷ drop (suc i) stocks) (sym is) in
    ap (λ k. with_stocks (drop k stocks) (with_stock stock m)) (add-one i) ∙ sym (ap (λ (xs : List NewStock). with_stocks xs m) here)

-- ---- what stands at a stock's key
abbrev pub change_of : Option StockRow → Option (Option Row)
change_of found = option_map (λ new. Some (row.Stock new)) found

module _ (stocks : List NewStock) (i : ℕ) (stock : NewStock) (below : i < length stocks) (is : stock ≡ get_or stocks i stock) where
  one_later : stock_changes (take (i + 1) stocks) ≡ with_stock stock (stock_changes (take i stocks))
  one_later = ap stock_changes (take_more stocks i stock below ∙ ap (λ (x : NewStock). take i stocks ++ x ∷ []) (sym is)) ∙ with_stocks-more (take i stocks) stock _

  -- the stock's own, and what stood at another's
  pub stands_at : (w item : ℕ) → get (stock_changes (take (i + 1) stocks)) (key.Stock w item) ≡ cond ((stock.warehouse == w) && (stock.item == item)) (Some (Some (row.Stock stock.row))) (get (stock_changes (take i stocks)) (key.Stock w item))
  stands_at w item =
      let before = stock_changes (take i stocks) in
      let new = Some (row.Stock stock.row) in
      ap (λ (m : Changes). get m (key.Stock w item)) one_later
      ∙ elim (cases_Bool ((stock.warehouse == w) && (stock.item == item))) [
        | inl same ↦
            let its_warehouse : stock.warehouse ≡ w = grind (arith, nat_tests) in
            let its_item : stock.item ≡ item = grind (arith, nat_tests) in
            ap (λ (k : RowKey). get (insert before (key_of stock) new) k) (sym (ap₂ (λ v j. key.Stock v j) its_warehouse its_item))
            ∙ here row_key_cmp_total exact_keys before (key_of stock) new ∙ sym (ap (λ b. cond b (Some new) (get before (key.Stock w item))) same)
        | inr other ↦
            let differs : key.Stock w item ≢ key_of stock = λ e. (
            let its_warehouse : stock.warehouse ≡ w = cc in
            let its_item : stock.item ≡ item = cc in
            grind (arith, nat_tests)
            ) in
            apart row_key_cmp_total exact_keys before (key_of stock) new (key.Stock w item) differs ∙ sym (ap (λ b. cond b (Some new) (get before (key.Stock w item))) other)
      ]

  -- a search that finds the stock, or finds what was found before
  module _ (w item : ℕ) (same : Bool) (is_same : same ≡ ((stock.warehouse == w) && (stock.item == item))) (found : Option StockRow) where
    pub found_here : same ≡ true → found ≡ Some stock.row → change_of found ≡ get (stock_changes (take (i + 1) stocks)) (key.Stock w item)
    found_here is_its its = ap change_of its ∙ sym (stands_at w item ∙ ap (λ b. cond b (Some (Some (row.Stock stock.row))) (get (stock_changes (take i stocks)) (key.Stock w item))) (sym is_same ∙ is_its))

    pub found_before : (before : Option StockRow) → change_of before ≡ get (stock_changes (take i stocks)) (key.Stock w item) → same ≡ false → found ≡ before → change_of found ≡ get (stock_changes (take (i + 1) stocks)) (key.Stock w item)
    found_before before stood is_other its = ap change_of its ∙ stood ∙ sym (stands_at w item ∙ ap (λ b. cond b (Some (Some (row.Stock stock.row))) (get (stock_changes (take i stocks)) (key.Stock w item))) (sym is_same ∙ is_other))
