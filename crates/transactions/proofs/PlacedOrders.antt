-- A new order's changes, put in the order of their keys, are those that the definition makes line by line.
use Rattle.std.proofs.Common.{◌≡◌, ◌≢◌, ◌+◌, ℕ, List, [], ◌∷◌, ◌++◌, map, Option, Some, None, Result, Ok, Err, refl, sym, ap, ap₂, ◌∙◌, append_assoc, append-nil}
use Rattle.std.proofs.lemmas.List.{map-append}
use Rattle.std.specs.FinMap.{empty, get, insert}
use Rattle.std.specs.Option.{option_and_then}
use Rattle.serializability.proofs.Changes.{apply-apply}
use Rattle.requests.specs.declared.request.NewOrder.{NewOrder}
use Rattle.requests.specs.declared.reply.LineReply.{LineReply}
use Rattle.requests.specs.declared.reply.RequestRefusal.{RequestRefusal}
use Rattle.tpcc_laws.proofs.Doing.{ok-by, ok_or-ok, between-some}
use Rattle.tpcc_model.specs.NewOrders.{LineCards, OrderSoFar, brand_of, line_amount, line_done, lines_done, opened, order_line_of, ordered_stock}
use Rattle.tpcc_model.specs.Staging.{◌>>=◌, known}
use Rattle.tpcc_rows.specs.Changing.{after}
use Rattle.tpcc_rows.specs.RowKinds.{as_stock}
use Rattle.tpcc_rows.specs.RowMap.{Changes, Rows}
use Rattle.tpcc_rows.specs.Rows.{stock_row}
use Rattle.tpcc_rows.specs.declared.key.RowKey.{RowKey}
use Rattle.tpcc_rows.specs.declared.key.RowKey.TheVariants as key
use Rattle.tpcc_rows.specs.declared.row.Row.{Row}
use Rattle.tpcc_rows.specs.declared.row.Row.TheVariants as row
use Rattle.tpcc_rows.specs.declared.row.DistrictNextRow.{DistrictNextRow}
use Rattle.tpcc_rows.specs.declared.row.StockRow.{StockRow}
use Rattle.tpcc_rows.proofs.Changes.{chosen, get-after}
use Rattle.tpcc_rows.proofs.Keys.{row_key_cmp_total, exact_keys}
use Rattle.tpcc_rows.proofs.Singles.{apart}
use Rattle.transactions.specs.NewOrderParts.{amount_of, stock_done, stocks_done, with_lines, with_order}

-- two keys may be put in either order
swapped : (m : Changes) (j k : RowKey) (x y : Option Row) → j ≢ k → insert (insert m j x) k y ≡ insert (insert m k y) j x
swapped m j k x y n = apply-apply row_key_cmp_total exact_keys ((k, Some y) ∷ []) ((j, Some x) ∷ []) m ((n, tt), tt)

-- ---- the amounts
-- a line that isn't refused
amount-is : (line : LineCards) (amount : ℕ) → line_amount line ≡ Ok amount → amount_of line ≡ amount
unfolding line_amount
amount-is line amount h = (between-some 0 999999 (amount_of line) amount (ok_or-ok _ _ _ h)).0

-- OL_AMOUNT of each line that is answered
abbrev pub amounts_of : List LineReply → List ℕ
amounts_of replies = map (λ reply. reply.amount) replies

stock-amount : (p : NewOrder) (line : LineCards) (old : StockRow) (made more : OrderSoFar) → stock_done p line old made ≡ Ok more → amounts_of more.lines ≡ amounts_of made.lines ++ amount_of line ∷ []
unfolding stock_done
stock-amount p line old made more h =
    ok-by (ordered_stock p.warehouse line.ordered old) _ _ h λ stock es hs.
    ok-by (line_amount line) _ _ hs λ amount ea ha.
    let is : ◌≡◌ {A = OrderSoFar} (record {
      changes = insert made.changes (key.Stock line.ordered.supply line.ordered.item) (Some (row.Stock stock));
      lines = made.lines ++ (record { stock = stock.quantity; brand = brand_of line; amount = amount }) ∷ [];
    }) more = cc in
    ap (λ (z : OrderSoFar). amounts_of z.lines) (sym is)
    ∙ map-append (λ (reply : LineReply). reply.amount) made.lines ((record { stock = stock.quantity; brand = brand_of line; amount = amount }) ∷ [])
    ∙ ap (λ a. amounts_of made.lines ++ a ∷ []) (sym (amount-is line amount ea))

stocks-amounts : (rows : Rows) (p : NewOrder) (lines : List LineCards) (made last : OrderSoFar) → stocks_done rows p lines made ≡ Ok last → amounts_of last.lines ≡ amounts_of made.lines ++ map amount_of lines
stocks-amounts rows p [] made last h = (let is : made ≡ last = cc in ap (λ (z : OrderSoFar). amounts_of z.lines) (sym is) ∙ sym (append-nil (amounts_of made.lines)))
stocks-amounts rows p (line ∷ lines) made last h =
    ok-by (known (stock_row (after rows made.changes) line.ordered.supply line.ordered.item)) _ _ h λ old eo ho.
    ok-by (stock_done p line old made) _ _ ho λ more em hm.
    stocks-amounts rows p lines more last hm ∙ ap (λ ns. ns ++ map amount_of lines) (stock-amount p line old made more em) ∙ append_assoc (amounts_of made.lines) (amount_of line ∷ []) (map amount_of lines)

-- ---- changes beside those of the stocks
-- more changes, none of which is a stock's: they may be made after a stock is put, and leave what stands at its key
record IsBeside (F : Changes → Changes) : Type 0 where
  puts : (m : Changes) (w i : ℕ) (x : Option Row) → F (insert m (key.Stock w i) x) ≡ insert (F m) (key.Stock w i) x
  gets : (m : Changes) (w i : ℕ) → get (F m) (key.Stock w i) ≡ get m (key.Stock w i)

none-beside : IsBeside (λ m. m)
none-beside = record { puts = λ m w i x. refl; gets = λ m w i. refl }

more-beside : (F : Changes → Changes) (k : RowKey) (y : Option Row) → IsBeside F → ((w i : ℕ) → k ≢ key.Stock w i) → IsBeside (λ m. insert (F m) k y)
more-beside F k y b n = record {
  puts = λ m w i x. ap (λ (z : Changes). insert z k y) (b.puts m w i x) ∙ swapped (F m) (key.Stock w i) k x y (λ e. n w i (sym e));
  gets = λ m w i. apart row_key_cmp_total exact_keys (F m) k y (key.Stock w i) (λ e. n w i (sym e)) ∙ b.gets m w i;
}

module _ (rows : Rows) (p : NewOrder) (o : ℕ) where
  -- the changes F and the rows of the lines from n on, after the stocks
  abbrev finished : (Changes → Changes) → ℕ → List LineCards → OrderSoFar → Result OrderSoFar RequestRefusal
  finished F n lines made = Ok (record { changes = with_lines p o n lines (F made.changes); lines = made.lines })

  -- changes F and the rows of these lines may be made after the lines' stocks
  abbrev MayBeLast : ℕ → List LineCards → Type 0
  MayBeLast n lines =
      (F : Changes → Changes) → IsBeside F → (made : OrderSoFar) → lines_done rows p o n lines (record { changes = F made.changes; lines = made.lines }) ≡ (stocks_done rows p lines made >>= finished F n lines)

  module _ (n : ℕ) (line : LineCards) (lines : List LineCards) (rest : MayBeLast (n + 1) lines) (F : Changes → Changes) (b : IsBeside F) (made : OrderSoFar) where
    -- the definition is here, where the code, which keeps F for later, is at what is made
    abbrev start : OrderSoFar
    start = record { changes = F made.changes; lines = made.lines }

    abbrev stock_key : RowKey
    stock_key = key.Stock line.ordered.supply line.ordered.item

    abbrev line_key : RowKey
    line_key = key.OrderLine p.warehouse p.district o n

    abbrev line_row : ℕ → Option Row
    line_row amount = Some (row.OrderLine (order_line_of p line amount))

    abbrev with_reply : StockRow → ℕ → Changes → OrderSoFar
    with_reply stock amount changes = record { changes = changes; lines = made.lines ++ (record { stock = stock.quantity; brand = brand_of line; amount = amount }) ∷ [] }

    abbrev put_stock : StockRow → Changes → Changes
    put_stock stock changes = insert changes stock_key (Some (row.Stock stock))

    same_stock : stock_row (after rows start.changes) line.ordered.supply line.ordered.item ≡ stock_row (after rows made.changes) line.ordered.supply line.ordered.item
    same_stock =
        ap (option_and_then as_stock)
        (get-after rows start.changes stock_key ∙ ap (λ x. chosen x (get rows stock_key)) (b.gets made.changes line.ordered.supply line.ordered.item) ∙ sym (get-after rows made.changes stock_key))

    -- a line's stock and amount, and what comes then
    abbrev both : Result StockRow RequestRefusal → Result ℕ RequestRefusal → (StockRow → ℕ → Changes) → (OrderSoFar → Result OrderSoFar RequestRefusal) → Result OrderSoFar RequestRefusal
    both x y changes then =
        (do
          stock ← x
          amount ← y
          Ok (with_reply stock amount (changes stock amount))) >>= then

    by_results : (x : Result StockRow RequestRefusal) (y : Result ℕ RequestRefusal) → line_amount line ≡ y
        → both x y (λ stock amount. insert (put_stock stock start.changes) line_key (line_row amount)) (lines_done rows p o (n + 1) lines)
        ≡ (both x y (λ stock amount. put_stock stock made.changes) (stocks_done rows p lines) >>= finished F n (line ∷ lines))
    by_results (Err e) y is = refl
    by_results (Ok stock) (Err e) is = refl
    by_results (Ok stock) (Ok amount) is =
        ap (λ (z : Changes). lines_done rows p o (n + 1) lines (with_reply stock amount z)) (
        ap (λ a. insert (put_stock stock start.changes) line_key (line_row a)) (sym (amount-is line amount is))
        ∙ ap (λ (z : Changes). insert z line_key (line_row (amount_of line))) (sym (b.puts made.changes line.ordered.supply line.ordered.item (Some (row.Stock stock)))))
        ∙ rest (λ m. insert (F m) line_key (line_row (amount_of line))) (more-beside F line_key (line_row (amount_of line)) b (λ w i e. cc)) (with_reply stock amount (put_stock stock made.changes))

    by_stock : (s : Option StockRow) → (known s >>= λ old. line_done p o n line old start >>= lines_done rows p o (n + 1) lines) ≡ ((known s >>= λ old. stock_done p line old made >>= stocks_done rows p lines) >>= finished F n (line ∷ lines))
    unfolding line_done stock_done
    by_stock None = refl
    by_stock (Some old) = by_results (ordered_stock p.warehouse line.ordered old) (line_amount line) refl

    one-last : lines_done rows p o n (line ∷ lines) start ≡ (stocks_done rows p (line ∷ lines) made >>= finished F n (line ∷ lines))
    one-last = ap (λ s. known s >>= λ old. line_done p o n line old start >>= lines_done rows p o (n + 1) lines) same_stock ∙ by_stock (stock_row (after rows made.changes) line.ordered.supply line.ordered.item)

  lines-last : (n : ℕ) (lines : List LineCards) → MayBeLast n lines
  lines-last n [] = λ F b made. refl
  lines-last n (line ∷ lines) = λ F b made. one-last n line lines (lines-last (n + 1) lines) F b made

  -- a change that isn't of a line may be put after the lines
  put-last : (n : ℕ) (lines : List LineCards) (m : Changes) (k : RowKey) (x : Option Row) → ((i : ℕ) → k ≢ key.OrderLine p.warehouse p.district o i) → with_lines p o n lines (insert m k x) ≡ insert (with_lines p o n lines m) k x
  put-last n [] m k x other = refl
  put-last n (line ∷ lines) m k x other =
      let line_key = key.OrderLine p.warehouse p.district o n in
      let line_row = Some (row.OrderLine (order_line_of p line (amount_of line))) in
      ap (with_lines p o (n + 1) lines) (swapped m k line_key x line_row (other n)) ∙ put-last (n + 1) lines (insert m line_key line_row) k x other

  module _ (moment : ℕ) (next : DistrictNextRow) where
    abbrev next_key : RowKey
    next_key = key.DistrictNext p.warehouse p.district

    abbrev next_row : Option Row
    next_row = Some (row.DistrictNext next)

    abbrev opening : Changes → Changes
    opening m = with_order p moment o (insert m next_key next_row)

    opening-beside : IsBeside opening
    opening-beside =
        more-beside _ (key.NewOrder p.warehouse p.district o) (Some row.NewOrder)
        (more-beside _ (key.Order p.warehouse p.district o) _ (more-beside (λ m. m) next_key next_row none-beside (λ w i e. cc)) (λ w i e. cc)) (λ w i e. cc)

    -- what is put after the stocks, in the order of the keys
    abbrev in_key_order : List LineCards → Changes → Changes
    in_key_order lines m = insert (with_lines p o 1 lines (with_order p moment o m)) next_key next_row

    next-last : (lines : List LineCards) (m : Changes) → with_lines p o 1 lines (opening m) ≡ in_key_order lines m
    next-last lines m =
        ap (with_lines p o 1 lines) (
        ap (λ (z : Changes). insert z (key.NewOrder p.warehouse p.district o) (Some row.NewOrder)) (swapped m next_key (key.Order p.warehouse p.district o) next_row _ (λ e. cc))
        ∙ swapped _ next_key (key.NewOrder p.warehouse p.district o) next_row (Some row.NewOrder) (λ e. cc))
        ∙ put-last 1 lines (with_order p moment o m) next_key next_row (λ i e. cc)

    module _ (lines : List LineCards) (made : OrderSoFar) (none : made.changes ≡ empty) (no_lines : made.lines ≡ []) where
      opened-first : lines_done rows p o 1 lines (opened p moment o next) ≡ (stocks_done rows p lines made >>= finished opening 1 lines)
      unfolding opened
      opened-first = ap₂ (λ (z : Changes) (ls : List LineReply). lines_done rows p o 1 lines (record { changes = opening z; lines = ls })) (sym none) (sym no_lines) ∙ lines-last 1 lines opening opening-beside made

      pub placed-refused : (why : RequestRefusal) → stocks_done rows p lines made ≡ Err why → lines_done rows p o 1 lines (opened p moment o next) ≡ Err why
      placed-refused why h = opened-first ∙ ap (λ r. r >>= finished opening 1 lines) h

      pub placed-well : (last : OrderSoFar) → stocks_done rows p lines made ≡ Ok last → lines_done rows p o 1 lines (opened p moment o next) ≡ Ok (record { changes = in_key_order lines last.changes; lines = last.lines })
      placed-well last h = opened-first ∙ ap (λ r. r >>= finished opening 1 lines) h ∙ ap (λ (z : Changes). Ok (record { changes = z; lines = last.lines })) (next-last lines last.changes)

      pub placed-amounts : (last : OrderSoFar) → stocks_done rows p lines made ≡ Ok last → amounts_of last.lines ≡ map amount_of lines
      placed-amounts last h = stocks-amounts rows p lines made last h ∙ ap (λ (ls : List LineReply). amounts_of ls ++ map amount_of lines) no_lines
