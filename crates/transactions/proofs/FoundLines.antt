-- The lines of a new order with their cards, found in one pass, where the definition looks for all items before any stock.
use Rattle.std.proofs.Common.{◌≡◌, ◌&&◌, Bool, true, false, List, [], ◌∷◌, map, length, Option, Some, None, Result, Ok, Err, IfOk, refl, ap, sym, ◌∙◌}
use Rattle.std.proofs.lemmas.List.{length-map}
use Rattle.std.specs.List.{list_all}
use Rattle.std.specs.Option.{ok_or}
use Rattle.std.specs.Prelude.{is_ok, is_some}
use Rattle.catalog.specs.CardMap.{Cards}
use Rattle.catalog.specs.Lookups.{item_card, stock_card}
use Rattle.catalog.specs.declared.card.ItemCard.{ItemCard}
use Rattle.catalog.specs.declared.card.StockCard.{StockCard}
use Rattle.requests.specs.declared.reply.RequestRefusal.{RequestRefusal}
use Rattle.requests.specs.declared.reply.RequestRefusal.TheVariants.{ItemNotValid, UnknownKey}
use Rattle.requests.specs.declared.request.OrderedLine.{OrderedLine}
use Rattle.tpcc_model.specs.NewOrders.{LineCards, LineItem, found_item, found_lines, found_stock}
use Rattle.tpcc_model.specs.Staging.{◌>>=◌, for_each, known}
use Rattle.tpcc_rows.proofs.Singles.{and-left, and-right}
use Rattle.tpcc_laws.proofs.Doing.{ok-by}
use Rattle.tpcc_laws.proofs.FoundLines.{found_lines-length}
use Rattle.transactions.specs.Faults.{AnswersBy}
use Rattle.transactions.specs.NewOrderParts.{found_line}
use Rattle.transactions.specs.declared.fault.Fault.{Fault}

pub found_count : {X V : Type 0} (view : X → LineCards) (items : V → List X) (cards : Cards) (lines : List OrderedLine) (result : Result V Fault) → AnswersBy (λ found. map view (items found)) (found_lines cards lines) result
    → IfOk result (λ found. length (items found) ≡ length lines)
found_count view items cards lines (Ok found) done = sym (length-map (items found) view) ∙ found_lines-length cards lines (map view (items found)) done
found_count view items cards lines (Err fault) done = tt

-- ---- two stages for each of a list
module _ {A B C : Type 0} (f : A → Result B RequestRefusal) (g : B → Result C RequestRefusal) where
  abbrev both : A → Result C RequestRefusal
  both x = f x >>= g

  abbrev begin : A → Bool
  begin x = is_ok (f x)

  both-done : (xs : List A) (ys : List C) → for_each both xs ≡ Ok ys → (for_each f xs >>= for_each g) ≡ Ok ys
  both-done [] ys done = done
  both-done (x ∷ xs) ys done =
      ok-by (both x) _ _ done λ c ec hc.
      ok-by (for_each both xs) _ _ hc λ more em hm.
      ok-by (f x) g c ec λ b eb hb.
      ok-by (for_each f xs) (for_each g) more (both-done xs more em) λ bs es hs.
      ap (λ r. (r >>= λ y. for_each f xs >>= λ zs. Ok (y ∷ zs)) >>= for_each g) eb
      ∙ ap (λ r. (r >>= λ zs. Ok (b ∷ zs)) >>= for_each g) es
      ∙ ap (λ r. r >>= λ y. for_each g bs >>= λ zs. Ok (y ∷ zs)) hb
      ∙ ap (λ r. r >>= λ zs. Ok (c ∷ zs)) hs ∙ hm

  firsts : (xs : List A) → list_all begin xs ≡ true → (bs : List B) × (for_each f xs ≡ Ok bs)
  firsts [] all = ([], refl)
  firsts (x ∷ xs) all = at (firsts xs (and-right (begin x) (list_all begin xs) all)) (f x) refl
    where
      at : (rest : (bs : List B) × (for_each f xs ≡ Ok bs)) → (r : Result B RequestRefusal) → f x ≡ r → (bs : List B) × (for_each f (x ∷ xs) ≡ Ok bs)
      at rest (Ok b) e =
          (b ∷ rest.0, ap (λ r. r >>= λ y. for_each f xs >>= λ zs. Ok (y ∷ zs)) e ∙ ap (λ r. r >>= λ zs. Ok (b ∷ zs)) rest.1)
      at rest (Err why) e = let no : true ≡ false = sym (and-left (begin x) (list_all begin xs) all) ∙ ap is_ok e in cc

  as_rest : (r : Result (List C) RequestRefusal) (c : C) → is_ok (r >>= λ zs. Ok (c ∷ zs)) ≡ is_ok r
  as_rest (Ok cs) c = refl
  as_rest (Err why) c = refl

  -- the second stage refuses one
  second-refuses : (e : RequestRefusal) → ((b : B) (why : RequestRefusal) → g b ≡ Err why → why ≡ e) → (xs : List A) → list_all begin xs ≡ true → is_ok (for_each both xs) ≡ false
      → (for_each f xs >>= for_each g) ≡ Err e
  second-refuses e only [] all bad = cc
  second-refuses e only (x ∷ xs) all bad =
      let rest : list_all begin xs ≡ true = and-right (begin x) (list_all begin xs) all in
      at (firsts xs rest) (λ later. second-refuses e only xs rest later) (f x) refl
    where
      here : (b : B) (bs : List B) → f x ≡ Ok b → for_each f xs ≡ Ok bs → (for_each f (x ∷ xs) >>= for_each g) ≡ (g b >>= λ y. for_each g bs >>= λ zs. Ok (y ∷ zs))
      here b bs eb es = ap (λ r. (r >>= λ y. for_each f xs >>= λ zs. Ok (y ∷ zs)) >>= for_each g) eb ∙ ap (λ r. (r >>= λ zs. Ok (b ∷ zs)) >>= for_each g) es

      next : (bs : (bs : List B) × (for_each f xs ≡ Ok bs)) → (is_ok (for_each both xs) ≡ false → (for_each f xs >>= for_each g) ≡ Err e) → (b : B) → f x ≡ Ok b → (r : Result C RequestRefusal) → g b ≡ r
          → (for_each f (x ∷ xs) >>= for_each g) ≡ Err e
      next bs more b eb (Err why) ec =
          here b bs.0 eb bs.1 ∙ ap (λ r. r >>= λ y. for_each g bs.0 >>= λ zs. Ok (y ∷ zs)) ec ∙ ap (λ (w : RequestRefusal). Err w) (only b why ec)
      next bs more b eb (Ok c) ec =
          let later : is_ok (for_each both xs) ≡ false =
          sym (as_rest (for_each both xs) c)
          ∙ sym (ap (λ r. is_ok ((r >>= g) >>= λ y. for_each both xs >>= λ zs. Ok (y ∷ zs))) eb ∙ ap (λ r. is_ok (r >>= λ y. for_each both xs >>= λ zs. Ok (y ∷ zs))) ec) ∙ bad in
          here b bs.0 eb bs.1 ∙ ap (λ r. r >>= λ y. for_each g bs.0 >>= λ zs. Ok (y ∷ zs)) ec
          ∙ ap (λ r. r >>= λ zs. Ok (c ∷ zs)) (sym (ap (λ r. r >>= for_each g) bs.1) ∙ more later)

      at : (bs : (bs : List B) × (for_each f xs ≡ Ok bs)) → (is_ok (for_each both xs) ≡ false → (for_each f xs >>= for_each g) ≡ Err e) → (r : Result B RequestRefusal) → f x ≡ r → (for_each f (x ∷ xs) >>= for_each g) ≡ Err e
      at bs more (Ok b) eb = next bs more b eb (g b) refl
      at bs more (Err why) eb = let no : true ≡ false = sym (and-left (begin x) (list_all begin xs) all) ∙ ap is_ok eb in cc

  -- the first stage refuses one
  first-refuses : (e : RequestRefusal) → ((x : A) (why : RequestRefusal) → f x ≡ Err why → why ≡ e) → (xs : List A) → list_all begin xs ≡ false → for_each f xs ≡ Err e
  first-refuses e only [] all = cc
  first-refuses e only (x ∷ xs) all = at (λ rest. first-refuses e only xs rest) (f x) refl
    where
      at : (list_all begin xs ≡ false → for_each f xs ≡ Err e) → (r : Result B RequestRefusal) → f x ≡ r → for_each f (x ∷ xs) ≡ Err e
      at later (Ok b) eb =
          ap (λ r. r >>= λ y. for_each f xs >>= λ zs. Ok (y ∷ zs)) eb
          ∙ ap (λ r. r >>= λ zs. Ok (b ∷ zs)) (later (sym (ap (λ r. is_ok r && list_all begin xs) eb) ∙ all))
      at later (Err why) eb = ap (λ r. r >>= λ y. for_each f xs >>= λ zs. Ok (y ∷ zs)) eb ∙ ap (λ (w : RequestRefusal). Err w) (only x why eb)

-- ---- items and stocks
lacks-item : (cards : Cards) (line : OrderedLine) (why : RequestRefusal) → found_item cards line ≡ Err why → why ≡ ItemNotValid
unfolding found_item
lacks-item cards line why = at (item_card cards line.item)
  where
    at : (o : Option ItemCard) → ◌>>=◌ {B = LineItem} (ok_or o ItemNotValid) (λ item. Ok (record { ordered = line; item = item })) ≡ Err why → why ≡ ItemNotValid
    at (Some item) e = cc
    at None e = cc

lacks-stock : (cards : Cards) (line : LineItem) (why : RequestRefusal) → found_stock cards line ≡ Err why → why ≡ UnknownKey
unfolding found_stock
lacks-stock cards line why = at (stock_card cards line.ordered.supply line.ordered.item)
  where
    at : (o : Option StockCard) → ◌>>=◌ {B = LineCards} (known o) (λ stock. Ok (record { ordered = line.ordered; item = line.item; stock = stock })) ≡ Err why → why ≡ UnknownKey
    at (Some stock) e = cc
    at None e = cc

has-item : (cards : Cards) (line : OrderedLine) → is_ok (found_item cards line) ≡ is_some (item_card cards line.item)
unfolding found_item
has-item cards line = at (item_card cards line.item)
  where
    at : (o : Option ItemCard) → is_ok (◌>>=◌ {B = LineItem} (ok_or o ItemNotValid) (λ item. Ok (record { ordered = line; item = item }))) ≡ is_some o
    at (Some item) = refl
    at None = refl

have-items : (cards : Cards) (lines : List OrderedLine) → list_all (λ line. is_ok (found_item cards line)) lines ≡ list_all (λ line. is_some (item_card cards line.item)) lines
have-items cards [] = refl
have-items cards (line ∷ lines) =
    ap (λ b. b && list_all (λ l. is_ok (found_item cards l)) lines) (has-item cards line) ∙ ap (λ b. is_some (item_card cards line.item) && b) (have-items cards lines)

module _ (cards : Cards) (lines : List OrderedLine) where
  pub all-found : (found : List LineCards) → for_each (found_line cards) lines ≡ Ok found → found_lines cards lines ≡ Ok found
  unfolding found_lines
  all-found found done = both-done (found_item cards) (found_stock cards) lines found done

  pub no-item : list_all (λ line. is_some (item_card cards line.item)) lines ≡ false → found_lines cards lines ≡ Err ItemNotValid
  unfolding found_lines
  no-item lacks = ap (λ r. r >>= for_each (found_stock cards)) (first-refuses (found_item cards) (found_stock cards) ItemNotValid (lacks-item cards) lines (have-items cards lines ∙ lacks))

  pub no-stock : list_all (λ line. is_some (item_card cards line.item)) lines ≡ true → is_ok (for_each (found_line cards) lines) ≡ false → found_lines cards lines ≡ Err UnknownKey
  unfolding found_lines
  no-stock items lacks = second-refuses (found_item cards) (found_stock cards) UnknownKey (lacks-stock cards) lines (have-items cards lines ∙ items) lacks
