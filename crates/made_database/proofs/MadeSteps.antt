-- A database generated record by record.
use Rattle.std.proofs.Common.{◌≡◌, ◌∙◌, ℕ, suc, ◌+◌, ◌-◌, ◌≤◌, Bool, true, false, cond, Option, Some, None, IsSome, refl, sym, ap, ap₂, subst, inl, inr, arith}
use Rattle.std.specs.Cmp.{nat_cmp_is}
use Rattle.std.specs.Ordering.{nat_cmp, ordering_then}
use Rattle.std.specs.FinMap.{get, get-empty, insert}
use Rattle.std.specs.declared.cmp.Ordering.TheVariants.{Less, Equal}
use Rattle.std.proofs.lemmas.Bool.{cases_Bool}
use Rattle.std.proofs.lemmas.Cmp.{tied_itself}
use Rattle.catalog.specs.CardMap.{card_key_cmp}
use Rattle.catalog.specs.declared.card.Card.{Card}
use Rattle.catalog.specs.declared.card.CardKey.{CardKey}
use Rattle.catalog.specs.declared.card.CardKey.TheVariants as card_key
use Rattle.catalog.proofs.CardKeys.{card_key_cmp_total, exact_cards}
use Rattle.tpcc_model.specs.Database.{Database}
use Rattle.tpcc_rows.specs.Limits.{between, is_between}
use Rattle.tpcc_rows.proofs.Singles.{apart, same_key}
use Rattle.made_database.specs.Made.{AreBefore, made_customer, made_district, made_item, made_stock, made_warehouse, with_each, with_records}
use Rattle.image_records.specs.Databases.{has_card}
use Rattle.loader.specs.Tables.{is_taken, no_tables, with_record}
use Rattle.image_records.specs.declared.image_record.ImageRecord.{ImageRecord}

-- ---- steps in turn
-- the tested number is the one in use
pub is_number : (low high n r : ℕ) (o : Option ℕ) → o ≡ between low high n → o ≡ Some r → r ≡ n
is_number low high n r o tested had = at (is_between low high n) (sym tested ∙ had)
  where
    at : (b : Bool) → cond b (Some n) None ≡ Some r → r ≡ n
    at true h = cc
    at false h = cc

pub each-none : (step : ℕ → Database → Database) (db : Database) → db ≡ with_each 0 step db
unfolding with_each
each-none step db = refl

each-next : (n : ℕ) (step : ℕ → Database → Database) (db : Database) → with_each (n + 1) step db ≡ step (n + 1) (with_each n step db)
unfolding with_each
each-next n step db = at (n + 1) (omega arith)
  where
    at : (m : ℕ) → m ≡ suc n → with_each m step db ≡ step m (with_each n step db)
    at m e = subst (λ k. with_each k step db ≡ step k (with_each n step db)) (sym e) refl

each-more : (n : ℕ) (step : ℕ → Database → Database) (start before now : Database) → 1 ≤ n → before ≡ with_each (n - 1) step start → now ≡ step n before → now ≡ with_each ((n + 1) - 1) step start
each-more n step start before now positive so_far one =
    let next : (n - 1) + 1 ≡ n = omega (arith, positive) in
    let same : (n + 1) - 1 ≡ n = omega arith in
    one ∙ ap (step n) so_far
    ∙ sym (ap (λ k. with_each k step start) (same ∙ sym next) ∙ each-next (n - 1) step start ∙ ap (λ k. step k (with_each (n - 1) step start)) next)

-- one more step, with its number
pub one_step : (n r : ℕ) (step : ℕ → Database → Database) (start before now : Database) → r ≡ n → 1 ≤ n → before ≡ with_each (n - 1) step start → now ≡ step r before → now ≡ with_each ((n + 1) - 1) step start
one_step n r step start before now e positive so_far one = each-more n step start before now positive so_far (one ∙ ap (λ m. step m before) e)

-- ---- keys in order
pub before-none : (k : CardKey) → AreBefore k no_tables
unfolding AreBefore
before-none k q some = let none : IsSome {T = Card} None = subst IsSome (get-empty card_key_cmp q) some in let bad : ⊥ = cc in absurd bad

-- also less than a later key
pub before-later : (k later : CardKey) (db : Database) → card_key_cmp k later ≡ Less → AreBefore k db → AreBefore later db
unfolding AreBefore
before-later k later db less before q some = card_key_cmp_total.trans q k later (before q some) less

fresh : (k : CardKey) (db : Database) → AreBefore k db → has_card db.cards k ≡ false
unfolding AreBefore
fresh k db before = elim (cases_Bool (has_card db.cards k)) [
  | inl there ↦
      let less : card_key_cmp k k ≡ Less = before k there in
      let same : card_key_cmp k k ≡ Equal = tied_itself card_key_cmp_total k in
      let bad : Less ≡ Equal = sym less ∙ same in
      cc
  | inr none ↦ none
]

one-more : (k next : CardKey) (c : Card) (db new : Database) → new.cards ≡ insert db.cards k c → card_key_cmp k next ≡ Less → AreBefore k db → AreBefore next new
unfolding AreBefore
one-more k next c db new more less before q some = elim (same_key card_key_cmp_total exact_cards q k) [
  | inl e ↦ subst (λ x. card_key_cmp x next ≡ Less) (sym e) less
  | inr n ↦
      let old : get new.cards q ≡ get db.cards q = ap (λ m. get m q) more ∙ apart card_key_cmp_total exact_cards db.cards k c q n in
      card_key_cmp_total.trans q k next (before q (subst IsSome old some)) less
]

rises : (n : ℕ) → nat_cmp n (n + 1) ≡ Less
rises n = sym (nat_cmp_is n (n + 1) Less (omega arith))

ties : (n : ℕ) → nat_cmp n n ≡ Equal
ties n = sym (nat_cmp_is n n Equal refl)

-- after the last key of a group
pub past_districts : (w r : ℕ) (db : Database) → r ≡ w → AreBefore (card_key.District r 11) db → AreBefore (card_key.District (w + 1) 1) db
past_districts w r db e before = before-later (card_key.District w 11) (card_key.District (w + 1) 1) db (ap (λ o. ordering_then o (nat_cmp 11 1)) (rises w)) (subst (λ n. AreBefore (card_key.District n 11) db) e before)

pub past_customers : (w d r c : ℕ) (db : Database) → r ≡ d → AreBefore (card_key.Customer w r c) db → AreBefore (card_key.Customer w (d + 1) 1) db
past_customers w d r c db e before = before-later (card_key.Customer w d c) (card_key.Customer w (d + 1) 1) db (ap₂ (λ o p. ordering_then o (ordering_then p (nat_cmp c 1))) (ties w) (rises d)) (subst (λ n. AreBefore (card_key.Customer w n c) db) e before)

pub past_ten_districts : (w r : ℕ) (db : Database) → r ≡ w → AreBefore (card_key.Customer r 11 1) db → AreBefore (card_key.Customer (w + 1) 1 1) db
past_ten_districts w r db e before = before-later (card_key.Customer w 11 1) (card_key.Customer (w + 1) 1 1) db (ap (λ o. ordering_then o (ordering_then (nat_cmp 11 1) (nat_cmp 1 1))) (rises w)) (subst (λ n. AreBefore (card_key.Customer n 11 1) db) e before)

pub past_stocks : (w r i : ℕ) (db : Database) → r ≡ w → AreBefore (card_key.Stock r i) db → AreBefore (card_key.Stock (w + 1) 1) db
past_stocks w r i db e before = before-later (card_key.Stock w i) (card_key.Stock (w + 1) 1) db (ap (λ o. ordering_then o (nat_cmp i 1)) (rises w)) (subst (λ n. AreBefore (card_key.Stock n i) db) e before)

-- the record of each number has the card of this key, and the keys ascend
pub record HasKeys (said : ℕ → ImageRecord) (k : ℕ → CardKey) : Type 0 where
  pub taken : (n : ℕ) (db : Database) → is_taken db (said n) ≡ has_card db.cards (k n)
  pub next : (n : ℕ) (db : Database) → AreBefore (k n) db → AreBefore (k (n + 1)) (with_record db (said n))

pub keys_of_warehouses : HasKeys made_warehouse (λ w. card_key.Warehouse w)
unfolding made_warehouse
keys_of_warehouses = record {
  taken = λ w db. refl;
  next = λ w db. one-more (card_key.Warehouse w) (card_key.Warehouse (w + 1)) _ db (with_record db (made_warehouse w)) refl (rises w);
}

pub keys_of_districts : (w : ℕ) → HasKeys (made_district w) (λ d. card_key.District w d)
unfolding made_district
keys_of_districts w = record {
  taken = λ d db. refl;
  next = λ d db. one-more (card_key.District w d) (card_key.District w (d + 1)) _ db (with_record db (made_district w d)) refl (ap₂ ordering_then (ties w) (rises d));
}

pub keys_of_customers : (w d : ℕ) → HasKeys (made_customer w d) (λ c. card_key.Customer w d c)
unfolding made_customer
keys_of_customers w d = record {
  taken = λ c db. refl;
  next = λ c db. one-more (card_key.Customer w d c) (card_key.Customer w d (c + 1)) _ db (with_record db (made_customer w d c)) refl (ap₂ ordering_then (ties w) (ap₂ ordering_then (ties d) (rises c)));
}

pub keys_of_stocks : (w : ℕ) → HasKeys (made_stock w) (λ i. card_key.Stock w i)
unfolding made_stock
keys_of_stocks w = record {
  taken = λ i db. refl;
  next = λ i db. one-more (card_key.Stock w i) (card_key.Stock w (i + 1)) _ db (with_record db (made_stock w i)) refl (ap₂ ordering_then (ties w) (rises i));
}

pub keys_of_items : HasKeys made_item (λ i. card_key.Item i)
unfolding made_item
keys_of_items = record {
  taken = λ i db. refl;
  next = λ i db. one-more (card_key.Item i) (card_key.Item (i + 1)) _ db (with_record db (made_item i)) refl (rises i);
}

-- ---- one more record
module _ {said : ℕ → ImageRecord} {k : ℕ → CardKey} (keys : HasKeys said k) where
  pub not_taken : (n : ℕ) (r : ImageRecord) (db : Database) → r ≡ said n → AreBefore (k n) db → is_taken db r ≡ false
  not_taken n r db e before = ap (is_taken db) e ∙ keys.taken n db ∙ fresh (k n) db before

  pub none_said : (db : Database) → AreBefore (k 1) db → (db ≡ with_records 0 said db) × AreBefore (k 1) db
  unfolding with_records
  none_said db before = (each-none (λ m db. with_record db (said m)) db, before)

  pub one_said : (n : ℕ) (r : ImageRecord) (start before now : Database) → r ≡ said n → 1 ≤ n → before ≡ with_records (n - 1) said start → AreBefore (k n) before → now ≡ with_record before r
      → (now ≡ with_records ((n + 1) - 1) said start) × AreBefore (k (n + 1)) now
  unfolding with_records
  one_said n r start before now e positive so_far low one =
      let is : now ≡ with_record before (said n) = one ∙ ap (with_record before) e in
      (each-more n (λ m db. with_record db (said m)) start before now positive so_far is, subst (AreBefore (k (n + 1))) (sym is) (keys.next n before low))
