-- A generated database is sound.
use Rattle.std.proofs.Common.{◌≡◌, ◌∙◌, ℕ, zero, suc, ◌*◌, ◌≤◌, ◌==◌, ◌&&◌, pos, Bool, true, Option, Some, None, IsSome, IfSome, refl, sym, ap, ap₂, subst, inl, inr, arith}
use Rattle.std.specs.List.{list_all}
use Rattle.std.specs.Prelude.{is_some}
use Rattle.std.specs.Option.{option_and_then}
use Rattle.std.specs.FinMap.{get, get-empty, insert, remove}
use Rattle.std.proofs.lemmas.Bool.{cases_Bool, cases_lt, eqb-true, eq-eqb}
use Rattle.std.proofs.lemmas.Int.{ints}
use Rattle.catalog.specs.CardMap.{card_key_cmp}
use Rattle.catalog.specs.declared.card.Card.{Card}
use Rattle.catalog.specs.declared.card.CardKey.{CardKey}
use Rattle.catalog.specs.declared.card.CardKey.TheVariants as card_key
use Rattle.catalog.proofs.CardKeys.{card_key_cmp_total, exact_cards}
use Rattle.tpcc_model.specs.Conditions.{Condition1, HasNewOrder, HasOrder, IsConsistent, district_share, line_share, promised_share}
use Rattle.tpcc_model.specs.Database.{Database}
use Rattle.tpcc_model.specs.Soundness.{IsSound}
use Rattle.tpcc_rows.specs.Limits.{IsBetween, ten}
use Rattle.tpcc_rows.specs.RowKinds.{as_warehouse}
use Rattle.tpcc_rows.specs.RowMap.{Rows, row_key_cmp}
use Rattle.tpcc_rows.specs.Totals.{share_at, total}
use Rattle.tpcc_rows.specs.declared.key.RowKey.{RowKey}
use Rattle.tpcc_rows.specs.declared.key.RowKey.TheVariants as key
use Rattle.tpcc_rows.specs.declared.row.DistrictNextRow.{DistrictNextRow}
use Rattle.tpcc_rows.specs.declared.row.Row.{Row}
use Rattle.tpcc_rows.specs.declared.row.Row.TheVariants as row
use Rattle.tpcc_rows.proofs.Keys.{exact_keys, row_key_cmp_total}
use Rattle.tpcc_rows.proofs.Singles.{all-pass, apart, entry_left, entry_of, gone, left, same_key}
use Rattle.tpcc_rows.proofs.Totals.{total-remove, total-zero}
use Rattle.image_checks.specs.Checks.{card_has_parents, parents_there, row_has_parents}
use Rattle.made_database.specs.Made.{made, made_customer, made_district, made_item, made_stock, made_warehouse, with_each, with_records}
use Rattle.image_records.specs.Databases.{has_card}
use Rattle.loader.specs.Tables.{no_tables, with_record}
use Rattle.image_records.specs.declared.image_record.ImageRecord.{ImageRecord}
use Rattle.image_records.specs.declared.image_record.ImageRecord.TheVariants as said
use Rattle.loader.proofs.Filled.{IsFilled, IsRead, filled-more, filled-none, some-here, some-insert}
use Rattle.made_database.proofs.MadeLimits.{customer-read, district-read, item-read, stock-read, warehouse-read}
use Rattle.loader.proofs.Sound.{are-cards, entry, rows-there}

-- ---- steps in turn
-- what each step keeps
each-keeps : (P : Database → Type 0) (n : ℕ) (step : ℕ → Database → Database) → ((k : ℕ) → IsBetween 1 n k → (db : Database) → P db → P (step k db)) → (db : Database) → P db → P (with_each n step db)
unfolding with_each
each-keeps P zero step keeps db h = h
each-keeps P (suc n) step keeps db h = keeps (suc n) (omega arith, omega arith) (with_each n step db) (each-keeps P n step (λ k within. keeps k (within.0, omega (arith, within.1))) db h)

-- what one step establishes and each keeps
each-reaches : (P : Database → Type 0) (n : ℕ) (step : ℕ → Database → Database) → ((k : ℕ) (db : Database) → P db → P (step k db)) → (k : ℕ) → IsBetween 1 n k → ((db : Database) → P (step k db)) → (db : Database) → P (with_each n step db)
unfolding with_each
each-reaches P zero step keeps k within brings db = absurd (omega (arith, within.0, within.1))
each-reaches P (suc n) step keeps k within brings db = elim (cases_lt k (suc n)) [
  | inl less ↦ keeps (suc n) (with_each n step db) (each-reaches P n step keeps k (within.0, omega (arith, less)) brings db)
  | inr more ↦
      let last : k ≡ suc n = omega (arith, more, within.1) in
      subst (λ m. P (step m (with_each n step db))) last (brings (with_each n step db))
]

records-keep : (P : Database → Type 0) (n : ℕ) (say : ℕ → ImageRecord) → ((k : ℕ) → IsBetween 1 n k → (db : Database) → P db → P (with_record db (say k))) → (db : Database) → P db → P (with_records n say db)
unfolding with_records
records-keep P n say keeps db h = each-keeps P n (λ k db. with_record db (say k)) keeps db h

records-reach : (P : Database → Type 0) (n : ℕ) (say : ℕ → ImageRecord) → ((k : ℕ) (db : Database) → P db → P (with_record db (say k))) → (k : ℕ) → IsBetween 1 n k → ((db : Database) → P (with_record db (say k))) → (db : Database) → P (with_records n say db)
unfolding with_records
records-reach P n say keeps k within brings db = each-reaches P n (λ k db. with_record db (say k)) keeps k within brings db

-- ---- present cards stay
abbrev HasKey : CardKey → Database → Type 0
HasKey q db = IsSome (get db.cards q)

module _ (q : CardKey) where
  stays : (db : Database) (r : ImageRecord) → HasKey q db → HasKey q (with_record db r)
  stays db (said.Warehouse c r) h = some-insert card_key_cmp_total exact_cards db.cards (card_key.Warehouse c.warehouse) _ q h
  stays db (said.District c) h = some-insert card_key_cmp_total exact_cards db.cards (card_key.District c.warehouse c.district) _ q h
  stays db (said.DistrictYtd w d r) h = h
  stays db (said.DistrictNext w d r) h = h
  stays db (said.WholeDistrict c ytd next) h = some-insert card_key_cmp_total exact_cards db.cards (card_key.District c.warehouse c.district) _ q h
  stays db (said.Customer c r) h = some-insert card_key_cmp_total exact_cards db.cards (card_key.Customer c.warehouse c.district c.customer) _ q h
  stays db (said.Item c) h = some-insert card_key_cmp_total exact_cards db.cards (card_key.Item c.item) _ q h
  stays db (said.Stock c r) h = some-insert card_key_cmp_total exact_cards db.cards (card_key.Stock c.warehouse c.item) _ q h
  stays db (said.Order w d o r) h = h
  stays db (said.NewOrder w d o) h = h
  stays db (said.OrderLine w d o n r) h = h
  stays db (said.History n r) h = h

  stays_in : (n : ℕ) (say : ℕ → ImageRecord) (db : Database) → HasKey q db → HasKey q (with_records n say db)
  stays_in n say db h = records-keep (HasKey q) n say (λ k within db h. stays db (say k) h) db h

-- ---- what there is
-- a row of a database of w warehouses
abbrev IsMadeRow : ℕ → RowKey → Row → Type 0
IsMadeRow w (key.Warehouse v) (row.Warehouse r) = r.ytd ≡ pos 30000000
IsMadeRow w (key.Customer v d c) (row.Customer r) = Unit {0}
IsMadeRow w (key.Stock v i) (row.Stock r) = Unit {0}
IsMadeRow w (key.DistrictYtd v d) (row.DistrictYtd r) = (IsBetween 1 w v × IsBetween 1 10 d) × (r.ytd ≡ pos 3000000)
IsMadeRow w (key.DistrictNext v d) (row.DistrictNext r) = (IsBetween 1 w v × IsBetween 1 10 d) × (r.next_order ≡ 1)
IsMadeRow w _ _ = ⊥

-- ---- sums, and checks of ten districts
ten-pass : (p : ℕ → Bool) → ((d : ℕ) → IsBetween 1 10 d → p d ≡ true) → list_all p ten ≡ true
ten-pass p h = rw (
  h 1 (omega arith, omega arith),
  h 2 (omega arith, omega arith),
  h 3 (omega arith, omega arith),
  h 4 (omega arith, omega arith),
  h 5 (omega arith, omega arith),
  h 6 (omega arith, omega arith),
  h 7 (omega arith, omega arith),
  h 8 (omega arith, omega arith),
  h 9 (omega arith, omega arith),
  h 10 (omega arith, omega arith),
) refl

no-share : (v d : ℕ) (x : Row) → (v ≡ d → ⊥) → (e : ℕ) → district_share d (key.DistrictYtd v e) x ≡ pos 0
no-share v d (row.DistrictYtd r) other e = elim (cases_Bool (v == d)) [
  | inl same ↦ absurd (other (eqb-true v d same))
  | inr apart ↦ rw apart refl
]
no-share v d _ other e = refl

-- a district's share, as generated
own-share : (w v d : ℕ) (x : Row) → IsMadeRow w (key.DistrictYtd v d) x → IsBetween 1 10 d × (district_share v (key.DistrictYtd v d) x ≡ pos 3000000)
own-share w v d (row.DistrictYtd r) is = (is.0.1, rw (eq-eqb v v refl) is.1)
own-share w v d _ is = absurd is

-- the sum over districts 1 to n of a warehouse, as generated
districts-total : (w n : ℕ) (rows : Rows) → ((d : ℕ) (x : Row) → get rows (key.DistrictYtd w d) ≡ Some x → IsBetween 1 n d × (district_share w (key.DistrictYtd w d) x ≡ pos 3000000))
    → ((d : ℕ) → IsBetween 1 n d → IsSome (get rows (key.DistrictYtd w d)))
    → total (district_share w) rows ≡ pos (n * 3000000)
districts-total w zero rows only there = total-zero (district_share w) rows none
  where
    none : (k : RowKey) (x : Row) → get rows k ≡ Some x → district_share w k x ≡ pos 0
    none (key.DistrictYtd v d) x found = no-share v w x (λ e. let bad = (only d x (subst (λ z. get rows (key.DistrictYtd z d) ≡ Some x) e found)).0 in omega (arith, bad.0, bad.1)) d
    none _ x found = refl
districts-total w (suc n) rows only there =
    let last = key.DistrictYtd w (suc n) in
    let fewer = remove rows last in
    let rest = districts-total w n fewer
    (λ d x found.
    let was = only d x (entry_left row_key_cmp_total exact_keys rows last (key.DistrictYtd w d) x found) in
    ((was.0.0, earlier d x found was.0.1), was.1))
    (λ d d_is. subst IsSome (sym (left row_key_cmp_total exact_keys rows last (key.DistrictYtd w d) (λ e. let same : d ≡ suc n = cc in omega (arith, same, d_is.1)))) (there d (d_is.0, omega (arith, d_is.1)))) in
    let sum = total-remove (district_share w) rows last in
    let own = at (get rows last) refl (there (suc n) (omega arith, omega arith)) in
    omega (arith, ints, sum, rest, own)
  where
    earlier : (d : ℕ) (x : Row) → get (remove rows (key.DistrictYtd w (suc n))) (key.DistrictYtd w d) ≡ Some x → d ≤ suc n → d ≤ n
    earlier d x found most = elim (cases_lt d (suc n)) [
      | inl less ↦ omega (arith, less)
      | inr more ↦
          let same : d ≡ suc n = omega (arith, more, most) in
          let gone_is = gone row_key_cmp_total exact_keys rows (key.DistrictYtd w (suc n)) in
          let no : None ≡ Some x = sym gone_is ∙ subst (λ z. get (remove rows (key.DistrictYtd w (suc n))) (key.DistrictYtd w z) ≡ Some x) same found in
          let bad : ⊥ = cc in absurd bad
    ]

    at : (o : Option Row) → get rows (key.DistrictYtd w (suc n)) ≡ o → IsSome o → share_at (district_share w (key.DistrictYtd w (suc n))) o ≡ pos 3000000
    at None found some = let bad : ⊥ = cc in absurd bad
    at (Some x) found some = (only (suc n) x found).1

module _ (w c i : ℕ) where
  -- a key of the generated database
  abbrev IsWithin : CardKey → Type 0
  IsWithin (card_key.Warehouse v) = IsBetween 1 w v
  IsWithin (card_key.District v d) = IsBetween 1 w v × IsBetween 1 10 d
  IsWithin (card_key.Customer v d b) = IsBetween 1 w v × IsBetween 1 10 d × IsBetween 1 c b
  IsWithin (card_key.Stock v j) = IsBetween 1 w v × IsBetween 1 i j
  IsWithin (card_key.Item j) = IsBetween 1 i j

  -- a district has both its rows
  abbrev HasRows : ℕ → ℕ → Rows → Type 0
  HasRows v d rows = IsSome (get rows (key.DistrictYtd v d)) × IsSome (get rows (key.DistrictNext v d))

  record IsMade (db : Database) : Type 0 where
    filled : IsFilled db
    within : (q : CardKey) → HasKey q db → IsWithin q
    rows : (k : RowKey) (x : Row) → get db.rows k ≡ Some x → IsMadeRow w k x
    own : (v d : ℕ) → HasKey (card_key.District v d) db → HasRows v d db.rows

  made-none : IsMade no_tables
  made-none = record {
    filled = filled-none;
    within = λ q some. let no : IsSome {T = Card} None = subst IsSome (get-empty card_key_cmp q) some in let bad : ⊥ = cc in absurd bad;
    rows = λ k x there. let no : None ≡ Some x = sym (get-empty row_key_cmp k) ∙ there in let bad : ⊥ = cc in absurd bad;
    own = λ v d some. let no : IsSome {T = Card} None = subst IsSome (get-empty card_key_cmp (card_key.District v d)) some in let bad : ⊥ = cc in absurd bad;
  }

  within-more : (db : Database) (k : CardKey) (b : Card) → IsWithin k → ((q : CardKey) → IsSome (get db.cards q) → IsWithin q) → (q : CardKey) → IsSome (get (insert db.cards k b) q) → IsWithin q
  within-more db k b new old q some = elim (same_key card_key_cmp_total exact_cards q k) [
    | inl e ↦ subst IsWithin (sym e) new
    | inr n ↦ old q (subst IsSome (apart card_key_cmp_total exact_cards db.cards k b q n) some)
  ]

  rows-more : (rows : Rows) (k : RowKey) (y : Row) → IsMadeRow w k y → ((l : RowKey) (x : Row) → get rows l ≡ Some x → IsMadeRow w l x) → (l : RowKey) (x : Row) → get (insert rows k y) l ≡ Some x → IsMadeRow w l x
  rows-more rows k y new old l x there = elim (entry_of row_key_cmp_total exact_keys rows k y l x there) [
    | inl e ↦ subst (λ z. IsMadeRow w z x) (sym e.0) (subst (λ z. IsMadeRow w k z) e.1 new)
    | inr was ↦ old l x was
  ]

  -- one more row
  kept-rows : (rows : Rows) (k : RowKey) (y : Row) (v d : ℕ) → HasRows v d rows → HasRows v d (insert rows k y)
  kept-rows rows k y v d h = (some-insert row_key_cmp_total exact_keys rows k y (key.DistrictYtd v d) h.0, some-insert row_key_cmp_total exact_keys rows k y (key.DistrictNext v d) h.1)

  -- one more card, and some rows
  own-more : (db : Database) (k : CardKey) (b : Card) (rows : Rows) → ((v d : ℕ) → card_key.District v d ≡ k → HasRows v d rows) → ((v d : ℕ) → HasRows v d db.rows → HasRows v d rows) → IsMade db
      → (v d : ℕ) → IsSome (get (insert db.cards k b) (card_key.District v d)) → HasRows v d rows
  own-more db k b rows new kept h v d some = elim (same_key card_key_cmp_total exact_cards (card_key.District v d) k) [
    | inl e ↦ new v d e
    | inr n ↦ kept v d (h.own v d (subst IsSome (apart card_key_cmp_total exact_cards db.cards k b (card_key.District v d) n) some))
  ]

  -- both rows of a district
  both-rows : (rows : Rows) (v d : ℕ) (ytd next : Row) → HasRows v d (insert (insert rows (key.DistrictYtd v d) ytd) (key.DistrictNext v d) next)
  both-rows rows v d ytd next = (
    some-insert row_key_cmp_total exact_keys (insert rows (key.DistrictYtd v d) ytd) (key.DistrictNext v d) next (key.DistrictYtd v d) (some-here row_key_cmp_total exact_keys rows (key.DistrictYtd v d) ytd),
    some-here row_key_cmp_total exact_keys (insert rows (key.DistrictYtd v d) ytd) (key.DistrictNext v d) next,
  )

  -- a generated record
  abbrev IsMadeRecord : ImageRecord → Type 0
  IsMadeRecord (said.Warehouse b r) = IsWithin (card_key.Warehouse b.warehouse) × IsMadeRow w (key.Warehouse b.warehouse) (row.Warehouse r)
  IsMadeRecord (said.WholeDistrict b ytd next) = IsWithin (card_key.District b.warehouse b.district)
      × IsMadeRow w (key.DistrictYtd b.warehouse b.district) (row.DistrictYtd ytd)
      × IsMadeRow w (key.DistrictNext b.warehouse b.district) (row.DistrictNext next)
  IsMadeRecord (said.Customer b r) = IsWithin (card_key.Customer b.warehouse b.district b.customer)
  IsMadeRecord (said.Stock b r) = IsWithin (card_key.Stock b.warehouse b.item)
  IsMadeRecord (said.Item b) = IsWithin (card_key.Item b.item)
  IsMadeRecord _ = ⊥

  made-more : (db : Database) (r : ImageRecord) → IsRead r → IsMadeRecord r → IsMade db → IsMade (with_record db r)
  made-more db (said.Warehouse b r) read is h = record {
    filled = filled-more db (said.Warehouse b r) read h.filled;
    within = within-more db (card_key.Warehouse b.warehouse) _ is.0 h.within;
    rows = rows-more db.rows (key.Warehouse b.warehouse) (row.Warehouse r) is.1 h.rows;
    own = own-more db (card_key.Warehouse b.warehouse) _ _ (λ v d e. cc) (kept-rows db.rows (key.Warehouse b.warehouse) (row.Warehouse r)) h;
  }
  made-more db (said.WholeDistrict b ytd next) read is h =
      let with_ytd = insert db.rows (key.DistrictYtd b.warehouse b.district) (row.DistrictYtd ytd) in
      let with_both = insert with_ytd (key.DistrictNext b.warehouse b.district) (row.DistrictNext next) in
      record {
        filled = filled-more db (said.WholeDistrict b ytd next) read h.filled;
        within = within-more db (card_key.District b.warehouse b.district) _ is.0 h.within;
        rows = rows-more with_ytd (key.DistrictNext b.warehouse b.district) (row.DistrictNext next) is.2
            (rows-more db.rows (key.DistrictYtd b.warehouse b.district) (row.DistrictYtd ytd) is.1 h.rows);
        own = own-more db (card_key.District b.warehouse b.district) _ with_both
            (λ v d e.
            let v_is : b.warehouse ≡ v = cc in
            let d_is : b.district ≡ d = cc in
            subst (λ u. HasRows u d with_both) v_is (subst (λ f. HasRows b.warehouse f with_both) d_is (both-rows db.rows b.warehouse b.district (row.DistrictYtd ytd) (row.DistrictNext next))))
            (λ v d old.
            kept-rows with_ytd (key.DistrictNext b.warehouse b.district) (row.DistrictNext next) v d
            (kept-rows db.rows (key.DistrictYtd b.warehouse b.district) (row.DistrictYtd ytd) v d old))
            h;
      }
  made-more db (said.Customer b r) read is h = record {
    filled = filled-more db (said.Customer b r) read h.filled;
    within = within-more db (card_key.Customer b.warehouse b.district b.customer) _ is h.within;
    rows = rows-more db.rows (key.Customer b.warehouse b.district b.customer) (row.Customer r) tt h.rows;
    own = own-more db (card_key.Customer b.warehouse b.district b.customer) _ _ (λ v d e. cc) (kept-rows db.rows (key.Customer b.warehouse b.district b.customer) (row.Customer r)) h;
  }
  made-more db (said.Stock b r) read is h = record {
    filled = filled-more db (said.Stock b r) read h.filled;
    within = within-more db (card_key.Stock b.warehouse b.item) _ is h.within;
    rows = rows-more db.rows (key.Stock b.warehouse b.item) (row.Stock r) tt h.rows;
    own = own-more db (card_key.Stock b.warehouse b.item) _ _ (λ v d e. cc) (kept-rows db.rows (key.Stock b.warehouse b.item) (row.Stock r)) h;
  }
  made-more db (said.Item b) read is h = record {
    filled = filled-more db (said.Item b) read h.filled;
    within = within-more db (card_key.Item b.item) _ is h.within;
    rows = h.rows;
    own = own-more db (card_key.Item b.item) _ db.rows (λ v d e. cc) (λ v d old. old) h;
  }
  made-more db (said.District _) read is h = absurd is
  made-more db (said.DistrictYtd _ _ _) read is h = absurd is
  made-more db (said.DistrictNext _ _ _) read is h = absurd is
  made-more db (said.Order _ _ _ _) read is h = absurd is
  made-more db (said.NewOrder _ _ _) read is h = absurd is
  made-more db (said.OrderLine _ _ _ _ _) read is h = absurd is
  made-more db (said.History _ _) read is h = absurd is

  module _ (w_most : w ≤ 100) (c_most : c ≤ 3000) (i_most : i ≤ 100000) where
    warehouse-more : (v : ℕ) → IsBetween 1 w v → (db : Database) → IsMade db → IsMade (with_record db (made_warehouse v))
    unfolding made_warehouse
    warehouse-more v v_is db h = made-more db (made_warehouse v) (warehouse-read v (v_is.0, omega (arith, v_is.1, w_most))) (v_is, refl) h

    district-more : (v d : ℕ) → IsBetween 1 w v → IsBetween 1 10 d → (db : Database) → IsMade db → IsMade (with_record db (made_district v d))
    unfolding made_district
    district-more v d v_is d_is db h = made-more db (made_district v d) (district-read v d (v_is.0, omega (arith, v_is.1, w_most)) d_is) ((v_is, d_is), ((v_is, d_is), refl), ((v_is, d_is), refl)) h

    customer-more : (v d b : ℕ) → IsBetween 1 w v → IsBetween 1 10 d → IsBetween 1 c b → (db : Database) → IsMade db → IsMade (with_record db (made_customer v d b))
    unfolding made_customer
    customer-more v d b v_is d_is b_is db h = made-more db (made_customer v d b) (customer-read v d b (v_is.0, omega (arith, v_is.1, w_most)) d_is (b_is.0, omega (arith, b_is.1, c_most))) (v_is, d_is, b_is) h

    stock-more : (v j : ℕ) → IsBetween 1 w v → IsBetween 1 i j → (db : Database) → IsMade db → IsMade (with_record db (made_stock v j))
    unfolding made_stock
    stock-more v j v_is j_is db h = made-more db (made_stock v j) (stock-read v j (v_is.0, omega (arith, v_is.1, w_most)) (j_is.0, omega (arith, j_is.1, i_most))) (v_is, j_is) h

    item-more : (j : ℕ) → IsBetween 1 i j → (db : Database) → IsMade db → IsMade (with_record db (made_item j))
    unfolding made_item
    item-more j j_is db h = made-more db (made_item j) (item-read j (j_is.0, omega (arith, j_is.1, i_most))) j_is h

    is-made : IsMade (made w c i)
    unfolding made
    is-made =
        records-keep IsMade i made_item item-more _ (
        each-keeps IsMade w _ (λ v v_is. records-keep IsMade i (made_stock v) (λ j. stock-more v j v_is)) _ (
        each-keeps IsMade w _ (λ v v_is. each-keeps IsMade 10 _ (λ d d_is. records-keep IsMade c (made_customer v d) (λ b. customer-more v d b v_is d_is))) _ (
        each-keeps IsMade w _ (λ v v_is. records-keep IsMade 10 (made_district v) (λ d d_is. district-more v d v_is d_is)) _ (
        records-keep IsMade w made_warehouse warehouse-more no_tables made-none))))

  -- ---- each key is present
  module _ (q : CardKey) where
    past-items : (db : Database) → HasKey q db → HasKey q (with_records i made_item db)
    past-items db h = stays_in q i made_item db h

    past-stocks : (db : Database) → HasKey q db → HasKey q (with_each w (λ v. with_records i (made_stock v)) db)
    past-stocks db h = each-keeps (HasKey q) w _ (λ v v_is db h. stays_in q i (made_stock v) db h) db h

    past-district : (v d : ℕ) (db : Database) → HasKey q db → HasKey q (with_records c (made_customer v d) db)
    past-district v d db h = stays_in q c (made_customer v d) db h

    past-ten : (v : ℕ) (db : Database) → HasKey q db → HasKey q (with_each 10 (λ d. with_records c (made_customer v d)) db)
    past-ten v db h = each-keeps (HasKey q) 10 _ (λ d d_is db h. past-district v d db h) db h

    past-customers : (db : Database) → HasKey q db → HasKey q (with_each w (λ v. with_each 10 (λ d. with_records c (made_customer v d))) db)
    past-customers db h = each-keeps (HasKey q) w _ (λ v v_is db h. past-ten v db h) db h

    past-districts : (db : Database) → HasKey q db → HasKey q (with_each w (λ v. with_records 10 (made_district v)) db)
    past-districts db h = each-keeps (HasKey q) w _ (λ v v_is db h. stays_in q 10 (made_district v) db h) db h

  is-there : (q : CardKey) → IsWithin q → HasKey q (made w c i)
  unfolding made made_warehouse made_district made_customer made_stock made_item
  is-there (card_key.Warehouse v) is =
      let q = card_key.Warehouse v in
      past-items q _ (past-stocks q _ (past-customers q _ (past-districts q _ (
      records-reach (HasKey q) w made_warehouse (λ k db h. stays q db (made_warehouse k) h) v is (λ db. some-here card_key_cmp_total exact_cards db.cards q _) no_tables))))
  is-there (card_key.District v d) is =
      let q = card_key.District v d in
      past-items q _ (past-stocks q _ (past-customers q _ (
      each-reaches (HasKey q) w _ (λ k db h. stays_in q 10 (made_district k) db h) v is.0 (
      records-reach (HasKey q) 10 (made_district v) (λ k db h. stays q db (made_district v k) h) d is.1 (λ db. some-here card_key_cmp_total exact_cards db.cards q _)) _)))
  is-there (card_key.Customer v d b) is =
      let q = card_key.Customer v d b in
      past-items q _ (past-stocks q _ (
      each-reaches (HasKey q) w _ (λ k db h. past-ten q k db h) v is.0 (
      each-reaches (HasKey q) 10 _ (λ k db h. past-district q v k db h) d is.1 (
      records-reach (HasKey q) c (made_customer v d) (λ k db h. stays q db (made_customer v d k) h) b is.2 (λ db. some-here card_key_cmp_total exact_cards db.cards q _))) _))
  is-there (card_key.Stock v j) is =
      let q = card_key.Stock v j in
      past-items q _ (
      each-reaches (HasKey q) w _ (λ k db h. stays_in q i (made_stock k) db h) v is.0 (
      records-reach (HasKey q) i (made_stock v) (λ k db h. stays q db (made_stock v k) h) j is.1 (λ db. some-here card_key_cmp_total exact_cards db.cards q _)) _)
  is-there (card_key.Item j) is =
      let q = card_key.Item j in
      records-reach (HasKey q) i made_item (λ k db h. stays q db (made_item k) h) j is (λ db. some-here card_key_cmp_total exact_cards db.cards q _) _

  -- ---- parents
  module _ (db : Database) (h : IsMade db) (all : (q : CardKey) → IsWithin q → HasKey q db) where
    card-passes : (q : CardKey) (b : Card) → IsWithin q → card_has_parents db (q, b) ≡ true
    card-passes (card_key.Warehouse v) b is = ten-pass (λ d. has_card db.cards (card_key.District v d)) (λ d d_is. all (card_key.District v d) (is, d_is))
    card-passes (card_key.District v d) b is =
        let own = h.own v d (all (card_key.District v d) is) in
        ap₂ (λ s t. s && t) (all (card_key.Warehouse v) is.0) (ap₂ (λ s t. s && t) own.0 own.1)
    card-passes (card_key.Customer v d n) b is = all (card_key.District v d) (is.0, is.1)
    card-passes (card_key.Stock v j) b is = ap₂ (λ s t. s && t) (all (card_key.Warehouse v) is.0) (all (card_key.Item j) is.1)
    card-passes (card_key.Item j) b is = refl

    row-passes : (k : RowKey) (x : Row) → IsMadeRow w k x → row_has_parents db (k, x) ≡ true
    row-passes (key.Warehouse v) (row.Warehouse r) is = refl
    row-passes (key.Customer v d n) (row.Customer r) is = refl
    row-passes (key.Stock v j) (row.Stock r) is = refl
    row-passes (key.DistrictYtd v d) (row.DistrictYtd r) is = all (card_key.District v d) is.0
    row-passes (key.DistrictNext v d) (row.DistrictNext r) is = all (card_key.District v d) is.0
    row-passes _ _ is = absurd is

    parents : parents_there db ≡ true
    unfolding parents_there
    parents = ap₂ (λ s t. s && t)
        (all-pass card_key_cmp_total exact_cards (card_has_parents db) db.cards (λ q b there. card-passes q b (h.within q (ap is_some there))))
        (all-pass row_key_cmp_total exact_keys (row_has_parents db) db.rows (λ k x there. row-passes k x (h.rows k x there)))

    -- ---- condition 1
    first-condition : Condition1 db.rows
    first-condition v = at (get db.rows (key.Warehouse v)) refl
      where
        at : (o : Option Row) → get db.rows (key.Warehouse v) ≡ o → IfSome (option_and_then as_warehouse o) (λ r. r.ytd ≡ total (district_share v) db.rows)
        at None there = tt
        at (Some x) there = of-row x there (h.rows (key.Warehouse v) x there)
          where
            of-row : (x : Row) → get db.rows (key.Warehouse v) ≡ Some x → IsMadeRow w (key.Warehouse v) x → IfSome (as_warehouse x) (λ r. r.ytd ≡ total (district_share v) db.rows)
            of-row (row.Warehouse r) there is =
                let here = h.within (card_key.Warehouse v) (h.filled.owned (key.Warehouse v) (card_key.Warehouse v) (row.Warehouse r) refl there) in
                is ∙ sym (districts-total v 10 db.rows
                (λ d x there. own-share w v d x (h.rows (key.DistrictYtd v d) x there))
                (λ d d_is. (h.own v d (all (card_key.District v d) (here, d_is))).0))
            of-row _ there is = absurd is

    -- ---- conditions 2 to 4
    no-order : (v d o : ℕ) → HasOrder db.rows v d o → ⊥
    no-order v d o there = h.rows (key.Order v d o) (row.Order there.0) there.1

    no-new_order : (v d o : ℕ) → HasNewOrder db.rows v d o → ⊥
    no-new_order v d o there = h.rows (key.NewOrder v d o) row.NewOrder there

    no-promise : (v d : ℕ) (k : RowKey) (x : Row) → IsMadeRow w k x → promised_share v d k x ≡ pos 0
    no-promise v d (key.Order _ _ _) x is = absurd is
    no-promise v d _ x is = refl

    no-line : (v d : ℕ) (k : RowKey) (x : Row) → IsMadeRow w k x → line_share v d k x ≡ pos 0
    no-line v d (key.OrderLine _ _ _ _) x is = absurd is
    no-line v d _ x is = refl

    consistent : (v d : ℕ) (r : DistrictNextRow) → get db.rows (key.DistrictNext v d) ≡ Some (row.DistrictNext r) → IsConsistent db.rows v d r.next_order
    consistent v d r there =
        let next : r.next_order ≡ 1 = (h.rows (key.DistrictNext v d) (row.DistrictNext r) there).1 in
        record {
          last_order = record { there = inl (omega (arith, next)); above = λ o order. absurd (no-order v d o order) };
          last_new_order = λ o new_order. absurd (no-new_order v d o new_order);
          new_orders = λ low high least most. absurd (no-new_order v d low least.there);
          lines =
              total-zero (promised_share v d) db.rows (λ k x there. no-promise v d k x (h.rows k x there))
              ∙ sym (total-zero (line_share v d) db.rows (λ k x there. no-line v d k x (h.rows k x there)));
        }

    sound : IsSound db
    sound = record {
      cards = are-cards db h.filled parents;
      there = rows-there db h.filled parents;
      entries = λ k x there. entry db h.filled parents k x there (h.filled.entries k x there);
      condition_1 = first-condition;
      districts = consistent;
    }

pub made-sound : (w c i : ℕ) → w ≤ 100 → c ≤ 3000 → i ≤ 100000 → IsSound (made w c i)
made-sound w c i w_most c_most i_most = sound w c i (made w c i) (is-made w c i w_most c_most i_most) (is-there w c i)
