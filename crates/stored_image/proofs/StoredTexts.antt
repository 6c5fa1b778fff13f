-- The texts of an image's parts, and their numbers of records.
use Rattle.std.proofs.Common.{◌≡◌, ◌∙◌, ◌⊎◌, inl, inr, ◌≤◌, ◌+◌, ℕ, suc, List, [], ◌∷◌, ◌++◌, length, map, Option, Some, None, refl, sym, ap, ap₂, arith, append_assoc, append-nil, length-append}
use Rattle.std.specs.Prelude.{filter_map}
use Rattle.std.specs.List.{cons_option}
use Rattle.std.specs.FinMap.{entries, get}
use Rattle.std.specs.Option.{option_and_then}
use Rattle.std.proofs.lemmas.List.{map-append}
use Rattle.catalog.specs.declared.card.Card.{Card}
use Rattle.catalog.specs.declared.card.CardKey.{CardKey}
use Rattle.catalog.specs.declared.card.CardKey.TheVariants as card_key
use Rattle.records.specs.Fields.{Fields}
use Rattle.records.specs.Spelling.{text_of_record, text_of_records}
use Rattle.tpcc_model.specs.Database.{Database}
use Rattle.tpcc_rows.specs.RowMap.{Rows}
use Rattle.tpcc_rows.specs.declared.key.RowKey.{RowKey}
use Rattle.tpcc_rows.specs.declared.key.RowKey.TheVariants as key
use Rattle.tpcc_rows.specs.declared.row.Row.{Row}
use Rattle.stored_image.specs.StoredImage.{card_said, image_records, image_said, part_said, row_said, rows_said, said_at}
use Rattle.stored_image.specs.StoredRecords.{written_end, written_first, written_record}
use Rattle.image_records.specs.declared.image_record.ImageRecord.{ImageRecord}
use Rattle.stored_image.specs.declared.store.CardPart.TheVariants as part
use Rattle.stored_image.specs.declared.stored_record.RowPart.TheVariants as row_part

pub text_of_records-append : (xs ys : List Fields) → text_of_records (xs ++ ys) ≡ text_of_records xs ++ text_of_records ys
text_of_records-append [] ys = refl
text_of_records-append (x ∷ xs) ys = ap (λ (t : List ℕ). text_of_record x ++ t) (text_of_records-append xs ys) ∙ sym (append_assoc (text_of_record x) (text_of_records xs) (text_of_records ys))

-- the text of these records
abbrev pub text_said : List ImageRecord → List ℕ
text_said ss = text_of_records (map written_record ss)

text_said-append : (ss ts : List ImageRecord) → text_said (ss ++ ts) ≡ text_said ss ++ text_said ts
text_said-append ss ts = ap text_of_records (map-append written_record ss ts) ∙ text_of_records-append (map written_record ss) (map written_record ts)

-- one more text
text_said-more : (start one two : List ℕ) (ss ts : List ImageRecord) → one ≡ start ++ text_said ss → two ≡ one ++ text_said ts → two ≡ start ++ text_said (ss ++ ts)
text_said-more start one two ss ts e1 e2 =
    e2 ∙ ap (λ (t : List ℕ). t ++ text_said ts) e1 ∙ append_assoc start (text_said ss) (text_said ts) ∙ ap (λ (t : List ℕ). start ++ t) (sym (text_said-append ss ts))

-- the texts of the six parts, after what precedes them
pub tables-whole : (db : Database) (start one two three four five six : List ℕ) (districts others : List ImageRecord)
    → one ≡ start ++ text_said (part_said part.WarehousesAndDistricts db.rows (entries db.cards)) → two ≡ one ++ text_said districts
    → three ≡ two ++ text_said (part_said part.Customers db.rows (entries db.cards)) → four ≡ three ++ text_said (part_said part.Items db.rows (entries db.cards))
    → five ≡ four ++ text_said (part_said part.Stocks db.rows (entries db.cards)) → six ≡ five ++ text_said others
    → districts ≡ rows_said row_part.Districts (entries db.rows) → others ≡ rows_said row_part.Others (entries db.rows) → six ≡ start ++ text_said (image_said db)
unfolding image_said
tables-whole db start one two three four five six districts others e1 e2 e3 e4 e5 e6 districts_are others_are =
    text_said-more start five six _ _
    (text_said-more start four five _ _ (text_said-more start three four _ _ (text_said-more start two three _ _
    (text_said-more start one two _ _ e1 (e2 ∙ ap (λ ss. one ++ text_said ss) districts_are)) e3) e4) e5)
    (e6 ∙ ap (λ ss. five ++ text_said ss) others_are)

-- the number of records of the six parts
pub count-whole : (db : Database) (districts others : List ImageRecord) → districts ≡ rows_said row_part.Districts (entries db.rows) → others ≡ rows_said row_part.Others (entries db.rows)
    → length (part_said part.WarehousesAndDistricts db.rows (entries db.cards)) + length (part_said part.Customers db.rows (entries db.cards)) + length (part_said part.Items db.rows (entries db.cards))
    + length (part_said part.Stocks db.rows (entries db.cards)) + (length districts + length others) ≡ length (image_said db)
unfolding image_said
count-whole db districts others districts_are others_are =
    let first = part_said part.WarehousesAndDistricts db.rows (entries db.cards) in
    let customers = part_said part.Customers db.rows (entries db.cards) in
    let items = part_said part.Items db.rows (entries db.cards) in
    let stocks = part_said part.Stocks db.rows (entries db.cards) in
    let district_rows = rows_said row_part.Districts (entries db.rows) in
    let other_rows = rows_said row_part.Others (entries db.rows) in
    let one = length-append first district_rows in
    let two = length-append (first ++ district_rows) customers in
    let three = length-append (first ++ district_rows ++ customers) items in
    let four = length-append (first ++ district_rows ++ customers ++ items) stocks in
    let five = length-append (first ++ district_rows ++ customers ++ items ++ stocks) other_rows in
    let districts_count : length districts ≡ length district_rows = ap length districts_are in
    let others_count : length others ≡ length other_rows = ap length others_are in
    omega (arith, one, two, three, four, five, districts_count, others_count)

-- one more entry adds at most one record
cons-fewer : {A : Type 0} (o : Option A) (xs : List A) → length (cons_option o xs) ≤ suc (length xs)
cons-fewer None xs = omega arith
cons-fewer (Some x) xs = omega arith

-- a card is in one part
pub parts-fewer : (rows : Rows) (es : List (CardKey × Card))
    → length (part_said part.WarehousesAndDistricts rows es) + length (part_said part.Customers rows es) + length (part_said part.Items rows es) + length (part_said part.Stocks rows es) ≤ length es
parts-fewer rows [] = omega arith
parts-fewer rows ((card_key.Warehouse w, c) ∷ es) = let one = cons-fewer (card_said rows c) (part_said part.WarehousesAndDistricts rows es) in let rest = parts-fewer rows es in omega (arith, one, rest)
parts-fewer rows ((card_key.District w d, c) ∷ es) = let one = cons-fewer (card_said rows c) (part_said part.WarehousesAndDistricts rows es) in let rest = parts-fewer rows es in omega (arith, one, rest)
parts-fewer rows ((card_key.Customer w d n, c) ∷ es) = let one = cons-fewer (card_said rows c) (part_said part.Customers rows es) in let rest = parts-fewer rows es in omega (arith, one, rest)
parts-fewer rows ((card_key.Item i, c) ∷ es) = let one = cons-fewer (card_said rows c) (part_said part.Items rows es) in let rest = parts-fewer rows es in omega (arith, one, rest)
parts-fewer rows ((card_key.Stock w i, c) ∷ es) = let one = cons-fewer (card_said rows c) (part_said part.Stocks rows es) in let rest = parts-fewer rows es in omega (arith, one, rest)

-- a row is in one part
one_part : (e : RowKey × Row) → (row_said row_part.Districts e ≡ None) ⊎ (row_said row_part.Others e ≡ None)
one_part (key.DistrictYtd w d, r) = inr refl
one_part (key.DistrictNext w d, r) = inr refl
one_part (_, r) = inl refl

one_part-at : (rows : Rows) (k : RowKey) → (said_at row_part.Districts rows k ≡ None) ⊎ (said_at row_part.Others rows k ≡ None)
one_part-at rows k = by (get rows k)
  where
    by : (o : Option Row) → (option_and_then (λ r. row_said row_part.Districts (k, r)) o ≡ None) ⊎ (option_and_then (λ r. row_said row_part.Others (k, r)) o ≡ None)
    by None = inl refl
    by (Some r) = one_part (k, r)

pub rows-fewer : (rows : Rows) (ks : List RowKey) → length (filter_map (said_at row_part.Districts rows) ks) + length (filter_map (said_at row_part.Others rows) ks) ≤ length ks
rows-fewer rows [] = omega arith
rows-fewer rows (k ∷ ks) =
    let districts = filter_map (said_at row_part.Districts rows) ks in
    let others = filter_map (said_at row_part.Others rows) ks in
    let rest = rows-fewer rows ks in
    elim (one_part-at rows k) [
      | inl none ↦
          let more = cons-fewer (said_at row_part.Others rows k) others in
          let same : length (cons_option (said_at row_part.Districts rows k) districts) ≡ length districts = ap (λ o. length (cons_option o districts)) none in
          omega (arith, more, same, rest)
      | inr none ↦
          let more = cons-fewer (said_at row_part.Districts rows k) districts in
          let same : length (cons_option (said_at row_part.Others rows k) others) ≡ length others = ap (λ o. length (cons_option o others)) none in
          omega (arith, more, same, rest)
    ]

-- the first record, the records of the tables, and the end record
pub image-whole : (db : Database) (first end : Fields) (none start middle whole : List ℕ) → none ≡ [] → first ≡ written_first → start ≡ none ++ text_of_record first
    → middle ≡ start ++ text_said (image_said db) → end ≡ written_end (length (image_said db)) → whole ≡ middle ++ text_of_record end → whole ≡ text_of_records (image_records (image_said db))
image-whole db first end none start middle whole e0 e1 e2 e3 e4 e5 =
    let last : Fields = written_end (length (image_said db)) in
    e5 ∙ ap₂ (λ (s t : List ℕ). s ++ t) (e3 ∙ ap (λ (t : List ℕ). t ++ text_said (image_said db)) (e2 ∙ ap₂ (λ (s t : List ℕ). s ++ t) e0 (ap text_of_record e1))) (ap text_of_record e4)
    ∙ append_assoc (text_of_record written_first) (text_said (image_said db)) (text_of_record last)
    ∙ ap (λ (t : List ℕ). text_of_record written_first ++ t)
    (sym (text_of_records-append (map written_record (image_said db)) (last ∷ []) ∙ ap (λ (t : List ℕ). text_said (image_said db) ++ t) (append-nil (text_of_record last))))
