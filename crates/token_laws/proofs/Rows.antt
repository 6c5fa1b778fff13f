-- Rows can be told apart by the texts of their leaves, which are of bytes.
use Rattle.std.proofs.Common.{◌≡◌, ℕ, ◌<◌, cond, eqb, List, [], ◌∷◌, ◌++◌, length, length-append, append-nil, None, refl, sym, ap, ◌∙◌, eq-eqb, arith}
use Rattle.std.specs.FinMap.{entries, get, get-retain_keys, same_map, same_entries_map}
use Rattle.std.specs.List.{AllByRecursion, flat_map}
use Rattle.tpcc_rows.specs.Codes.{code}
use Rattle.tpcc_rows.specs.Encodings.{IsWritable, bytes_64, row_body, row_bytes, rows_bytes, sized}
use Rattle.tpcc_rows.specs.Leaves.{leaf, page_rows}
use Rattle.tpcc_rows.specs.RowLimits.{IsRow}
use Rattle.tpcc_rows.specs.RowMap.{Rows, row_key_cmp}
use Rattle.tpcc_rows.specs.declared.key.RowKey.{RowKey}
use Rattle.tpcc_rows.specs.declared.row.Row.{Row}
use Rattle.tpcc_rows.specs.declared.row.Row.TheVariants as row
use Rattle.tpcc_rows.proofs.Fields.{IsApart}
use Rattle.tpcc_rows.proofs.Keys.{exact_keys, row_key_cmp_total}
use Rattle.tpcc_rows.proofs.LeafPicks.{entries-page_rows, leaf-small}
use Rattle.tpcc_rows.proofs.Lengths.{length-bytes_64}
use Rattle.tpcc_rows.proofs.RowBytes.{encodings_are_apart}
use Rattle.token_laws.specs.Collisions.{leaf_text}
use Rattle.token_laws.specs.CoveredLimits.{AreBytes, AreWritableRows}
use Rattle.token_laws.proofs.Bytes.{bytes-16, bytes-32, bytes-64, bytes-moment, bytes-short, bytes-sized, bytes-text, flag-small, or_zero-small}
use Rattle.token_laws.proofs.Lists.{bytes-append, bytes-cons, bytes-flat_map, each_entry, each_kept, no_bytes, whole}

abbrev Entry : Type 0
Entry = RowKey × Row

-- the bytes of an entry
abbrev entry_bytes : Entry → List ℕ
entry_bytes e = row_bytes e.0 e.1

abbrev IsWritableEntry : Entry → Type 0
IsWritableEntry e = IsWritable e.0 e.1

-- ---- bytes
body-bytes : (r : Row) → IsRow r → AreBytes (row_body r)
body-bytes (row.Warehouse r) h = bytes-64 _
body-bytes (row.Customer r) h =
    let counts = bytes-append (bytes-append (bytes-append (bytes-64 _) (bytes-64 _)) (bytes-32 r.payment_count)) (bytes-32 r.delivery_count) in
    bytes-append (bytes-append counts (bytes-16 (length r.data))) (bytes-text 500 r.data h.4)
body-bytes (row.Stock r) h = bytes-append (bytes-append (bytes-append (bytes-32 _) (bytes-32 r.ytd)) (bytes-32 r.order_count)) (bytes-32 r.remote_count)
body-bytes (row.Order r) h =
    let few : r.line_count < 256 = omega (arith, h.3.1) in
    let tail = bytes-cons (or_zero-small r.carrier h.2) (bytes-cons few (bytes-cons (flag-small r.all_local) no_bytes)) in
    bytes-append (bytes-append (bytes-16 r.customer) (bytes-64 r.entry)) tail
body-bytes row.NewOrder h = no_bytes
body-bytes (row.OrderLine r) h =
    let near : r.supply < 256 = omega (arith, h.1.1) in
    let few : r.quantity < 256 = omega (arith, h.3.1) in
    let tail = bytes-cons few (bytes-append (bytes-32 r.amount) (bytes-short 24 r.district_info (omega arith) h.5)) in
    bytes-append (bytes-32 r.item) (bytes-cons near (bytes-append (bytes-moment r.delivery) tail))
body-bytes (row.History r) h =
    let tail = bytes-append (bytes-append (bytes-64 r.date) (bytes-32 r.amount)) (bytes-short 24 r.data (omega arith) h.7) in
    let places = bytes-cons (omega (arith, h.1.1)) (bytes-cons (omega (arith, h.2.1)) (bytes-cons (omega (arith, h.3.1)) (bytes-cons (omega (arith, h.4.1)) tail))) in
    bytes-append (bytes-16 r.customer) places
body-bytes (row.DistrictYtd r) h = bytes-64 _
body-bytes (row.DistrictNext r) h = bytes-32 r.next_order

entry-bytes : (e : Entry) → IsWritableEntry e → AreBytes (entry_bytes e)
unfolding row_bytes
entry-bytes e h = bytes-append (bytes-64 (code e.0)) (bytes-sized (row_body e.1) (body-bytes e.1 h.row_limits))

-- ---- told apart
entries_apart : IsApart IsWritableEntry entry_bytes
entries_apart = record {
  apart = λ a b xs ys p q e. let one = encodings_are_apart a.0 b.0 a.1 b.1 xs ys p q e in (λ i. (one.0 i, one.1 i), one.2);
}

some_bytes : (e : Entry) → 0 < length (entry_bytes e)
unfolding row_bytes
some_bytes e = omega (arith, length-append (bytes_64 (code e.0)) (sized (row_body e.1)), length-bytes_64 (code e.0))

in_turn : (es : List Entry) → rows_bytes es ≡ flat_map entry_bytes es
in_turn [] = refl
in_turn (e ∷ es) = ap (λ (xs : List ℕ). entry_bytes e ++ xs) (in_turn es)

lists_apart : (es fs : List Entry) → AllByRecursion IsWritableEntry es → AllByRecursion IsWritableEntry fs → rows_bytes es ≡ rows_bytes fs → es ≡ fs
lists_apart es fs p q e =
    whole entries_apart some_bytes es fs p q (append-nil (flat_map entry_bytes es) ∙ sym (in_turn es) ∙ e ∙ in_turn fs ∙ sym (append-nil (flat_map entry_bytes fs)))

-- ---- leaves
module _ (rows : Rows) (are : AreWritableRows rows) (n : ℕ) where
  page-writable : AllByRecursion IsWritableEntry (entries (page_rows rows n))
  page-writable = rw (entries-page_rows rows n) (each_kept row_key_cmp IsWritableEntry (λ k. eqb (leaf k) n) (entries rows) (each_entry row_key_cmp_total exact_keys IsWritableEntry rows are))

  pub leaf-bytes : AreBytes (leaf_text rows n)
  leaf-bytes = bytes-cons (omega arith) (rw (in_turn (entries (page_rows rows n))) (bytes-flat_map IsWritableEntry entry_bytes entry-bytes (entries (page_rows rows n)) page-writable))

-- what the rows have at a key is what the leaf of the key has
on_leaf : (rows : Rows) (k : RowKey) → get (page_rows rows (leaf k)) k ≡ get rows k
unfolding page_rows
on_leaf rows k =
    get-retain_keys rows (λ q. eqb (leaf q) (leaf k)) k (λ q tied. ap (λ (x : RowKey). eqb (leaf x) (leaf k)) (sym (exact_keys k q tied)))
    ∙ ap (λ b. cond b (get rows k) None) (eq-eqb (leaf k) (leaf k) refl)

-- rows with the same leaves are the same
pub rows_apart : (r s : Rows) → AreWritableRows r → AreWritableRows s → ((n : ℕ) → n < 65536 → leaf_text r n ≡ leaf_text s n) → r ≡ s
rows_apart r s p q same = same_map row_key_cmp_total exact_keys r s (λ k. sym (on_leaf r k) ∙ ap (λ m. get m k) (page (leaf k) (leaf-small k)) ∙ on_leaf s k)
  where
    page : (n : ℕ) → n < 65536 → page_rows r n ≡ page_rows s n
    page n small =
        let here = same n small in
        let text : rows_bytes (entries (page_rows r n)) ≡ rows_bytes (entries (page_rows s n)) = cc in
        same_entries_map (page_rows r n) (page_rows s n) (lists_apart (entries (page_rows r n)) (entries (page_rows s n)) (page-writable r p n) (page-writable s q n) text)
