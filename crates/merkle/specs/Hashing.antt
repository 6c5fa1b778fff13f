-- What a hasher was fed, and what still waits; what the hash of a leaf is of.
use Rattle.std.specs.Prelude.{◌≡◌, ℕ, List, ◌++◌, ◌∷◌}
use Rattle.sha2.specs.Hashers.{Holds256}
use Rattle.tpcc_rows.specs.Encodings.{rows_bytes}
use Rattle.row_store.specs.declared.leaf_page.LeafPage.{LeafPage}
use Rattle.row_store.specs.Slots.{filled, slots}
use Rattle.merkle.specs.declared.hashing.Gathered.{Gathered}

-- the message so far: what the hasher took in, and behind it what waits
abbrev pub IsFed : Gathered → List ℕ → Type 0
IsFed g m = (taken : List ℕ) × Holds256 g.hasher taken × (taken ++ g.waiting ≡ m)

-- a zero byte and the bytes of the page's rows in key order
abbrev pub page_text : LeafPage → List ℕ
page_text page = 0 ∷ rows_bytes (filled (slots page))
