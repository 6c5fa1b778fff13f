-- The hash tree over the rows, computed from scratch: 65,536 leaves, and sixteen levels of nodes above.
use Rattle.std.specs.Prelude.{ℕ, zero, suc, ◌+◌, ◌*◌, List, ◌∷◌, ◌++◌}
use Rattle.std.specs.FinMap as map
use Rattle.sha2.specs.Sha256.{sha256}
use Rattle.tpcc_rows.specs.Encodings.{rows_bytes}
use Rattle.tpcc_rows.specs.Leaves.{page_rows}
use Rattle.tpcc_rows.specs.RowMap.{Rows}

-- the hash of a leaf: of a byte 0 and the bytes of its rows in key order
unfoldable pub leaf_hash : Rows → ℕ → List ℕ
leaf_hash rows n = sha256 (0 ∷ rows_bytes (map.entries (page_rows rows n)))

-- the hash of two nodes: of a byte 1 and their hashes
unfoldable pub joined : List ℕ → List ℕ → List ℕ
joined left right = sha256 (1 ∷ (left ++ right))

-- the node of a height and a number, over these leaf hashes
unfoldable pub node : (ℕ → List ℕ) → ℕ → ℕ → List ℕ
node leaves zero n = leaves n
node leaves (suc height) n = joined (node leaves height (2 * n)) (node leaves height (2 * n + 1))

unfoldable pub root : Rows → List ℕ
root rows = node (leaf_hash rows) 16 0
