-- The texts that are hashed for a token, and the search among those of two tokens for two of one hash.
use Rattle.std.specs.Prelude.{◌≡◌, ◌≢◌, ℕ, zero, suc, ◌+◌, ◌*◌, Bool, not, ◌&&◌, List, [], ◌∷◌, ◌++◌, codes, Option, bytes_eq, find, zip}
use Rattle.std.specs.FinMap as map
use Rattle.sha2.specs.Sha256.{sha256}
use Rattle.catalog.specs.CardBytes.{cards_bytes, catalog_digest}
use Rattle.catalog.specs.CardMap.{Cards}
use Rattle.tpcc_model.specs.Roots.{leaf_hash, node, root}
use Rattle.tpcc_model.specs.Tokens.{replies_bytes, replies_digest}
use Rattle.tpcc_rows.specs.Encodings.{bytes_64, rows_bytes}
use Rattle.tpcc_rows.specs.Leaves.{page_rows}
use Rattle.tpcc_rows.specs.RowMap.{Rows}
use Rattle.token_laws.specs.Covered.{Covered}
use Rattle.token_laws.specs.CoveredLimits.{AreBytes}

-- ---- the texts
abbrev pub token_text : Covered → List ℕ
token_text c = codes "EVE-TPCC-2" ++ bytes_64 c.sequence ++ c.prior ++ catalog_digest c.database.cards ++ root c.database.rows ++ replies_digest c.first c.replies

abbrev pub catalog_text : Cards → List ℕ
catalog_text cards = cards_bytes (map.entries cards)

abbrev pub leaf_text : Rows → ℕ → List ℕ
leaf_text rows n = 0 ∷ rows_bytes (map.entries (page_rows rows n))

-- that of the node above the two of this height from number 2 n on
abbrev pub node_text : Rows → ℕ → ℕ → List ℕ
node_text rows height n = 1 ∷ (node (leaf_hash rows) height (2 * n) ++ node (leaf_hash rows) height (2 * n + 1))

-- those of a node of the tree and of all below it, down to the leaves
unfoldable pub tree_texts : Rows → ℕ → ℕ → List (List ℕ)
tree_texts rows zero n = leaf_text rows n ∷ []
tree_texts rows (suc height) n = node_text rows height n ∷ (tree_texts rows height (2 * n) ++ tree_texts rows height (2 * n + 1))

-- that of the token, of the catalog, of the replies, and those of the tree from the root on
abbrev pub hashed_texts : Covered → List (List ℕ)
hashed_texts c = token_text c ∷ catalog_text c.database.cards ∷ replies_bytes c.first c.replies ∷ tree_texts c.database.rows 16 0

-- ---- the search
abbrev pub collides : List ℕ × List ℕ → Bool
collides pair = not (bytes_eq pair.0 pair.1) && bytes_eq (sha256 pair.0) (sha256 pair.1)

-- the first two texts at one place that differ and have one hash
unfoldable pub collision : Covered → Covered → Option (List ℕ × List ℕ)
collision a b = find collides (zip (hashed_texts a) (hashed_texts b))

-- ---- what it finds
-- two different texts with one SHA-256
pub record IsCollision (pair : List ℕ × List ℕ) : Type 0 where
  pub first : AreBytes pair.0
  pub second : AreBytes pair.1
  pub differ : pair.0 ≢ pair.1
  pub one_hash : sha256 pair.0 ≡ sha256 pair.1
