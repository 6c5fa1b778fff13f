-- The nodes of a tree below its uppermost four levels, in branches: subtrees over BRANCH_LEAVES leaves each, one after another in one list, each in
-- heap order: its root at 1, the children of i at 2 i and 2 i + 1, its leaf m at BRANCH_LEAVES + m.
use Rattle.std.specs.Prelude.{◌≡◌, ℕ, zero, suc, ◌+◌, ◌*◌, ◌/◌, ◌%◌, ◌<◌, ◌≤◌, Bool, false, cond, List, [], ◌∷◌, length, get_or, map}
use Rattle.std.specs.List.{range_with_len}
use Rattle.sha2.specs.Sha256.{sha256}
use Rattle.rollback.specs.Marks.{is_dirty}
use Rattle.tpcc_model.specs.Roots.{joined, leaf_hash, node}
use Rattle.tpcc_rows.specs.RowMap.{Rows}
use Rattle.tpcc_rows.specs.declared.codes.TheConstants.{LEAVES}
use Rattle.merkle.specs.declared.marks.TheConstants.{BRANCH_LEAVES, BRANCH_NODES}

-- the hash at a place
abbrev pub at : List (List ℕ) → ℕ → List ℕ
at nodes i = get_or nodes i []

-- the number of a place in its branch's heap order
abbrev pub in_branch : ℕ → ℕ
in_branch i = i % BRANCH_NODES

-- the place of a node's left child; the right one's is the next
abbrev pub left_of : ℕ → ℕ
left_of i = i + in_branch i

-- the place of a leaf, in a list of branches from leaf 0 on
abbrev pub leaf_place : ℕ → ℕ
leaf_place n = n + BRANCH_LEAVES * (n / BRANCH_LEAVES + 1)

-- the hash of the children of a place
abbrev pub join_at : List (List ℕ) → ℕ → List ℕ
join_at nodes i = joined (at nodes (left_of i)) (at nodes (left_of i + 1))

-- the node is the hash of its children
pub record IsJoin (nodes : List (List ℕ)) (i : ℕ) : Type 0 where
  pub join : at nodes i ≡ join_at nodes i

-- the place is one of an inner node
abbrev pub IsInner : List (List ℕ) → ℕ → Type 0
IsInner nodes i = (i < length nodes) × (1 ≤ in_branch i) × (in_branch i < BRANCH_LEAVES)

-- so many places are those of whole branches
abbrev pub AreWhole : ℕ → Type 0
AreWhole n = n % BRANCH_NODES ≡ 0

-- whole branches, of which each inner node is the hash of its children
pub record AreBranches (nodes : List (List ℕ)) : Type 0 where
  pub whole : AreWhole (length nodes)
  pub joins : (i : ℕ) → IsInner nodes i → IsJoin nodes i

-- the hashes of all leaves
abbrev pub leaves_of : List (List ℕ) → List (List ℕ)
leaves_of nodes = map (λ n. at nodes (leaf_place n)) (range_with_len 0 LEAVES)

-- each leaf hash is that of the rows
pub record IsOf (leaves : List (List ℕ)) (rows : Rows) : Type 0 where
  pub each : (n : ℕ) → n < LEAVES → at leaves n ≡ leaf_hash rows n

-- the hash of a leaf anew where it is dirty, and else as it was
abbrev pub rehashed : List ℕ → Rows → List ℕ → ℕ → List ℕ
rehashed dirty rows old n = cond (is_dirty dirty n) (leaf_hash rows n) old

-- the hash of each clean leaf is that of the rows
pub record IsOfClean (leaves : List (List ℕ)) (dirty : List ℕ) (rows : Rows) : Type 0 where
  pub each : (n : ℕ) → n < LEAVES → is_dirty dirty n ≡ false → at leaves n ≡ leaf_hash rows n

-- branches from leaf `first` on, of which the dirty leaves have been rehashed and all nodes above them joined again
pub record AreRefreshed (dirty : List ℕ) (rows : Rows) (first : ℕ) (old new : List (List ℕ)) : Type 0 where
  pub len : length new ≡ length old
  pub branches : AreBranches new
  pub leaves : (m : ℕ) → 2 * m < length old → at new (leaf_place m) ≡ rehashed dirty rows (at old (leaf_place m)) (first + m)

-- each inner node of whose children none is marked is their hash
pub record AreNearlyBranches (nodes : List (List ℕ)) (marked : ℕ → Bool) : Type 0 where
  pub whole : AreWhole (length nodes)
  pub joins : (i : ℕ) → IsInner nodes i → marked (left_of i) ≡ false → marked (left_of i + 1) ≡ false → IsJoin nodes i

-- the place is one from low to before high in its branch
abbrev pub IsAtLevel : ℕ → ℕ → ℕ → Type 0
IsAtLevel low high i = (low ≤ in_branch i) × (in_branch i < high)

-- they are, and each inner node from high on, and each before `next` from low to before high, is the hash of its children
pub record AreJoinedTo (low high next : ℕ) (nodes : List (List ℕ)) (marked : ℕ → Bool) : Type 0 where
  pub nearly : AreNearlyBranches nodes marked
  pub below : (i : ℕ) → IsInner nodes i → high ≤ in_branch i → IsJoin nodes i
  pub here : (i : ℕ) → IsInner nodes i → i < next → IsAtLevel low high i → IsJoin nodes i

-- branches without rows
pub record AreEmpty (nodes : List (List ℕ)) : Type 0 where
  pub branches : AreBranches nodes
  pub leaves : (m : ℕ) → 2 * m < length nodes → at nodes (leaf_place m) ≡ sha256 (0 ∷ [])

-- a level of b nodes at this height has BRANCH_LEAVES leaves below
abbrev pub IsWidth : ℕ → ℕ → Type 0
IsWidth zero b = b ≡ BRANCH_LEAVES
IsWidth (suc height) b = IsWidth height (2 * b)

-- the hash of a branch's root
abbrev pub branch_root : List (List ℕ) → ℕ → List ℕ
branch_root nodes b = at nodes (BRANCH_NODES * b + 1)

-- the node of a height above the branches' roots, and a number
abbrev pub node_over : List (List ℕ) → ℕ → ℕ → List ℕ
node_over nodes height n = node (branch_root nodes) height n
