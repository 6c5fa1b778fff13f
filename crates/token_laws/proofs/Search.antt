-- The search for a collision: what it finds is one, and where it finds none, texts of one hash are the same.
use Rattle.std.proofs.Common.{◌≡◌, inl, inr, ℕ, zero, suc, ◌+◌, ◌*◌, ◌/◌, ◌^◌, ◌<◌, Bool, true, false, not, ◌&&◌, cond, List, [], ◌∷◌, ◌++◌, length, length-append, Some, None, find, zip, bytes_eq, refl, sym, ap, ap₂, subst, ◌∙◌, pow-suc, arith}
use Rattle.std.specs.List.{AllByRecursion}
use Rattle.std.specs.Cmp.Lexicographic.{bytes_decides}
use Rattle.std.proofs.Math.Nat.{div-div-eq-div-mul}
use Rattle.std.proofs.lemmas.Bool.{cases_Bool, cases_eq}
use Rattle.sha2.specs.Sha256.{sha256}
use Rattle.sha2.proofs.Facts256.{length-sha256}
use Rattle.tpcc_model.specs.Roots.{joined, leaf_hash, node, root}
use Rattle.tpcc_rows.specs.RowMap.{Rows}
use Rattle.tpcc_rows.proofs.Fields.{byte, texts}
use Rattle.tpcc_rows.proofs.Singles.{and-left, and-right}
use Rattle.token_laws.specs.Collisions.{IsCollision, collides, leaf_text, node_text, tree_texts}
use Rattle.token_laws.specs.CoveredLimits.{AreBytes, AreWritableRows}
use Rattle.token_laws.proofs.Bytes.{bytes-sha256}
use Rattle.token_laws.proofs.Lists.{all-append, bytes-append, bytes-cons}
use Rattle.token_laws.proofs.Rows.{leaf-bytes}

-- ---- one pair of texts
-- texts that don't collide are the same where their hashes are
pub no_collision : (a b : List ℕ) → collides (a, b) ≡ false → sha256 a ≡ sha256 b → a ≡ b
no_collision a b none hash = elim (cases_Bool (bytes_eq a b)) [
  | inl same ↦ (bytes_decides a b).0 same
  | inr apart ↦
      let one : bytes_eq (sha256 a) (sha256 b) ≡ true = (bytes_decides (sha256 a) (sha256 b)).1 hash in
      let yes : collides (a, b) ≡ true = ap₂ (λ s t. not s && t) apart one in
      let no : ⊥ = cc in
      absurd no
]

not_true : (b : Bool) → not b ≡ true → b ≡ false
not_true true h = cc
not_true false h = refl

pub is_collision : (a b : List ℕ) → AreBytes a → AreBytes b → collides (a, b) ≡ true → IsCollision (a, b)
is_collision a b p q found = record {
  first = p;
  second = q;
  differ = λ same.
      let apart = not_true (bytes_eq a b) (and-left (not (bytes_eq a b)) (bytes_eq (sha256 a) (sha256 b)) found) in
      let equal = (bytes_decides a b).1 same in
      let no : ⊥ = cc in
      absurd no;
  one_hash = (bytes_decides (sha256 a) (sha256 b)).0 (and-right (not (bytes_eq a b)) (bytes_eq (sha256 a) (sha256 b)) found);
}

-- ---- lists
module _ {X : Type 0} (test : X → Bool) where
  -- what is found passes, and what holds of all holds of it
  pub found : (Q : X → Type 0) (xs : List X) (x : X) → AllByRecursion Q xs → find test xs ≡ Some x → Q x × (test x ≡ true)
  found Q [] x all is = let no : ⊥ = cc in absurd no
  found Q (y ∷ ys) x all is = elim (cases_Bool (test y)) [
    | inl pass ↦
        let here : Some y ≡ Some x = sym (ap (λ b. cond b (Some y) (find test ys)) pass) ∙ is in
        let same : y ≡ x = cc in
        subst (λ z. Q z × (test z ≡ true)) same (all.0, pass)
    | inr fail ↦ found Q ys x all.1 (sym (ap (λ b. cond b (Some y) (find test ys)) fail) ∙ is)
  ]

  -- where nothing is found, the first fails, and nothing is found behind it
  pub none_found : (x : X) (xs : List X) → find test (x ∷ xs) ≡ None → (test x ≡ false) × (find test xs ≡ None)
  none_found x xs none = elim (cases_Bool (test x)) [
    | inl pass ↦
        let here : Some x ≡ None = sym (ap (λ b. cond b (Some x) (find test xs)) pass) ∙ none in
        let no : ⊥ = cc in
        absurd no
    | inr fail ↦ (fail, sym (ap (λ b. cond b (Some x) (find test xs)) fail) ∙ none)
  ]

  -- nor in either part of two
  pub none_in_parts : (xs ys : List X) → find test (xs ++ ys) ≡ None → (find test xs ≡ None) × (find test ys ≡ None)
  none_in_parts [] ys none = (refl, none)
  none_in_parts (x ∷ xs) ys none =
      let first = none_found x (xs ++ ys) none in
      let rest = none_in_parts xs ys first.1 in
      (ap₂ (λ b o. cond b (Some x) o) first.0 rest.0, rest.1)

zip-append : {X Y : Type 0} (xs us : List X) (ys vs : List Y) → length xs ≡ length ys → zip (xs ++ us) (ys ++ vs) ≡ zip xs ys ++ zip us vs
zip-append [] us [] vs e = refl
zip-append [] us (y ∷ ys) vs e = absurd (omega (arith, e))
zip-append (x ∷ xs) us [] vs e = absurd (omega (arith, e))
zip-append (x ∷ xs) us (y ∷ ys) vs e = ap (λ (zs : List _). (x, y) ∷ zs) (zip-append xs us ys vs (omega (arith, e)))

pub zip-all : {X Y : Type 0} (P : X → Type 0) (Q : Y → Type 0) (xs : List X) (ys : List Y) → AllByRecursion P xs → AllByRecursion Q ys → AllByRecursion (λ (e : X × Y). P e.0 × Q e.1) (zip xs ys)
zip-all P Q [] ys p q = tt
zip-all P Q (x ∷ xs) [] p q = tt
zip-all P Q (x ∷ xs) (y ∷ ys) p q = ((p.0, q.0), zip-all P Q xs ys p.1 q.1)

-- ---- the tree
-- a node is 32 bytes
node-length : (rows : Rows) (height n : ℕ) → length (node (leaf_hash rows) height n) ≡ 32
unfolding node joined leaf_hash
node-length rows zero n = length-sha256 (leaf_text rows n)
node-length rows (suc height) n = length-sha256 (node_text rows height n)

node-bytes : (rows : Rows) (height n : ℕ) → AreBytes (node (leaf_hash rows) height n)
unfolding node joined leaf_hash
node-bytes rows zero n = bytes-sha256 (leaf_text rows n)
node-bytes rows (suc height) n = bytes-sha256 (node_text rows height n)

pub root-length : (rows : Rows) → length (root rows) ≡ 32
unfolding root
root-length rows = node-length rows 16 0

pub root-bytes : (rows : Rows) → AreBytes (root rows)
unfolding root
root-bytes rows = node-bytes rows 16 0

-- as many texts below each node of a height
as_many : (r s : Rows) (height n : ℕ) → length (tree_texts r height n) ≡ length (tree_texts s height n)
unfolding tree_texts
as_many r s zero n = refl
as_many r s (suc height) n =
    omega (
      arith,
      length-append (tree_texts r height (2 * n)) (tree_texts r height (2 * n + 1)),
      length-append (tree_texts s height (2 * n)) (tree_texts s height (2 * n + 1)),
      as_many r s height (2 * n),
      as_many r s height (2 * n + 1),
    )

pub tree-bytes : (rows : Rows) → AreWritableRows rows → (height n : ℕ) → AllByRecursion AreBytes (tree_texts rows height n)
unfolding tree_texts
tree-bytes rows are zero n = (leaf-bytes rows are n, tt)
tree-bytes rows are (suc height) n = (
  bytes-cons (omega arith) (bytes-append (node-bytes rows height (2 * n)) (node-bytes rows height (2 * n + 1))),
  all-append AreBytes (tree_texts rows height (2 * n)) (tree_texts rows height (2 * n + 1)) (tree-bytes rows are height (2 * n)) (tree-bytes rows are height (2 * n + 1)),
)

-- where nothing is found below a node that both trees have, the leaves below it have the same texts
same_leaves : (r s : Rows) (height n : ℕ) → find collides (zip (tree_texts r height n) (tree_texts s height n)) ≡ None → node (leaf_hash r) height n ≡ node (leaf_hash s) height n
    → (m : ℕ) → m / 2 ^ height ≡ n → leaf_text r m ≡ leaf_text s m
unfolding tree_texts node joined leaf_hash
same_leaves r s zero n none hash m below =
    let here = none_found collides (leaf_text r n, leaf_text s n) [] none in
    let own : m ≡ n = omega (arith, below) in
    subst (λ k. leaf_text r k ≡ leaf_text s k) (sym own) (no_collision (leaf_text r n) (leaf_text s n) here.0 hash)
same_leaves r s (suc height) n none hash m below =
    let left = zip (tree_texts r height (2 * n)) (tree_texts s height (2 * n)) in
    let right = zip (tree_texts r height (2 * n + 1)) (tree_texts s height (2 * n + 1)) in
    let here = none_found collides (node_text r height n, node_text s height n) (zip (tree_texts r height (2 * n) ++ tree_texts r height (2 * n + 1)) (tree_texts s height (2 * n) ++ tree_texts s height (2 * n + 1))) none in
    let parts = none_in_parts collides left right (sym (ap (find collides) (zip-append (tree_texts r height (2 * n)) (tree_texts r height (2 * n + 1)) (tree_texts s height (2 * n)) (tree_texts s height (2 * n + 1)) (as_many r s height (2 * n)))) ∙ here.1) in
    let text = no_collision (node_text r height n) (node_text s height n) here.0 hash in
    let children = texts (node (leaf_hash r) height (2 * n)) (node (leaf_hash s) height (2 * n)) (node (leaf_hash r) height (2 * n + 1)) (node (leaf_hash s) height (2 * n + 1)) (node-length r height (2 * n) ∙ sym (node-length s height (2 * n))) (byte text).1 in
    let halves : m / 2 ^ height / 2 ≡ n = div-div-eq-div-mul m (2 ^ height) 2 ∙ ap (λ k. m / k) (sym (pow-suc 2 height)) ∙ below in
    elim (cases_eq (m / 2 ^ height) (2 * n)) [
      | inl even ↦ same_leaves r s height (2 * n) parts.0 children.0 m even
      | inr odd ↦ same_leaves r s height (2 * n + 1) parts.1 children.1 m (omega (arith, halves, odd))
    ]

-- where nothing is found, trees of one root are of the same leaves
pub same_tree : (r s : Rows) → find collides (zip (tree_texts r 16 0) (tree_texts s 16 0)) ≡ None → root r ≡ root s → (m : ℕ) → m < 65536 → leaf_text r m ≡ leaf_text s m
unfolding root
same_tree r s none hash m small = same_leaves r s 16 0 none hash m (omega (arith, small))
