-- Branches whose dirty leaves were rehashed, and parts of them one after another.
use Rattle.std.proofs.Common.{◌≡◌, ℕ, zero, suc, ◌+◌, ◌-◌, ◌*◌, ◌/◌, ◌%◌, ◌<◌, ◌≤◌, Bool, true, false, cond, List, [], ◌∷◌, ◌++◌, length, inl, inr, refl, sym, ap, ◌∙◌, arith, length-append}
use Rattle.std.proofs.lemmas.List.{get_or-append_right}
use Rattle.std.proofs.lemmas.Bool.{cases_lt}
use Rattle.std.specs.FinMap as map
use Rattle.sha2.specs.Sha256.{sha256}
use Rattle.tpcc_rows.specs.Encodings.{rows_bytes}
use Rattle.tpcc_rows.specs.Leaves.{page_rows}
use Rattle.tpcc_rows.specs.RowMap.{Rows}
use Rattle.tpcc_model.specs.Roots.{joined, leaf_hash}
use Rattle.rollback.specs.Marks.{is_dirty}
use Rattle.rollback.specs.Pointed.{Pointed, KeepsCleanLeaves}
use Rattle.merkle.specs.Nodes.{at, in_branch, left_of, leaf_place, rehashed, AreBranches, AreEmpty, AreNearlyBranches, AreRefreshed, AreWhole, IsJoin, IsOf, IsOfClean}
use Rattle.merkle.specs.declared.marks.TheConstants.{BRANCH_LEAVES, BRANCH_NODES}
use Rattle.tpcc_rows.specs.declared.codes.TheConstants.{LEAVES}

-- what changes no clean leaf's rows leaves the tree right on the clean leaves
pub kept-clean : (leaves : List (List ℕ)) (old new : Pointed) → KeepsCleanLeaves old new → IsOfClean leaves old.dirty old.rows → IsOfClean leaves new.dirty new.rows
unfolding leaf_hash
kept-clean leaves old new keeps of_old = record {
  each = λ n small clean. of_old.each n small (keeps n clean).0 ∙ ap (λ page. sha256 (0 ∷ rows_bytes (map.entries page))) (sym (keeps n clean).1);
}

-- where it was right on the clean leaves, it is right on all
pub of-all : (old new : List (List ℕ)) (dirty : List ℕ) (rows : Rows) → ((n : ℕ) → n < LEAVES → at new n ≡ rehashed dirty rows (at old n) n) → IsOfClean old dirty rows → IsOf new rows
of-all old new dirty rows each of_old = record { each = λ n small. each n small ∙ by-mark n small (is_dirty dirty n) refl } where
  by-mark : (n : ℕ) → n < LEAVES → (b : Bool) → is_dirty dirty n ≡ b → cond b (leaf_hash rows n) (at old n) ≡ leaf_hash rows n
  by-mark n small true e = refl
  by-mark n small false e = of_old.each n small e

-- the hash of a leaf that has no rows
pub no-rows : (rows : Rows) (n : ℕ) → map.entries (page_rows rows n) ≡ [] → leaf_hash rows n ≡ sha256 (0 ∷ [])
unfolding leaf_hash
no-rows rows n none = ap (λ entries. sha256 (0 ∷ rows_bytes entries)) none

-- a leaf that was as without rows, and is hashed again if it has some
pub filled-leaf : (rows : Rows) (n : ℕ) (marked : Bool) (old : List ℕ) → old ≡ sha256 (0 ∷ []) → (marked ≡ false → leaf_hash rows n ≡ sha256 (0 ∷ [])) → cond marked (leaf_hash rows n) old ≡ leaf_hash rows n
filled-leaf rows n true old was empty = refl
filled-leaf rows n false old was empty = was ∙ sym (empty refl)

-- ---- leaves rehashed below old nodes
module _ (old new : List (List ℕ)) (dirty : List ℕ) (rows : Rows) (first : ℕ) (marked : ℕ → Bool)
    (marks : (m : ℕ) → 2 * m < length old → marked (leaf_place m) ≡ is_dirty dirty (first + m))
    (leaves : (m : ℕ) → 2 * m < length old → at new (leaf_place m) ≡ rehashed dirty rows (at old (leaf_place m)) (first + m))
    (inner : (i : ℕ) → in_branch i < BRANCH_LEAVES → at new i ≡ at old i) (len : length new ≡ length old) (branches : AreBranches old) where
  leaf-same : (c m : ℕ) → c < length old → leaf_place m ≡ c → 2 * m < length old → marked c ≡ false → at new c ≡ at old c
  leaf-same c m small is low e =
      ap (at new) (sym is) ∙ leaves m low ∙ ap (λ b. cond b (leaf_hash rows (first + m)) (at old (leaf_place m))) (sym (marks m low) ∙ ap marked is ∙ e) ∙ ap (at old) is

  unchanged : (c : ℕ) → c < length old → marked c ≡ false → at new c ≡ at old c
  unchanged c small e = elim (cases_lt (in_branch c) BRANCH_LEAVES) [
    | inl l ↦ inner c l
    | inr h ↦ let m : ℕ = c - BRANCH_LEAVES * (c / BRANCH_NODES + 1) in leaf-same c m small (omega (arith, h)) (omega (arith, h, small, branches.whole)) e
  ]

  pub nearly : AreNearlyBranches new marked
  nearly = record {
    whole = ap (λ n. n % BRANCH_NODES) len ∙ branches.whole;
    joins = λ i is a b. record {
      join =
          let high : i < length old = omega (arith, len, is.0) in
          inner i is.2 ∙ (branches.joins i (high, is.1, is.2)).join
          ∙ ap (λ y. joined y (at old (left_of i + 1))) (sym (unchanged (left_of i) (omega (arith, high, is.2, branches.whole)) a))
          ∙ ap (joined (at new (left_of i))) (sym (unchanged (left_of i + 1) (omega (arith, high, is.2, branches.whole)) b));
    };
  }

-- ---- one part behind another
at-front : (f l : List (List ℕ)) (i : ℕ) → i < length f → at (f ++ l) i ≡ at f i
at-front [] l i h = absurd (omega (arith, h))
at-front (x ∷ f) l zero h = refl
at-front (x ∷ f) l (suc i) h = at-front f l i (omega (arith, h))

at-back : (f l : List (List ℕ)) (i : ℕ) → length f ≤ i → at (f ++ l) i ≡ at l (i - length f)
at-back f l i h = get_or-append_right f l (length f) i [] refl h

pub both-branches : (a b : List (List ℕ)) → AreBranches a → AreBranches b → AreBranches (a ++ b)
both-branches a b front back = record {
  whole = omega (arith, length-append a b, front.whole, back.whole);
  joins = λ i inner. elim (cases_lt i (length a)) [
    | inl l ↦
        let x : left_of i < length a = omega (arith, l, inner.2, front.whole) in
        let y : left_of i + 1 < length a = omega (arith, l, inner.2, front.whole) in
        record {
          join = at-front a b i l ∙ (front.joins i (l, inner.1, inner.2)).join ∙ ap (λ h. joined h (at a (left_of i + 1))) (sym (at-front a b (left_of i) x)) ∙ ap (joined (at (a ++ b) (left_of i))) (sym (at-front a b (left_of i + 1) y));
        }
    | inr h ↦
        let j : ℕ = i - length a in
        let here : in_branch j ≡ in_branch i = omega (arith, h, front.whole) in
        let left : left_of i - length a ≡ left_of j = omega (arith, h, front.whole) in
        let right : left_of i + 1 - length a ≡ left_of j + 1 = omega (arith, h, front.whole) in
        record {
          join =
              at-back a b i h ∙ (back.joins j (omega (arith, h, inner.0, length-append a b), omega (arith, here, inner.1), omega (arith, here, inner.2))).join
              ∙ ap (λ h. joined h (at b (left_of j + 1))) (sym (at-back a b (left_of i) (omega (arith, h)) ∙ ap (at b) left))
              ∙ ap (joined (at (a ++ b) (left_of i))) (sym (at-back a b (left_of i + 1) (omega (arith, h)) ∙ ap (at b) right));
        }
  ];
}

-- leaf m, in the front or in the back
leaf-front : (a b : List (List ℕ)) (m : ℕ) → AreWhole (length a) → 2 * m < length a → at (a ++ b) (leaf_place m) ≡ at a (leaf_place m)
leaf-front a b m whole small = at-front a b (leaf_place m) (omega (arith, whole, small))

leaf-back : (a b : List (List ℕ)) (m : ℕ) → AreWhole (length a) → length a ≤ 2 * m → at (a ++ b) (leaf_place m) ≡ at b (leaf_place (m - length a / 2))
leaf-back a b m whole large =
    let place : leaf_place m - length a ≡ leaf_place (m - length a / 2) = omega (arith, whole, large) in
    at-back a b (leaf_place m) (omega (arith, whole, large)) ∙ ap (at b) place

pub both-empty : (a b : List (List ℕ)) → AreEmpty a → AreEmpty b → AreEmpty (a ++ b)
both-empty a b front back = record {
  branches = both-branches a b front.branches back.branches;
  leaves = λ m small. elim (cases_lt (2 * m) (length a)) [
    | inl l ↦ leaf-front a b m front.branches.whole l ∙ front.leaves m l
    | inr h ↦ leaf-back a b m front.branches.whole h ∙ back.leaves (m - length a / 2) (omega (arith, h, small, length-append a b, front.branches.whole))
  ];
}

pub both-refreshed : (dirty : List ℕ) (rows : Rows) (first second : ℕ) (a b x y : List (List ℕ)) → second ≡ first + length a / 2 → AreWhole (length a) → AreRefreshed dirty rows first a x → AreRefreshed dirty rows second b y → AreRefreshed dirty rows first (a ++ b) (x ++ y)
both-refreshed dirty rows first second a b x y begins whole front back = record {
  len = length-append x y ∙ ap (λ n. n + length y) front.len ∙ ap (λ n. length a + n) back.len ∙ sym (length-append a b);
  branches = both-branches x y front.branches back.branches;
  leaves = λ m small. elim (cases_lt (2 * m) (length a)) [
    | inl l ↦
        leaf-front x y m front.branches.whole (omega (arith, l, front.len)) ∙ front.leaves m l
        ∙ ap (λ old. rehashed dirty rows old (first + m)) (sym (leaf-front a b m whole l))
    | inr h ↦
        let k : ℕ = m - length a / 2 in
        let same : m - length x / 2 ≡ k = ap (λ n. m - n / 2) front.len in
        let number : second + k ≡ first + m = omega (arith, begins, h) in
        leaf-back x y m front.branches.whole (omega (arith, h, front.len)) ∙ ap (λ n. at y (leaf_place n)) same
        ∙ back.leaves k (omega (arith, h, small, length-append a b, whole))
        ∙ ap (rehashed dirty rows (at b (leaf_place k))) number
        ∙ ap (λ old. rehashed dirty rows old (first + m)) (sym (leaf-back a b m whole h))
  ];
}

-- a branch of leaves that are all alike
pub alike-branch : (nodes : List (List ℕ)) (hash : List ℕ) → length nodes ≡ BRANCH_NODES → ((i : ℕ) → 1 ≤ i → i < BRANCH_LEAVES → IsJoin nodes i)
    → ((n : ℕ) → n < BRANCH_LEAVES → at nodes (BRANCH_LEAVES + n) ≡ hash) → hash ≡ sha256 (0 ∷ []) → AreEmpty nodes
alike-branch nodes hash full joins leaves is = record {
  branches = record { whole = omega (arith, full); joins = λ i inner. joins i (omega (arith, inner.1)) (omega (arith, full, inner.0, inner.2)) };
  leaves = λ m small. let place : leaf_place m ≡ BRANCH_LEAVES + m = omega (arith, small, full) in ap (at nodes) place ∙ leaves m (omega (arith, small, full)) ∙ is;
}
