-- Joins in a list of branches, and the node that each place holds.
use Rattle.std.proofs.Common.{◌≡◌, ◌≢◌, inl, inr, ℕ, zero, suc, ◌+◌, ◌-◌, ◌*◌, ◌%◌, ◌<◌, ◌≤◌, ◌||◌, Bool, true, false, cond, List, [], ◌∷◌, length, get_or, refl, sym, ap, ◌∙◌, arith}
use Rattle.std.proofs.lemmas.List.FromFn.{get_or-map-range_with_len}
use Rattle.std.proofs.lemmas.Bool.{cases_Bool, cases_lt, cond-true, cond-false, false_from_ne_true, or_parts}
use Rattle.merkle.specs.Jobs.{AreGathered, has_place}
use Rattle.merkle.specs.Nodes.{at, in_branch, left_of, leaf_place, leaves_of, join_at, node_over, AreBranches, AreJoinedTo, AreNearlyBranches, IsAtLevel, IsInner, IsJoin, IsOf, IsWidth}
use Rattle.merkle.specs.declared.jobs.Job.{Job}
use Rattle.merkle.specs.declared.marks.TheConstants.{BRANCHES, BRANCH_LEAVES, BRANCH_NODES}
use Rattle.merkle.proofs.Placing.{of-place}
use Rattle.tpcc_model.specs.Roots.{joined, leaf_hash, node, root}
use Rattle.tpcc_rows.specs.RowMap.{Rows}
use Rattle.tpcc_rows.specs.declared.codes.TheConstants.{LEAVES}

-- ---- some nodes of a level joined again
module _ (nodes new : List (List ℕ)) (marks after : ℕ → Bool) (jobs : List Job) (low high from to : ℕ) (positive : 1 ≤ low) (order : low ≤ high) (apart : high ≤ 2 * low) (inside : high ≤ BRANCH_LEAVES)
    (gathered : AreGathered (IsAtLevel low high) (λ i. marks (left_of i) || marks (left_of i + 1)) from to jobs)
    (marked : (i : ℕ) → after i ≡ (has_place jobs i || marks i))
    (put : (i : ℕ) → at new i ≡ cond (has_place jobs i) (join_at nodes i) (at nodes i)) (before : AreJoinedTo low high from nodes marks) where
  outside : (i : ℕ) → ((from ≤ i) → (i < to) → IsAtLevel low high i → ⊥) → has_place jobs i ≡ false
  outside i out = false_from_ne_true (has_place jobs i) (λ e. let r = of-place (λ n. (from ≤ n) × (n < to) × IsAtLevel low high n) jobs gathered.range i e in out r.0 r.1 r.2)

  same : (i : ℕ) → has_place jobs i ≡ false → at new i ≡ at nodes i
  same i e = put i ∙ cond-false (has_place jobs i) (join_at nodes i) (at nodes i) e

  children : (i : ℕ) → has_place jobs (left_of i) ≡ false → has_place jobs (left_of i + 1) ≡ false → join_at nodes i ≡ join_at new i
  children i a b = ap (λ y. joined y (at nodes (left_of i + 1))) (sym (same (left_of i) a)) ∙ ap (joined (at new (left_of i))) (sym (same (left_of i + 1) b))

  kept : (i : ℕ) → has_place jobs i ≡ false → has_place jobs (left_of i) ≡ false → has_place jobs (left_of i + 1) ≡ false → IsJoin nodes i → IsJoin new i
  kept i e a b h = record { join = same i e ∙ h.join ∙ children i a b }

  put-join : (i : ℕ) → has_place jobs i ≡ true → has_place jobs (left_of i) ≡ false → has_place jobs (left_of i + 1) ≡ false → IsJoin new i
  put-join i e a b = record { join = put i ∙ cond-true (has_place jobs i) (join_at nodes i) (at nodes i) e ∙ children i a b }

  -- children of what is at the level or below it are below it
  left-out : (i : ℕ) → low ≤ in_branch i → in_branch i < BRANCH_LEAVES → has_place jobs (left_of i) ≡ false
  left-out i l h = outside (left_of i) (λ x y at_level. omega (arith, l, h, at_level.1, apart))

  right-out : (i : ℕ) → low ≤ in_branch i → in_branch i < BRANCH_LEAVES → has_place jobs (left_of i + 1) ≡ false
  right-out i l h = outside (left_of i + 1) (λ x y at_level. omega (arith, l, h, at_level.1, apart))

  in-level : (i : ℕ) → IsInner nodes i → from ≤ i → i < to → IsAtLevel low high i → IsJoin new i
  in-level i inner f t level =
      let a = left-out i level.0 inner.2 in
      let b = right-out i level.0 inner.2 in
      elim (cases_Bool (has_place jobs i)) [
        | inl e ↦ put-join i e a b
        | inr e ↦ let none = or_parts _ _ (sym (gathered.found i f t level) ∙ e) in kept i e a b (before.nearly.joins i inner none.0 none.1)
      ]

  pub some-joined : length new ≡ length nodes → AreJoinedTo low high to new after
  some-joined len = record {
    nearly = record {
      whole = ap (λ n. n % BRANCH_NODES) len ∙ before.nearly.whole;
      joins = λ i inner a b.
          let left = or_parts _ _ (sym (marked (left_of i)) ∙ a) in
          let right = or_parts _ _ (sym (marked (left_of i + 1)) ∙ b) in
          elim (cases_Bool (has_place jobs i)) [
            | inl e ↦ put-join i e left.0 right.0
            | inr e ↦ kept i e left.0 right.0 (before.nearly.joins i (omega (arith, len, inner.0), inner.1, inner.2) left.1 right.1)
          ];
    };
    below = λ i inner h.
        kept i (outside i (λ x y level. omega (arith, level.1, h))) (left-out i (omega (arith, h, order)) inner.2) (right-out i (omega (arith, h, order)) inner.2)
        (before.below i (omega (arith, len, inner.0), inner.1, inner.2) h);
    here = λ i inner small level. elim (cases_lt i from) [
      | inl early ↦
          kept i (outside i (λ x y l. omega (arith, x, early))) (left-out i level.0 inner.2) (right-out i level.0 inner.2)
          (before.here i (omega (arith, len, inner.0), inner.1, inner.2) early level)
      | inr late ↦ in-level i (omega (arith, len, inner.0), inner.1, inner.2) late small level
    ];
  }

  pub leaves-same : (i : ℕ) → BRANCH_LEAVES ≤ in_branch i → at new i ≡ at nodes i
  leaves-same i h = same i (outside i (λ x y level. omega (arith, level.1, h, inside)))

-- ---- level by level
pub lowest-level : (nodes : List (List ℕ)) (marks : ℕ → Bool) (low : ℕ) → AreNearlyBranches nodes marks → AreJoinedTo low BRANCH_LEAVES 0 nodes marks
lowest-level nodes marks low nearly = record { nearly = nearly; below = λ i inner h. absurd (omega (arith, h, inner.2)); here = λ i inner h l. absurd (omega (arith, h)) }

pub next-level : (nodes : List (List ℕ)) (marks : ℕ → Bool) (lower low high : ℕ) → AreJoinedTo low high (length nodes) nodes marks → AreJoinedTo lower low 0 nodes marks
next-level nodes marks lower low high done = record {
  nearly = done.nearly;
  below = λ i inner h. elim (cases_lt (in_branch i) high) [
    | inl l ↦ done.here i inner inner.0 (h, l)
    | inr l ↦ done.below i inner l
  ];
  here = λ i inner h l. absurd (omega (arith, h));
}

pub all-joined : (nodes : List (List ℕ)) (marks : ℕ → Bool) (low high : ℕ) → high ≤ 1 → AreJoinedTo low high 0 nodes marks → AreBranches nodes
all-joined nodes marks low high small done = record { whole = done.nearly.whole; joins = λ i inner. done.below i inner (omega (arith, small, inner.1)) }

-- ---- the root
-- at this height above the leaves a branch has w nodes, and c nodes are in the branches before branch b
abbrev IsAt : ℕ → ℕ → ℕ → ℕ → Type 0
IsAt zero w c b = (w ≡ BRANCH_LEAVES) × (c ≡ BRANCH_LEAVES * b)
IsAt (suc height) w c b = IsAt height (2 * w) (2 * c) b

at-width : (height w c b : ℕ) → IsAt height w c b → w ≤ BRANCH_LEAVES
at-width zero w c b is = omega (arith, is.0)
at-width (suc height) w c b is = let k = at-width height (2 * w) (2 * c) b is in omega (arith, k)

-- a level of b nodes at this height above the branches' roots has BRANCHES of them below
abbrev IsOver : ℕ → ℕ → Type 0
IsOver zero b = b ≡ BRANCHES
IsOver (suc height) b = IsOver height (2 * b)

module _ (nodes : List (List ℕ)) (branches : AreBranches nodes) (full : length nodes ≡ 2 * LEAVES) where
  abbrev leaf_at : ℕ → List ℕ
  leaf_at n = at nodes (leaf_place n)

  -- the places of a branch hold the nodes of the tree
  at-node : (height w c b n : ℕ) → IsAt height w c b → n < w → b < BRANCHES → at nodes (BRANCH_NODES * b + (w + n)) ≡ node leaf_at height (c + n)
  unfolding node
  at-node zero w c b n is small inside =
      let place : BRANCH_NODES * b + (w + n) ≡ leaf_place (c + n) = omega (arith, is.0, is.1, small) in
      ap (at nodes) place
  at-node (suc height) w c b n is small inside =
      let k = at-width height (2 * w) (2 * c) b is in
      let i : ℕ = BRANCH_NODES * b + (w + n) in
      let left : left_of i ≡ BRANCH_NODES * b + (2 * w + 2 * n) = omega (arith, k, small) in
      let right : left_of i + 1 ≡ BRANCH_NODES * b + (2 * w + (2 * n + 1)) = omega (arith, k, small) in
      let first : 2 * c + 2 * n ≡ 2 * (c + n) = omega arith in
      let second : 2 * c + (2 * n + 1) ≡ 2 * (c + n) + 1 = omega arith in
      (branches.joins i (omega (arith, k, small, inside, full), omega (arith, k, small), omega (arith, k, small))).join
      ∙ ap (λ y. joined y (at nodes (left_of i + 1))) (ap (at nodes) left ∙ at-node height (2 * w) (2 * c) b (2 * n) is (omega (arith, small)) inside ∙ ap (node leaf_at height) first)
      ∙ ap (joined (node leaf_at height (2 * (c + n)))) (ap (at nodes) right ∙ at-node height (2 * w) (2 * c) b (2 * n + 1) is (omega (arith, small)) inside ∙ ap (node leaf_at height) second)

  over-node : (height total w n : ℕ) → total ≡ height + 12 → IsOver height w → n < w → node_over nodes height n ≡ node leaf_at total n
  unfolding node
  over-node zero total w n sum over small =
      let place : BRANCH_NODES * n + 1 ≡ BRANCH_NODES * n + (1 + 0) = omega arith in
      let whole : n + 0 ≡ n = omega arith in
      let high : 12 ≡ total = omega (arith, sum) in
      ap (at nodes) place ∙ at-node 12 1 n n 0 (refl, (omega arith)) (omega arith) (omega (arith, over, small)) ∙ ap (node leaf_at 12) whole ∙ ap (λ h. node leaf_at h n) high
  over-node (suc height) zero w n sum over small = absurd (omega (arith, sum))
  over-node (suc height) (suc total) w n sum over small =
      ap (λ y. joined y (node_over nodes height (2 * n + 1))) (over-node height total (2 * w) (2 * n) (omega (arith, sum)) over (omega (arith, small)))
      ∙ ap (joined (node leaf_at total (2 * n))) (over-node height total (2 * w) (2 * n + 1) (omega (arith, sum)) over (omega (arith, small)))

-- a level of b nodes at this height has LEAVES leaves below
abbrev IsWide : ℕ → ℕ → Type 0
IsWide zero b = b ≡ LEAVES
IsWide (suc height) b = IsWide height (2 * b)

-- nodes over leaf hashes that agree are the same
node-alike : (f g : ℕ → List ℕ) → ((n : ℕ) → n < LEAVES → f n ≡ g n) → (height b : ℕ) → IsWide height b → (n : ℕ) → n < b → node f height n ≡ node g height n
unfolding node
node-alike f g e zero b w n small = e n (omega (arith, w, small))
node-alike f g e (suc height) b w n small =
    ap (λ y. joined y (node f height (2 * n + 1))) (node-alike f g e height (2 * b) w (2 * n) (omega (arith, small)))
    ∙ ap (joined (node g height (2 * n))) (node-alike f g e height (2 * b) w (2 * n + 1) (omega (arith, small)))

pub at-leaf : (nodes : List (List ℕ)) (n : ℕ) → n < LEAVES → at (leaves_of nodes) n ≡ at nodes (leaf_place n)
at-leaf nodes n small = get_or-map-range_with_len (λ n. at nodes (leaf_place n)) 0 LEAVES n n [] small (omega arith)

-- the node over all branches is the root from scratch
pub over-root : (nodes : List (List ℕ)) → AreBranches nodes → length nodes ≡ 2 * LEAVES → (rows : Rows) → IsOf (leaves_of nodes) rows → node_over nodes 4 0 ≡ root rows
unfolding root
over-root nodes branches full rows h =
    over-node nodes branches full 4 16 1 0 refl refl (omega arith)
    ∙ node-alike (λ n. at nodes (leaf_place n)) (leaf_hash rows) (λ n small. sym (at-leaf nodes n small) ∙ h.each n small) 16 1 refl 0 (omega arith)

pub at-default : (nodes : List (List ℕ)) (i : ℕ) (d : List ℕ) → i < length nodes → get_or nodes i d ≡ at nodes i
at-default [] i d h = absurd (omega (arith, h))
at-default (x ∷ nodes) zero d h = refl
at-default (x ∷ nodes) (suc i) d h = at-default nodes i d (omega (arith, h))

-- ---- heights in a branch
pub width_le : (height b : ℕ) → IsWidth height b → b ≤ BRANCH_LEAVES
width_le zero b e = omega (arith, e)
width_le (suc height) b e = let k = width_le height (2 * b) e in omega (arith, k)

-- twice as many nodes are no more than the leaves, but at their own height
pub wide : (height b : ℕ) → height ≢ 0 → IsWidth height b → 2 * b ≤ BRANCH_LEAVES
wide zero b ne e = absurd (ne refl)
wide (suc height) b ne e = width_le height (2 * b) e

-- ---- leaves that are all alike
-- a level of one hash is put above another one
pub level-above : (old new : List (List ℕ)) (low : ℕ) (below hash : List ℕ) → hash ≡ joined below below
    → ((i : ℕ) → 2 * low ≤ i → i < 2 * (2 * low) → at old i ≡ below) → ((i : ℕ) → 2 * low ≤ i → i < BRANCH_LEAVES → IsJoin old i)
    → ((i : ℕ) → low ≤ i → i < 2 * low → at new i ≡ hash) → ((i : ℕ) → 2 * low ≤ i → at new i ≡ at old i)
    → (i : ℕ) → low ≤ i → i < BRANCH_LEAVES → IsJoin new i
level-above old new low below hash is level joins inside above i l h = elim (cases_lt i (2 * low)) [
  | inl s ↦
      let left : at new (left_of i) ≡ below = above (left_of i) (omega (arith, h, l)) ∙ level (left_of i) (omega (arith, h, l)) (omega (arith, h, s)) in
      let right : at new (left_of i + 1) ≡ below = above (left_of i + 1) (omega (arith, h, l)) ∙ level (left_of i + 1) (omega (arith, h, l)) (omega (arith, h, s)) in
      record { join = inside i l s ∙ is ∙ sym (ap (λ y. joined y (at new (left_of i + 1))) left ∙ ap (joined below) right) }
  | inr b ↦ record {
    join = above i b ∙ (joins i b h).join ∙ ap (λ y. joined y (at old (left_of i + 1))) (sym (above (left_of i) (omega (arith, h, l))))
        ∙ ap (joined (at new (left_of i))) (sym (above (left_of i + 1) (omega (arith, h, l))));
  }
]

-- ---- above the branches
pub over-zero : (nodes : List (List ℕ)) (height n : ℕ) → height ≡ 0 → at nodes (BRANCH_NODES * n + 1) ≡ node_over nodes height n
unfolding node
over-zero nodes height n e = ap (λ h. node_over nodes h n) (sym e)

over-suc : (nodes : List (List ℕ)) (height n : ℕ) → height ≢ 0 → joined (node_over nodes (height - 1) (2 * n)) (node_over nodes (height - 1) (2 * n + 1)) ≡ node_over nodes height n
unfolding node
over-suc nodes zero n ne = absurd (ne refl)
over-suc nodes (suc height) n ne = let same : suc height - 1 ≡ height = omega arith in ap (λ h. joined (node_over nodes h (2 * n)) (node_over nodes h (2 * n + 1))) same

-- a level of w nodes at a height, joined from that below
pub joined-level : (nodes old new : List (List ℕ)) (w height : ℕ) → 2 * w ≤ BRANCHES → ((n : ℕ) → n < 2 * w → at old (2 * w + n) ≡ node_over nodes height n) → ((n : ℕ) → n < w → at new (w + n) ≡ join_at old (w + n))
    → (n : ℕ) → n < w → at new (w + n) ≡ node_over nodes (height + 1) n
joined-level nodes old new w height few level joins n small =
    let left : left_of (w + n) ≡ 2 * w + 2 * n = omega (arith, few, small) in
    let right : left_of (w + n) + 1 ≡ 2 * w + (2 * n + 1) = omega (arith, few, small) in
    let below : height ≡ height + 1 - 1 = omega arith in
    let above : height + 1 ≢ 0 = λ e. absurd (omega (arith, e)) in
    joins n small
    ∙ ap (λ y. joined y (at old (left_of (w + n) + 1))) (ap (at old) left ∙ level (2 * n) (omega (arith, small)))
    ∙ ap (joined (node_over nodes height (2 * n))) (ap (at old) right ∙ level (2 * n + 1) (omega (arith, small)))
    ∙ ap (λ h. joined (node_over nodes h (2 * n)) (node_over nodes h (2 * n + 1))) below
    ∙ over-suc nodes (height + 1) n above
