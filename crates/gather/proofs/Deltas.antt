-- Deltas as one: the rows after them, and what a key has.
use Rattle.std.proofs.Common.{◌≡◌, ◌⊎◌, inl, inr, zero, suc, Bool, true, false, cond, T, List, [], ◌∷◌, ◌++◌, length, Option, Some, None, is_some, refl, sym, ap, ◌∙◌, arith}
use Rattle.std.specs.FinMap.{get, insert, find, entries, entries_sorted, is_sorted, empty, same_map, get-insert, get-entries, get-empty}
use Rattle.std.specs.FinMap.Entries.{below_all}
use Rattle.std.specs.List.{All, Any, flat_map}
use Rattle.std.specs.List.Sorted.{IsPermutation}
use Rattle.std.specs.Option.{option_or}
use Rattle.std.specs.Ordering.{eq_by_cmp}
use Rattle.std.proofs.lemmas.List.{nil_from_length}
use Rattle.std.proofs.lemmas.List.Sorted.{Contains-permutation, IsPermutation-sym}
use Rattle.serializability.specs.Changes.{apply, with_changes}
use Rattle.serializability.proofs.Changes.{apply-append}
use Rattle.tpcc_rows.specs.declared.key.RowKey.{RowKey}
use Rattle.tpcc_rows.specs.declared.row.Row.{Row}
use Rattle.tpcc_rows.specs.Changing.{after}
use Rattle.tpcc_rows.specs.RowMap.{row_key_cmp, Rows, Changes}
use Rattle.tpcc_rows.proofs.Changes.{after-last_changes}
use Rattle.tpcc_rows.proofs.Keys.{row_key_cmp_total, exact_keys}
use Rattle.tpcc_rows.proofs.Singles.{first, second, tied, not_found}
use Rattle.gather.specs.Merged.{AreApart, IsUnion, OrderIsFree, after_each, merged}

-- ---- one delta after the other
-- the changes of these deltas, over those that are known
abbrev pub with_deltas : Changes → List Changes → Changes
with_deltas known deltas = with_changes known (flat_map entries deltas)

with_changes-append : (cs ds : List (RowKey × Option Row)) (known : Changes) → with_changes known (cs ++ ds) ≡ with_changes (with_changes known cs) ds
with_changes-append [] ds known = refl
with_changes-append (c ∷ cs) ds known = with_changes-append cs ds (insert known c.0 c.1)

with_deltas-cons : (known delta : Changes) (deltas : List Changes) → with_deltas known (delta ∷ deltas) ≡ with_deltas (with_changes known (entries delta)) deltas
with_deltas-cons known delta deltas = with_changes-append (entries delta) (flat_map entries deltas) known

-- one delta more was put
pub one-more : (known more delta whole : Changes) (before left : List Changes) → before ≡ delta ∷ left → more ≡ with_changes known (entries delta) → with_deltas known before ≡ whole → with_deltas more left ≡ whole
one-more known more delta whole before left is put so_far =
    ap (λ (m : Changes). with_deltas m left) put ∙ sym (with_deltas-cons known delta left) ∙ ap (with_deltas known) (sym is) ∙ so_far

-- none is left
pub all-put : (known whole : Changes) (left : List Changes) → length left ≡ 0 → with_deltas known left ≡ whole → known ≡ whole
all-put known whole left end so_far = sym (ap (with_deltas known) (nil_from_length left end)) ∙ so_far

-- ---- the rows after them
apply-each : (deltas : List Changes) (rows : Rows) → apply (flat_map entries deltas) rows ≡ after_each rows deltas
unfolding after
apply-each [] rows = refl
apply-each (delta ∷ deltas) rows = apply-append (entries delta) (flat_map entries deltas) rows ∙ apply-each deltas (after rows delta)

pub after-merged : (deltas : List Changes) (rows : Rows) → after rows (merged deltas) ≡ after_each rows deltas
after-merged deltas rows = after-last_changes rows (flat_map entries deltas) ∙ apply-each deltas rows

-- ---- what a key has
-- a change that no later one hides
first_found : {X : Type 0} (b : Bool) (c : X) (o old : Option X) → (b ≡ true → o ≡ None) → option_or o (cond b (Some c) old) ≡ option_or (cond b (Some c) o) old
first_found true c o old alone = ap (λ x. option_or x (Some c)) (alone refl)
first_found false c o old alone = refl

get-with_changes : (es : List (RowKey × Option Row)) → T (is_sorted row_key_cmp es) → (known : Changes) (q : RowKey) → get (with_changes known es) q ≡ option_or (find row_key_cmp q es) (get known q)
get-with_changes [] h known q = refl
get-with_changes (e ∷ es) h known q =
    let below = first (below_all row_key_cmp e.0 es) (is_sorted row_key_cmp es) h in
    let sorted = second (below_all row_key_cmp e.0 es) (is_sorted row_key_cmp es) h in
    get-with_changes es sorted (insert known e.0 e.1) q ∙ ap (option_or (find row_key_cmp q es)) (get-insert row_key_cmp_total known e.0 e.1 q)
    ∙ first_found (eq_by_cmp row_key_cmp q e.0) e.1 (find row_key_cmp q es) (get known q) (λ t.
    let same : q ≡ e.0 = exact_keys q e.0 (tied (row_key_cmp q e.0) t) in
    ap (λ k. find row_key_cmp k es) same ∙ not_found row_key_cmp_total exact_keys e.0 es below)

-- a delta's change counts, and else the known one
get-with_delta : (known delta : Changes) (q : RowKey) → get (with_changes known (entries delta)) q ≡ option_or (get delta q) (get known q)
get-with_delta known delta q = get-with_changes (entries delta) (entries_sorted delta) known q ∙ ap (λ o. option_or o (get known q)) (sym (get-entries delta q))

get-with_deltas : (known delta : Changes) (deltas : List Changes) (q : RowKey) → get (with_deltas known (delta ∷ deltas)) q ≡ get (with_deltas (with_changes known (entries delta)) deltas) q
get-with_deltas known delta deltas q = ap (λ (m : Changes). get m q) (with_deltas-cons known delta deltas)

-- ---- the delta that gives it
abbrev Gives : RowKey → Option Row → Changes → Type 0
Gives q change delta = get delta q ≡ Some change

here : (P : Changes → Type 0) (x : Changes) (xs : List Changes) → P x → Any P (x ∷ xs)
here P x xs p = (0, x, omega arith, refl, p)

further : (P : Changes → Type 0) (x : Changes) (xs : List Changes) → Any P xs → Any P (x ∷ xs)
further P x xs (k, y, low, is, p) = (suc k, y, omega (arith, low), is, p)

either_of : {X : Type 0} (o old : Option X) (c : X) → option_or o old ≡ Some c → (o ≡ Some c) ⊎ (old ≡ Some c)
either_of None old c h = inr h
either_of (Some x) old c h = inl h

given : (deltas : List Changes) (known : Changes) (q : RowKey) (c : Option Row) → get (with_deltas known deltas) q ≡ Some c → (get known q ≡ Some c) ⊎ Any (Gives q c) deltas
given [] known q c h = inl h
given (d ∷ ds) known q c h = elim (given ds (with_changes known (entries d)) q c (sym (get-with_deltas known d ds q) ∙ h)) [
  | inl there ↦ elim (either_of (get d q) (get known q) c (sym (get-with_delta known d q) ∙ there)) [
    | inl new ↦ inr (here (Gives q c) d ds new)
    | inr old ↦ inl old
  ]
  | inr later ↦ inr (further (Gives q c) d ds later)
]

-- deltas without the key leave what is known
left_alone : (deltas : List Changes) (known : Changes) (q : RowKey) → All (λ d. get d q ≡ None) deltas → get (with_deltas known deltas) q ≡ get known q
left_alone [] known q none = refl
left_alone (d ∷ ds) known q none =
    get-with_deltas known d ds q ∙ left_alone ds (with_changes known (entries d)) q (λ k e low. none (suc k) e (omega (arith, low)))
    ∙ get-with_delta known d q ∙ ap (λ o. option_or o (get known q)) (none 0 d (omega arith))

counts : (deltas : List Changes) (known : Changes) (q : RowKey) (c : Option Row) → AreApart deltas → Any (Gives q c) deltas → get (with_deltas known deltas) q ≡ Some c
counts [] known q c apart (k, x, low, is, p) = absurd (omega (arith, low))
counts (d ∷ ds) known q c apart (zero, x, low, is, p) =
    let gives : get d q ≡ Some c = ap (λ (e : Changes). get e q) is ∙ p in
    get-with_deltas known d ds q ∙ left_alone ds (with_changes known (entries d)) q (λ k e below. apart 0 (suc k) e (omega arith) (omega (arith, below)) q (ap is_some gives))
    ∙ get-with_delta known d q ∙ ap (λ o. option_or o (get known q)) gives
counts (d ∷ ds) known q c apart (suc k, x, low, is, p) =
    get-with_deltas known d ds q ∙ counts ds (with_changes known (entries d)) q c (λ i j e less below. apart (suc i) (suc j) e (omega (arith, less)) (omega (arith, below))) (k, x, omega (arith, low), is, p)

none_known : {A : Type 0} (q : RowKey) (c : Option Row) → (get {R = row_key_cmp} empty q ≡ Some c) ⊎ A → A
none_known q c (inl known) = let none : None ≡ Some c = sym (get-empty row_key_cmp q) ∙ known in cc
none_known q c (inr a) = a

pub union-merged : (deltas : List Changes) → AreApart deltas → IsUnion deltas (merged deltas)
union-merged deltas apart q c = (λ h. none_known q c (given deltas empty q c h), λ by. counts deltas empty q c apart by)

-- ---- any order
some_of : {X : Type 0} (o old : Option X) (c : X) → old ≡ Some c → (d : X) × (option_or o old ≡ Some d)
some_of None old c h = (c, h)
some_of (Some x) old c h = (x, refl)

some_given : {X : Type 0} (o old : Option X) (c : X) → o ≡ Some c → (d : X) × (option_or o old ≡ Some d)
some_given o old c h = (c, ap (λ p. option_or p old) h)

-- a key that has a change has one after all of them
still_some : (deltas : List Changes) (known : Changes) (q : RowKey) (c : Option Row) → get known q ≡ Some c → (d : Option Row) × (get (with_deltas known deltas) q ≡ Some d)
still_some [] known q c h = (c, h)
still_some (d ∷ ds) known q c h =
    let (e, is) = some_of (get d q) (get known q) c h in
    let (f, at_end) = still_some ds (with_changes known (entries d)) q e (get-with_delta known d q ∙ is) in
    (f, get-with_deltas known d ds q ∙ at_end)

has_some : (deltas : List Changes) (known : Changes) (q : RowKey) (c : Option Row) → Any (Gives q c) deltas → (d : Option Row) × (get (with_deltas known deltas) q ≡ Some d)
has_some [] known q c (k, x, low, is, p) = absurd (omega (arith, low))
has_some (d ∷ ds) known q c (zero, x, low, is, p) =
    let (e, now) = some_given (get d q) (get known q) c (ap (λ (y : Changes). get y q) is ∙ p) in
    let (f, at_end) = still_some ds (with_changes known (entries d)) q e (get-with_delta known d q ∙ now) in
    (f, get-with_deltas known d ds q ∙ at_end)
has_some (d ∷ ds) known q c (suc k, x, low, is, p) =
    let (f, at_end) = has_some ds (with_changes known (entries d)) q c (k, x, omega (arith, low), is, p) in
    (f, get-with_deltas known d ds q ∙ at_end)

any-permutation : (P : Changes → Type 0) (ds es : List Changes) → IsPermutation ds es → Any P ds → Any P es
any-permutation P ds es same (k, x, low, is, p) = let (i, below, there) = Contains-permutation ds es x same (k, low, is) in (i, x, below, there, p)

-- two options of which each has what the other has
same_option : {X : Type 0} (a b : Option X) → ((c : X) → a ≡ Some c → b ≡ Some c) → ((c : X) → b ≡ Some c → (d : X) × (a ≡ Some d)) → a ≡ b
same_option None None there back = refl
same_option None (Some y) there back = let (d, none) = back y refl in cc
same_option (Some x) b there back = sym (there x refl)

pub order_is_free : OrderIsFree
order_is_free ds es apart same = same_map row_key_cmp_total exact_keys _ _ (λ q. same_option (get (merged es) q) (get (merged ds) q)
    (λ c h. counts ds empty q c apart (any-permutation (Gives q c) es ds (IsPermutation-sym ds es same) (none_known q c (given es empty q c h))))
    (λ c h. has_some es empty q c (any-permutation (Gives q c) ds es same (none_known q c (given ds empty q c h)))))
