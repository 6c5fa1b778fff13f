-- What a change of rows leaves on the other leaves.
use Rattle.std.proofs.Common.{◌≡◌, ℕ, Bool, true, false, cond, ◌||◌, eqb, List, [], ◌∷◌, ◌++◌, Option, None, refl, sym, ap, ◌∙◌}
use Rattle.std.proofs.lemmas.Bool.{eqb-true}
use Rattle.std.specs.List.{list_any}
use Rattle.std.specs.FinMap.{get, same_map}
use Rattle.serializability.specs.Changes.{changed}
use Rattle.serializability.proofs.Changes.{get-changed}
use Rattle.tpcc_rows.specs.declared.key.RowKey.{RowKey}
use Rattle.tpcc_rows.specs.declared.row.Row.{Row}
use Rattle.tpcc_rows.specs.RowMap.{Rows}
use Rattle.tpcc_rows.specs.Leaves.{leaf, page_rows}
use Rattle.tpcc_rows.proofs.Keys.{row_key_cmp_total, exact_keys}
use Rattle.rollback.proofs.Paging.{get-page_rows, other_leaf}
use Rattle.rollback.specs.Marks.{is_dirty, HasAlso}
use Rattle.rollback.specs.Pointed.{Pointed, KeepsCleanLeaves}

pub or-left : (a b : Bool) → (a || b) ≡ false → a ≡ false
or-left true b h = h
or-left false b h = refl

pub or-right : (a b : Bool) → (a || b) ≡ false → b ≡ false
or-right true b h = cc
or-right false b h = h

-- a change at one key leaves the rows of the other leaves
pub page-changed : (rows : Rows) (k : RowKey) (c : Option Row) (n : ℕ) → eqb n (leaf k) ≡ false → page_rows (changed rows k c) n ≡ page_rows rows n
page-changed rows k c n e = same_map row_key_cmp_total exact_keys _ _ (λ q.
    get-page_rows (changed rows k c) n q
    ∙ elim (eqb (leaf q) n) as (λ b. eqb (leaf q) n ≡ b → cond b (get (changed rows k c) q) None ≡ cond b (get rows q) None) [
      | true ↦ λ t. get-changed row_key_cmp_total exact_keys rows k c q ∙ ap (λ b. cond b c (get rows q)) (other_leaf q k (ap (λ m. eqb m (leaf k)) (eqb-true (leaf q) n t) ∙ e))
      | false ↦ λ t. refl
    ] refl ∙ sym (get-page_rows rows n q))

-- so where its leaf is marked, the clean ones are kept
pub keeps-changed : (before old new : Pointed) (k : RowKey) (m : ℕ) (c : Option Row) → before ≡ old → m ≡ leaf k → new.rows ≡ changed before.rows k c → HasAlso before.dirty m new.dirty → KeepsCleanLeaves old new
keeps-changed before old new k m c view place rows marks n clean =
    let both : (eqb n m || is_dirty before.dirty n) ≡ false = sym (marks n) ∙ clean in
    let apart : eqb n (leaf k) ≡ false = ap (eqb n) (sym place) ∙ or-left (eqb n m) (is_dirty before.dirty n) both in (
      ap (λ (p : Pointed). is_dirty p.dirty n) (sym view) ∙ or-right (eqb n m) (is_dirty before.dirty n) both,
      ap (λ (r : Rows). page_rows r n) rows ∙ page-changed before.rows k c n apart ∙ ap (λ (p : Pointed). page_rows p.rows n) view,
    )

pub keeps-more : (a b c : Pointed) → KeepsCleanLeaves a b → KeepsCleanLeaves b c → KeepsCleanLeaves a c
keeps-more a b c first second n clean =
    let later = second n clean in
    let earlier = first n later.0 in
    (earlier.0, later.1 ∙ earlier.1)

-- ---- changes one after the other
or-swap : (a b c : Bool) → (a || (b || c)) ≡ (b || (a || c))
or-swap true true c = refl
or-swap true false c = refl
or-swap false b c = refl

or-assoc : (a b c : Bool) → (a || (b || c)) ≡ ((a || b) || c)
or-assoc true b c = refl
or-assoc false b c = refl

any-push : {X : Type 0} (test : X → Bool) (xs : List X) (x : X) → list_any test (xs ++ x ∷ []) ≡ (test x || list_any test xs)
any-push test [] x = refl
any-push test (y ∷ xs) x = ap (λ b. test y || b) (any-push test xs x) ∙ or-swap (test y) (test x) (list_any test xs)

-- the marks of some changes and of one more
pub marks-more : (test : RowKey × Option Row → Bool) (made : List (RowKey × Option Row)) (change : RowKey × Option Row) (old now new : Bool) → now ≡ (list_any test made || old) → new ≡ (test change || now) → new ≡ (list_any test (made ++ change ∷ []) || old)
marks-more test made change old now new so_far one =
    one ∙ ap (λ b. test change || b) so_far ∙ or-assoc (test change) (list_any test made) old ∙ ap (λ b. b || old) (sym (any-push test made change))
