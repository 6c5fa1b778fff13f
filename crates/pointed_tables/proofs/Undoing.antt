-- Changes taken back.
use Rattle.std.proofs.Common.{◌≡◌, ℕ, ◌≤◌, ◌+◌, ◌||◌, eqb, true, false, cond, is_none, is_some, List, [], ◌∷◌, ◌++◌, Option, Some, None, inl, inr, refl, sym, ap, subst, ◌∙◌, arith}
use Rattle.std.specs.FinMap.{get, insert, remove, same_map}
use Rattle.std.specs.Ordering.{eq_by_cmp}
use Rattle.std.proofs.lemmas.Bool.{cases_Bool}
use Rattle.serializability.specs.Changes.{changed}
use Rattle.serializability.proofs.Changes.{get-changed}
use Rattle.tpcc_rows.specs.declared.key.RowKey.{RowKey}
use Rattle.tpcc_rows.specs.declared.row.Row.{Row}
use Rattle.tpcc_rows.specs.Changing.{new_row_fits}
use Rattle.tpcc_rows.specs.Leaves.{leaf, page_rows}
use Rattle.tpcc_rows.specs.RowMap.{Rows, row_key_cmp}
use Rattle.tpcc_rows.proofs.Keys.{row_key_cmp_total, exact_keys}
use Rattle.tpcc_rows.proofs.Singles.{gone, here, tied}
use Rattle.rollback.specs.Marks.{HasAlso, is_dirty}
use Rattle.rollback.proofs.Marking.{or-left, or-right, page-changed}
use Rattle.pointed_tables.specs.Logs.{AreOlds, KeepsOthers, LeadBack, Olds, needed, undone, wants}

pub undone-more : (os : Olds) (o : RowKey × Option Row) (m : Rows) → undone (os ++ o ∷ []) m ≡ undone os (changed m o.0 o.1)
undone-more [] o m = refl
undone-more (p ∷ os) o m = ap (λ (z : Rows). changed z p.0 p.1) (undone-more os o m)

pub needed-more : (os : Olds) (o : RowKey × Option Row) (m : Rows) → needed (os ++ o ∷ []) m ≡ needed os (changed m o.0 o.1) + wants o.0 o.1 m
needed-more [] o m = refl
needed-more (p ∷ os) o m =
    let rest = needed-more os o m in
    let same : wants p.0 p.1 (undone (os ++ o ∷ []) m) ≡ wants p.0 p.1 (undone os (changed m o.0 o.1)) = ap (λ (z : Rows). wants p.0 p.1 z) (undone-more os o m) in
    omega (arith, rest, same)

pub olds-more : (os : Olds) (o : RowKey × Option Row) → AreOlds os → new_row_fits o.0 o.1 ≡ true → AreOlds (os ++ o ∷ [])
olds-more [] o h f = (f, tt)
olds-more (p ∷ os) o h f = (h.0, olds-more os o h.1 f)

pub olds-less : (os : Olds) (o : RowKey × Option Row) → AreOlds (os ++ o ∷ []) → (new_row_fits o.0 o.1 ≡ true) × AreOlds os
olds-less [] o h = (h.0, tt)
olds-less (p ∷ os) o h = let rest = olds-less os o h.1 in (rest.0, (h.0, rest.1))

-- the key has again what it had
pub changed-back : (m : Rows) (k : RowKey) (c : Option Row) → changed (changed m k c) k (get m k) ≡ m
changed-back m k c = same_map row_key_cmp_total exact_keys _ _ (λ q. get-changed row_key_cmp_total exact_keys (changed m k c) k (get m k) q ∙ elim (cases_Bool (eq_by_cmp row_key_cmp q k)) [
  | inl t ↦ ap (λ b. cond b (get m k) (get (changed m k c) q)) t ∙ ap (get m) (sym (exact_keys q k (tied _ t)))
  | inr f ↦
      ap (λ b. cond b (get m k) (get (changed m k c) q)) f
      ∙ get-changed row_key_cmp_total exact_keys m k c q ∙ ap (λ b. cond b c (get m q)) f
])

-- ---- one change more
wants-replaced : (o : Option Row) (m : Rows) (k : RowKey) (x : Row) → wants k o (insert m k x) ≡ 0
wants-replaced None m k x = refl
wants-replaced (Some y) m k x = ap (λ (z : Option Row). cond (is_some z) 0 1) (here row_key_cmp_total exact_keys m k x)

wants-removed : (o : Option Row) (m : Rows) (k : RowKey) → wants k o (remove m k) ≡ cond (is_some o) 1 0
wants-removed None m k = refl
wants-removed (Some y) m k = ap (λ (z : Option Row). cond (is_some z) 0 1) (gone row_key_cmp_total exact_keys m k)

pub wants-changed : (c o : Option Row) (m : Rows) (k : RowKey) → wants k o (changed m k c) ≡ cond (is_none c) (cond (is_some o) 1 0) 0
wants-changed None o m k = wants-removed o m k
wants-changed (Some x) o m k = wants-replaced o m k x

-- a row that was put leads back to what its key had, without room
pub back-put : (old new : Rows) (k : RowKey) (x : Row) (was : Option Row) → was ≡ get old k → new_row_fits k was ≡ true → new ≡ insert old k x → LeadBack ((k, was) ∷ []) 0 old new
back-put old new k x was is fit e = record {
  back = ap (λ (m : Rows). changed m k was) e ∙ ap (λ (o : Option Row). changed (insert old k x) k o) is ∙ changed-back old k (Some x);
  fit = (fit, tt);
  counted = (let none : wants k was new ≡ 0 = ap (λ (m : Rows). wants k was m) e ∙ wants-replaced was old k x in omega (arith, none));
}

-- ---- taking back
-- what is left of a log leads back to the same rows
pub record IsRest (start : Olds) (before : Rows) (room : ℕ) (olds : Olds) (rows : Rows) (now : ℕ) : Type 0 where
  pub same : undone olds rows ≡ undone start before
  pub fit : AreOlds olds
  pub enough : now + needed start before ≡ room + needed olds rows
  pub few : needed olds rows ≤ now

pub record IsNext (olds os : Olds) (o : RowKey × Option Row) (rows : Rows) (now : ℕ) : Type 0 where
  pub fit : new_row_fits o.0 o.1 ≡ true
  pub room : wants o.0 o.1 rows ≤ now
  pub rest : AreOlds os
  pub undone_is : undone olds rows ≡ undone os (changed rows o.0 o.1)
  pub needed_is : needed olds rows ≡ needed os (changed rows o.0 o.1) + wants o.0 o.1 rows

module _ (start olds os : Olds) (o : RowKey × Option Row) (before rows : Rows) (room now : ℕ) (split : olds ≡ os ++ o ∷ []) (h : IsRest start before room olds rows now) where
  pub next-popped : IsNext olds os o rows now
  next-popped =
      let less = olds-less os o (subst AreOlds split h.fit) in
      let count : needed olds rows ≡ needed os (changed rows o.0 o.1) + wants o.0 o.1 rows = ap (λ (z : Olds). needed z rows) split ∙ needed-more os o rows in
      let few = h.few in
      record {
        fit = less.0;
        room = omega (arith, count, few);
        rest = less.1;
        undone_is = ap (λ (z : Olds). undone z rows) split ∙ undone-more os o rows;
        needed_is = count;
      }

  pub rest-popped : (rows2 : Rows) (now2 : ℕ) → rows2 ≡ changed rows o.0 o.1 → now2 + wants o.0 o.1 rows ≡ now → IsRest start before room os rows2 now2
  rest-popped rows2 now2 e less =
      let n = next-popped in
      let is : needed os rows2 ≡ needed os (changed rows o.0 o.1) = ap (λ (z : Rows). needed os z) e in
      let count = n.needed_is in
      let enough = h.enough in
      let few = h.few in
      record {
        same = ap (λ (z : Rows). undone os z) e ∙ sym n.undone_is ∙ h.same;
        fit = n.rest;
        enough = omega (arith, is, count, enough, few, less);
        few = omega (arith, is, count, few, less);
      }

pub record KeepsClean (before after : List ℕ) (old new : Rows) : Type 0 where
  pub kept : KeepsOthers before after old new

pub clean-more : (first before after : List ℕ) (old rows rows2 : Rows) (k : RowKey) (c : Option Row) (place : ℕ) → place ≡ leaf k → rows2 ≡ changed rows k c → HasAlso before place after → KeepsClean first before old rows → KeepsClean first after old rows2
clean-more first before after old rows rows2 k c place at e marks h = record {
  kept = λ n clean.
      let both : (eqb n place || is_dirty before n) ≡ false = sym (marks n) ∙ clean in
      let apart : eqb n (leaf k) ≡ false = ap (eqb n) (sym at) ∙ or-left (eqb n place) (is_dirty before n) both in
      let earlier = h.kept n (or-right (eqb n place) (is_dirty before n) both) in
      (earlier.0, ap (λ (r : Rows). page_rows r n) e ∙ page-changed rows k c n apart ∙ earlier.1);
}

pub clean-then : (first before after : List ℕ) (old rows rows2 : Rows) → KeepsOthers before after rows rows2 → KeepsClean first before old rows → KeepsClean first after old rows2
clean-then first before after old rows rows2 more h = record {
  kept = λ n clean.
      let later = more n clean in
      let earlier = h.kept n later.0 in
      (earlier.0, later.1 ∙ earlier.1);
}
