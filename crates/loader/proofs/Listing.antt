-- A list of rows in any order and the set of its keys.
use Rattle.std.proofs.Common.{◌≡◌, ◌+◌, Bool, true, false, cond, List, [], ◌∷◌, ◌++◌, Option, Some, is_some, refl, sym, ap, ◌∙◌}
use Rattle.std.specs.BTreeSet.{BTreeSet, Updates, contains}
use Rattle.std.specs.BTreeMap.{is_at}
use Rattle.std.specs.Cmp.{eq_by_cmp_equiv}
use Rattle.std.specs.FinMap.{empty, get, get-empty, get-insert, insert}
use Rattle.std.specs.List.{list_all, list_any}
use Rattle.std.specs.Ordering.{eq_by_cmp}
use Rattle.loader.specs.LateRows.{listed}
use Rattle.tpcc_rows.specs.Changing.{with_each}
use Rattle.tpcc_rows.specs.RowKinds.{fits}
use Rattle.tpcc_rows.specs.RowMap.{Rows, row_key_cmp}
use Rattle.tpcc_rows.specs.declared.key.RowKey.{RowKey}
use Rattle.tpcc_rows.specs.declared.row.Row.{Row}
use Rattle.tpcc_rows.proofs.Keys.{row_key_cmp_total}
use Rattle.tpcc_rows.proofs.Puts.{with_each-push}
use Rattle.tpcc_rows.proofs.Singles.{and-left, and-right}

-- the set's keys are those with a row
abbrev pub AreKeys : BTreeSet RowKey → Rows → Type 0
AreKeys keys rows = (k : RowKey) → contains row_key_cmp keys k ≡ is_some (get rows k)

pub no-keys : (keys : BTreeSet RowKey) → keys.keys ≡ [] → AreKeys keys empty
no-keys keys none k = ap (list_any (is_at (row_key_cmp k))) none ∙ sym (ap is_some (get-empty row_key_cmp k))

some-cond : (b : Bool) (x : Row) (o : Option Row) → cond b true (is_some o) ≡ is_some (cond b (Some x) o)
some-cond true x o = refl
some-cond false x o = refl

-- one more row and its key
more-keys : (rows : Rows) (k : RowKey) (x : Row) (old new : BTreeSet RowKey) → AreKeys old rows → Updates row_key_cmp old new k true → AreKeys new (insert rows k x)
more-keys rows k x old new are more q =
    more.0 q ∙ ap (cond (eq_by_cmp row_key_cmp k q) true) (are q) ∙ some-cond (eq_by_cmp row_key_cmp k q) x (get rows q)
    ∙ ap (λ b. is_some (cond b (Some x) (get rows q))) ((eq_by_cmp_equiv row_key_cmp_total).symm k q)
    ∙ ap is_some (sym (get-insert row_key_cmp_total rows k x q))

pub pushed-keys : (es : List (RowKey × Row)) (e : RowKey × Row) (old new : BTreeSet RowKey) → AreKeys old (listed es) → Updates row_key_cmp old new e.0 true → AreKeys new (listed (es ++ e ∷ []))
pushed-keys es e old new are more k =
    more-keys (with_each es empty) e.0 e.1 old new are more k ∙ ap (λ (rows : Rows). is_some (get rows k)) (sym (with_each-push es e empty))

pub pushed-fits : (es : List (RowKey × Row)) (e : RowKey × Row) → list_all (λ row. fits row.0 row.1) es ≡ true → fits e.0 e.1 ≡ true → list_all (λ row. fits row.0 row.1) (es ++ e ∷ []) ≡ true
pushed-fits [] e all fit = rw fit refl
pushed-fits (d ∷ es) e all fit = rw (and-left (fits d.0 d.1) _ all, pushed-fits es e (and-right (fits d.0 d.1) _ all) fit) refl
