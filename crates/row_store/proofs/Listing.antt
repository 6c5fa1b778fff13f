-- Ranks that stay listed.
use Rattle.std.proofs.Common.{◌≡◌, ◌⊎◌, ◌↔◌, ℕ, zero, suc, cond, true, false, is_some, List, [], ◌∷◌, ◌++◌, take, drop, Option, Some, None, Result, refl, Ok, Err, inl, inr, sym, ap, subst, ◌∙◌, arith}
use Rattle.std.proofs.lemmas.List.Elements.{All-append, All-cons, All-nil, All-take}
use Rattle.std.specs.FinMap as map
use Rattle.std.specs.FinMap.{entries, find, get, get-empty, get-entries, insert, remove}
use Rattle.std.specs.List.{slice_get}
use Rattle.std.specs.Option.{unwrap_or}
use Rattle.std.specs.Prelude.{⊤, All}
use Rattle.std.specs.Result.{IfOk, IsErr, OnOk, OnErr}
use Rattle.serializability.specs.Changes.{apply, changed}
use Rattle.std.specs.Ordering.{eq_by_cmp, nat_cmp}
use Rattle.std.proofs.lemmas.Bool.{cases_Bool}
use Rattle.rollback.specs.Pointed.{Pointed}
use Rattle.pointed_tables.specs.Logs.{IsGone, IsReplaced}
use Rattle.row_store.specs.Leaves.{AreLeaves, AreListed, AreNewListed, AreRanks, IsListed, without_oldest}
use Rattle.row_tables.specs.Stored.{IsRank}
use Rattle.row_tables.proofs.Keyed.{same_key}
use Rattle.tables.specs.ByRank.{ByRank}
use Rattle.tables.proofs.RankKeys.{same_rank}
use Rattle.tables.proofs.Tables.{rank_total, exact_ranks}
use Rattle.tpcc_rows.specs.Changing.{IsMadeInPart, after}
use Rattle.tpcc_rows.specs.Ranks.{IsNumbered, rank}
use Rattle.tpcc_rows.specs.RowMap.{Changes, Rows, row_key_cmp}
use Rattle.tpcc_rows.specs.declared.key.RowKey.{RowKey}
use Rattle.tpcc_rows.specs.declared.row.Row.{Row}
use Rattle.tpcc_rows.proofs.Keys.{row_key_cmp_total, exact_keys}
use Rattle.tpcc_rows.proofs.Singles as single

-- ---- one rank more
module _ (ranks : ByRank ⊤) (k : RowKey) (numbered : IsNumbered k) where
  abbrev more : ByRank ⊤
  more = insert ranks (rank k) tt

  still-there : (r : ℕ) → is_some (get ranks r) ≡ true → is_some (get more r) ≡ true
  still-there r there = elim (single.same_key rank_total exact_ranks r (rank k)) [
    | inl is ↦ ap (λ q. is_some (get more q)) is ∙ ap is_some (single.here rank_total exact_ranks ranks (rank k) tt)
    | inr apart ↦ ap is_some (single.apart rank_total exact_ranks ranks (rank k) tt r apart) ∙ there
  ]

  pub keys-more : ((r : ℕ) → is_some (get ranks r) ≡ true → IsRank r) → (r : ℕ) → is_some (get more r) ≡ true → IsRank r
  keys-more keys r there = elim (single.same_key rank_total exact_ranks r (rank k)) [
    | inl is ↦ record { key = k; numbered = numbered; ranked = sym is }
    | inr apart ↦ keys r (ap is_some (sym (single.apart rank_total exact_ranks ranks (rank k) tt r apart)) ∙ there)
  ]

  still-listed : (q : RowKey) → IsListed ranks q → IsListed more q
  still-listed q h = record { numbered = h.numbered; there = still-there (rank q) h.there }

  pub listed-more : (rows : Rows) → AreListed ranks rows → AreListed more rows
  listed-more rows h = record { listed = λ q there. still-listed q (h.listed q there) }

  pub listed-now : IsListed more k
  listed-now = record { numbered = numbered; there = ap is_some (single.here rank_total exact_ranks ranks (rank k) tt) }

-- what was listed is, whether or not memory was refused
pub others-listed : {A E : Type 0} (r : Result A E) (ranks new : ByRank ⊤) (k : RowKey) → IsNumbered k → OnOk r (new ≡ insert ranks (rank k) tt) → OnErr r (new ≡ ranks) → (q : RowKey) → IsListed ranks q → IsListed new q
others-listed (Ok x) ranks new k numbered ok err q h = subst (λ m. IsListed m q) (sym ok) (still-listed ranks k numbered q h)
others-listed (Err e) ranks new k numbered ok err q h = subst (λ m. IsListed m q) (sym err) h

-- ---- the keys that get a row
pub new-listed-more : (ranks : ByRank ⊤) (cs : List (RowKey × Option Row)) (c : RowKey × Option Row) → AreNewListed ranks cs → (is_some c.1 ≡ true → IsListed ranks c.0) → AreNewListed ranks (cs ++ c ∷ [])
new-listed-more ranks [] c h here = (here, tt)
new-listed-more ranks (d ∷ cs) c h here = (h.0, new-listed-more ranks cs c h.1 here)

pub new-listed-still : (ranks new : ByRank ⊤) (cs : List (RowKey × Option Row)) → ((q : RowKey) → IsListed ranks q → IsListed new q) → AreNewListed ranks cs → AreNewListed new cs
new-listed-still ranks new [] others h = tt
new-listed-still ranks new (c ∷ cs) others h = ((λ some. others c.0 (h.0 some)), new-listed-still ranks new cs others h.1)

new-listed-first : (ranks : ByRank ⊤) (made left : List (RowKey × Option Row)) → AreNewListed ranks (made ++ left) → AreNewListed ranks made
new-listed-first ranks [] left h = tt
new-listed-first ranks (c ∷ made) left h = (h.0, new-listed-first ranks made left h.1)

-- ---- one rank less
module _ (ranks : ByRank ⊤) (k : RowKey) (numbered : IsNumbered k) where
  abbrev less : ByRank ⊤
  less = remove ranks (rank k)

  keys-less : AreRanks ranks → AreRanks less
  keys-less keys r there = elim (single.same_key rank_total exact_ranks r (rank k)) [
    | inl is ↦ (let wrong : false ≡ true = ap is_some (sym (ap (get less) is ∙ single.gone rank_total exact_ranks ranks (rank k))) ∙ there in cc)
    | inr apart ↦ keys r (ap is_some (sym (single.left rank_total exact_ranks ranks (rank k) r apart)) ∙ there)
  ]

  listed-less : (rows : Rows) → get rows k ≡ None → AreListed ranks rows → AreListed less rows
  listed-less rows none h = record {
    listed = λ q there.
        let was = h.listed q there in
        record {
          numbered = was.numbered;
          there = elim (single.same_key rank_total exact_ranks (rank q) (rank k)) [
            | inl is ↦ (let wrong : false ≡ true = ap is_some (sym (ap (get rows) (same_rank q k was.numbered numbered is) ∙ none)) ∙ there in cc)
            | inr apart ↦ ap is_some (single.left rank_total exact_ranks ranks (rank k) (rank q) apart) ∙ was.there
          ];
        };
  }

-- a rank that only the oldest point needs
pub leaves-less : (ranks next : ByRank ⊤) (k : RowKey) (s : Pointed) → IsNumbered k → next ≡ remove ranks (rank k) → IsGone k s → AreLeaves ranks (without_oldest s) → AreLeaves next (without_oldest s)
leaves-less ranks next k s numbered is gone h = subst (λ (m : ByRank ⊤). AreLeaves m (without_oldest s)) (sym is) (record {
  keys = keys-less ranks k numbered h.keys;
  present = listed-less ranks k numbered s.rows gone.present h.present;
  before = λ i d below. listed-less ranks k numbered _ (gone.before i d below) (h.before i d below);
})

-- ---- rows after a change
pub listed-insert : (ranks : ByRank ⊤) (rows : Rows) (k : RowKey) (x : Row) → IsListed ranks k → AreListed ranks rows → AreListed ranks (insert rows k x)
listed-insert ranks rows k x here h = record {
  listed = λ q there. elim (single.same_key row_key_cmp_total exact_keys q k) [
    | inl is ↦ subst (IsListed ranks) (sym is) here
    | inr apart ↦ h.listed q (ap is_some (sym (single.apart row_key_cmp_total exact_keys rows k x q apart)) ∙ there)
  ];
}

pub listed-remove : (ranks : ByRank ⊤) (rows : Rows) (k : RowKey) → AreListed ranks rows → AreListed ranks (remove rows k)
listed-remove ranks rows k h = record {
  listed = λ q there. elim (single.same_key row_key_cmp_total exact_keys q k) [
    | inl is ↦ (let wrong : false ≡ true = ap is_some (sym (ap (get (remove rows k)) is ∙ single.gone row_key_cmp_total exact_keys rows k)) ∙ there in cc)
    | inr apart ↦ h.listed q (ap is_some (sym (single.left row_key_cmp_total exact_keys rows k q apart)) ∙ there)
  ];
}

listed-changed : (ranks : ByRank ⊤) (rows : Rows) (k : RowKey) (c : Option Row) → (is_some c ≡ true → IsListed ranks k) → AreListed ranks rows → AreListed ranks (changed rows k c)
listed-changed ranks rows k None here h = listed-remove ranks rows k h
listed-changed ranks rows k (Some x) here h = listed-insert ranks rows k x (here refl) h

listed-applied : (ranks : ByRank ⊤) (rows : Rows) (cs : List (RowKey × Option Row)) → AreNewListed ranks cs → AreListed ranks rows → AreListed ranks (apply cs rows)
listed-applied ranks rows [] here h = h
listed-applied ranks rows (c ∷ cs) here h = listed-applied ranks (changed rows c.0 c.1) cs here.1 (listed-changed ranks rows c.0 c.1 here.0 h)

pub listed-empty : (ranks : ByRank ⊤) (rows : Rows) → rows ≡ map.empty → AreListed ranks rows
listed-empty ranks rows e = record { listed = λ q there. (let wrong : false ≡ true = ap is_some (sym (ap (λ (r : Rows). get r q) e ∙ get-empty row_key_cmp q)) ∙ there in cc) }

pub no-ranks : (ranks : ByRank ⊤) → ranks ≡ map.empty → (r : ℕ) → is_some (get ranks r) ≡ true → IsRank r
no-ranks ranks e r there = (let wrong : false ≡ true = ap is_some (sym (ap (λ (m : ByRank ⊤). get m r) e ∙ get-empty nat_cmp r)) ∙ there in cc)

some-is : {A : Type 0} (x y : A) → Some x ≡ Some y → x ≡ y
some-is x y e = ap (λ o. unwrap_or o x) e

-- ---- a store after a call
module _ (ranks : ByRank ⊤) (a b : Pointed) (h : AreLeaves ranks a) where
  pub leaves-with : AreListed ranks b.rows → All (AreListed ranks) b.points → AreLeaves ranks b
  leaves-with rows points = record { keys = h.keys; present = rows; before = points }

  same-points : b.points ≡ a.points → All (AreListed ranks) b.points
  same-points e = subst (All (AreListed ranks)) (sym e) h.before

  same-rows : b.rows ≡ a.rows → AreListed ranks b.rows
  same-rows e = subst (AreListed ranks) (sym e) h.present

  pub leaves-same : b.rows ≡ a.rows → b.points ≡ a.points → AreLeaves ranks b
  leaves-same rows points = leaves-with (same-rows rows) (same-points points)

  pub leaves-is : b ≡ a → AreLeaves ranks b
  leaves-is e = subst (AreLeaves ranks) (sym e) h

  module _ {A E : Type 0} where
    pub leaves-put : (r : Result A E) (k : RowKey) (x : Row) → IsListed ranks k → OnOk r (b.rows ≡ insert a.rows k x) → b.points ≡ a.points → OnErr r (b ≡ a) → AreLeaves ranks b
    leaves-put (Ok u) k x here rows points err = leaves-with (subst (AreListed ranks) (sym rows) (listed-insert ranks a.rows k x here h.present)) (same-points points)
    leaves-put (Err e) k x here rows points err = leaves-is err

    -- of a row in the place of its key's, or of one that came back
    pub leaves-replaced : (r : Result A E) (back_of : A → Option Row) (k : RowKey) (x : Row) → IfOk r (λ back. IsReplaced k x (back_of back) a.rows b.rows) → b.points ≡ a.points → OnErr r (b ≡ a) → AreLeaves ranks b
    leaves-replaced (Ok u) back_of k x rows points err = by (back_of u) rows
      where
        by : (back : Option Row) → IsReplaced k x back a.rows b.rows → AreLeaves ranks b
        by None (there, e) = leaves-with (subst (AreListed ranks) (sym e) (listed-insert ranks a.rows k x (h.present.listed k there) h.present)) (same-points points)
        by (Some y) (same, e) = leaves-same e points
    leaves-replaced (Err e) back_of k x rows points err = leaves-is err

    pub leaves-removed : (r : Result A E) (k : RowKey) → OnOk r (b.rows ≡ remove a.rows k) → b.points ≡ a.points → OnErr r (b ≡ a) → AreLeaves ranks b
    leaves-removed (Ok u) k rows points err = leaves-with (subst (AreListed ranks) (sym rows) (listed-remove ranks a.rows k h.present)) (same-points points)
    leaves-removed (Err e) k rows points err = leaves-is err

    pub leaves-changed : (r : Result A E) (k : RowKey) (c : Option Row) → (is_some c ≡ true → IsListed ranks k) → OnOk r (b.rows ≡ changed a.rows k c) → b.points ≡ a.points → OnErr r (b ≡ a) → AreLeaves ranks b
    leaves-changed r k (Some x) here rows points err = leaves-put r k x (here refl) rows points err
    leaves-changed r k None here rows points err = leaves-removed r k rows points err

    pub leaves-applied : (r : Result A E) (delta : Changes) → AreNewListed ranks (map.entries delta) → OnOk r (b.rows ≡ after a.rows delta) → OnErr r (IsMadeInPart a.rows b.rows delta) → b.points ≡ a.points → AreLeaves ranks b
    unfolding after
    leaves-applied (Ok u) delta here ok err points = leaves-with (subst (AreListed ranks) (sym ok) (listed-applied ranks a.rows (map.entries delta) here h.present)) (same-points points)
    leaves-applied (Err e) delta here ok err points =
        let (made, left, split, rows) = err in
        leaves-with (subst (AreListed ranks) (sym rows) (listed-applied ranks a.rows made (new-listed-first ranks made left (subst (AreNewListed ranks) split here)) h.present)) (same-points points)

    pub leaves-marked : (r : Result A E) → OnOk r (b.points ≡ a.points ++ a.rows ∷ []) → b.rows ≡ a.rows → OnErr r (b ≡ a) → AreLeaves ranks b
    leaves-marked (Ok u) points rows err = leaves-with (same-rows rows) (subst (All (AreListed ranks)) (sym points) (All-append (AreListed ranks) a.points (a.rows ∷ []) h.before (All-cons (AreListed ranks) a.rows [] h.present (All-nil (AreListed ranks)))))
    leaves-marked (Err e) points rows err = leaves-is err

    pub leaves-back : (r : Result A E) (n m : ℕ) → OnOk r (slice_get a.points n ≡ Some b.rows) → OnOk r (b.points ≡ take m a.points) → OnErr r (b ≡ a) → AreLeaves ranks b
    leaves-back (Ok u) n m rows points err = leaves-with (at-point n a.points h.before rows) (subst (All (AreListed ranks)) (sym points) (All-take (AreListed ranks) m a.points h.before))
      where
        at-point : (n : ℕ) (ps : List Rows) → All (AreListed ranks) ps → slice_get ps n ≡ Some b.rows → AreListed ranks b.rows
        at-point n [] hs e = cc
        at-point zero (p ∷ ps) hs e = subst (AreListed ranks) (some-is p b.rows e) (hs 0 p (omega arith))
        at-point (suc n) (p ∷ ps) hs e = at-point n ps (λ k d lt. hs (suc k) d (omega (arith, lt))) e
    leaves-back (Err e) n m rows points err = leaves-is err

-- ---- without the oldest point
pub leaves-dropped : (ranks : ByRank ⊤) (a b : Pointed) → AreLeaves ranks (without_oldest a) → {A E : Type 0} (r : Result A E) → OnOk r (b.points ≡ drop 1 a.points) → b.rows ≡ a.rows → (IsErr r ↔ (a.points ≡ [])) → OnErr r (b ≡ a)
    → AreLeaves ranks b
leaves-dropped ranks a b h (Ok u) points rows none err = leaves-same ranks (without_oldest a) b h rows points
leaves-dropped ranks a b h (Err e) points rows none err =
    let empty : a.points ≡ [] = none.0 refl in
    leaves-same ranks (without_oldest a) b h rows (ap (λ (p : Pointed). p.points) err ∙ empty ∙ sym (ap (drop 1) empty))

-- ---- rows listed one after the other
-- each row is still to come, or its rank is listed
pub record IsListing (left : List (RowKey × Row)) (ranks : ByRank ⊤) (rows : Rows) : Type 0 where
  pub keys : AreRanks ranks
  pub listed : (key : RowKey) → is_some (get rows key) ≡ true → IsListed ranks key ⊎ (is_some (find row_key_cmp key left) ≡ true)

pub listing-none : (left : List (RowKey × Row)) (ranks : ByRank ⊤) (rows : Rows) → left ≡ entries rows → ranks ≡ map.empty → IsListing left ranks rows
listing-none left ranks rows all none = record {
  keys = no-ranks ranks none;
  listed = λ q there. inr (ap (λ es. is_some (find row_key_cmp q es)) all ∙ ap is_some (sym (get-entries rows q)) ∙ there);
}

pub listing-more : (old left : List (RowKey × Row)) (k : RowKey) (x : Row) (ranks next : ByRank ⊤) (rows : Rows) → old ≡ (k, x) ∷ left → IsListing old ranks rows → IsNumbered k
    → next ≡ insert ranks (rank k) tt → IsListing left next rows
listing-more old left k x ranks next rows steps h numbered is = subst (λ (m : ByRank ⊤). IsListing left m rows) (sym is) (record {
  keys = keys-more ranks k numbered h.keys;
  listed = λ q there. elim (h.listed q there) [
    | inl before ↦ inl (still-listed ranks k numbered q before)
    | inr later ↦ elim (cases_Bool (eq_by_cmp row_key_cmp q k)) [
      | inl same ↦ inl (subst (IsListed (insert ranks (rank k) tt)) (sym (same_key q k same)) (listed-now ranks k numbered))
      | inr apart ↦ inr (sym (ap (λ b. is_some (cond b (Some x) (find row_key_cmp q left))) apart) ∙ ap (λ es. is_some (find row_key_cmp q es)) (sym steps) ∙ later)
    ]
  ];
})

pub leaves-none : (ranks : ByRank ⊤) (b : Pointed) → ((r : ℕ) → is_some (get ranks r) ≡ true → IsRank r) → AreListed ranks b.rows → b.points ≡ [] → AreLeaves ranks b
leaves-none ranks b keys rows points = record { keys = keys; present = rows; before = subst (All (AreListed ranks)) (sym points) (All-nil (AreListed ranks)) }

-- ---- a key's rank listed
module _ (ranks next : ByRank ⊤) (k : RowKey) (numbered : IsNumbered k) (s : Pointed) (h : AreLeaves ranks s) where
  points-more : (ps : List Rows) → All (AreListed ranks) ps → All (AreListed (insert ranks (rank k) tt)) ps
  points-more ps hs i d lt = listed-more ranks k numbered _ (hs i d lt)

  leaves-more : AreLeaves (insert ranks (rank k) tt) s
  leaves-more = record { keys = keys-more ranks k numbered h.keys; present = listed-more ranks k numbered s.rows h.present; before = points-more s.points h.before }

  pub leaves-listed : {A E : Type 0} (r : Result A E) → OnOk r (next ≡ insert ranks (rank k) tt) → OnErr r (next ≡ ranks) → AreLeaves next s
  leaves-listed (Ok u) ok err = subst (λ (m : ByRank ⊤). AreLeaves m s) (sym ok) leaves-more
  leaves-listed (Err e) ok err = subst (λ (m : ByRank ⊤). AreLeaves m s) (sym err) h

pub now-listed : (ranks next : ByRank ⊤) (k : RowKey) → IsNumbered k → {A E : Type 0} (r : Result A E) → OnOk r (next ≡ insert ranks (rank k) tt) → OnOk r (IsListed next k)
now-listed ranks next k numbered (Ok u) ok = subst (λ (m : ByRank ⊤). IsListed m k) (sym ok) (listed-now ranks k numbered)
now-listed ranks next k numbered (Err e) ok = tt

-- of the same store
pub leaves-alike : (ranks : ByRank ⊤) (store was : Pointed) → store ≡ was → AreLeaves ranks was → AreLeaves ranks store
leaves-alike ranks store was is leaves = subst (λ (s : Pointed). AreLeaves ranks s) (sym is) leaves
