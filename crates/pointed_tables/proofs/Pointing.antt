-- What points stand for after a change, and after going back.
use Rattle.std.proofs.Common.{◌≡◌, ℕ, zero, suc, ◌<◌, ◌≤◌, ◌+◌, ◌-◌, List, [], ◌∷◌, ◌++◌, length, get_or, set, take, drop, Option, Some, Result, Ok, Err, refl, sym, ap, subst, ◌∙◌, arith}
use Rattle.std.proofs.lemmas.List.{take-append-le, take_all}
use Rattle.std.specs.List.{refill, slice_get}
use Rattle.std.specs.Result.{OnOk, OnErr}
use Rattle.serializability.specs.Changes.{changed}
use Rattle.tpcc_rows.specs.Leaves.{leaf, page_rows}
use Rattle.tpcc_rows.specs.RowMap.{Rows}
use Rattle.tpcc_rows.specs.declared.key.RowKey.{RowKey}
use Rattle.tpcc_rows.specs.declared.row.Row.{Row}
use Rattle.rollback.specs.Marks.{HasAlso, is_dirty}
use Rattle.rollback.specs.Pointed.{KeepsCleanLeaves, Pointed, first_or}
use Rattle.rollback.proofs.Marking.{keeps-changed}
use Rattle.pointed_tables.specs.declared.log.Log.{Log}
use Rattle.pointed_tables.proofs.Bounding.{bounded-none}
use Rattle.pointed_tables.specs.Logs.{AreLogs, AreOlds, IsLogOf, IsPointed, IsStep, Olds, held, needed, points_of, undone}

-- ---- a change that was made or refused
pub keeps-tried : {A E : Type 0} (r : Result A E) (before old new : Pointed) (k : RowKey) (c : Option Row) → before ≡ old → OnOk r (new.rows ≡ changed before.rows k c) → OnOk r (HasAlso before.dirty (leaf k) new.dirty)
    → OnErr r (new.rows ≡ before.rows) → OnErr r (new.dirty ≡ before.dirty) → KeepsCleanLeaves old new
keeps-tried (Ok u) before old new k c view rows dirty err same = keeps-changed before old new k (leaf k) c view refl rows dirty
keeps-tried (Err e) before old new k c view rows dirty err same = λ n clean. (
  ap (λ (p : Pointed). is_dirty p.dirty n) (sym view) ∙ ap (λ d. is_dirty d n) (sym same) ∙ clean,
  ap (λ (r : Rows). page_rows r n) err ∙ ap (λ (p : Pointed). page_rows p.rows n) view,
)

-- ---- the newest log replaced
pub points-set : (ls : List Log) (l d : Log) (m m2 : Rows) (n : ℕ) → n + 1 ≡ length ls → IsStep (get_or ls n d) l m m2 → points_of (set ls n l) m2 ≡ points_of ls m
points-set [] l d m m2 n e h = absurd (omega arith)
points-set (t ∷ []) l d m m2 zero e h = ap (λ (r : Rows). r ∷ []) h.back
points-set (t ∷ u ∷ ls) l d m m2 zero e h = absurd (omega arith)
points-set (t ∷ []) l d m m2 (suc n) e h = absurd (omega arith)
points-set (t ∷ u ∷ ls) l d m m2 (suc n) e h = ap (λ (ps : List Rows). undone t.olds.items (first_or ps m2) ∷ ps) (points-set (u ∷ ls) l d m m2 n (omega arith) h)

logs-set : (ls : List Log) (l d : Log) (m m2 : Rows) (n : ℕ) → n + 1 ≡ length ls → IsStep (get_or ls n d) l m m2 → AreLogs ls m → AreLogs (set ls n l) m2
logs-set [] l d m m2 n e h a = absurd (omega arith)
logs-set (t ∷ []) l d m m2 zero e h a = (h.log a.0, tt)
logs-set (t ∷ u ∷ ls) l d m m2 zero e h a = absurd (omega arith)
logs-set (t ∷ []) l d m m2 (suc n) e h a = absurd (omega arith)
logs-set (t ∷ u ∷ ls) l d m m2 (suc n) e h a = (subst (λ (ps : List Rows). IsLogOf t (first_or ps m2)) (sym (points-set (u ∷ ls) l d m m2 n (omega arith) h)) a.0, logs-set (u ∷ ls) l d m m2 n (omega arith) h a.1)

held-set : (ls : List Log) (l d : Log) (n : ℕ) → n < length ls → held (set ls n l) + (get_or ls n d).removals ≡ held ls + l.removals
held-set [] l d n e = absurd (omega arith)
held-set (t ∷ ls) l d zero e = omega arith
held-set (t ∷ ls) l d (suc n) e = let rest = held-set ls l d n (omega arith) in omega (arith, rest)

pub pointed-set : (ls : List Log) (l d : Log) (m m2 : Rows) (room room2 n : ℕ) → n + 1 ≡ length ls → IsStep (get_or ls n d) l m m2 → l.removals + room ≡ (get_or ls n d).removals + room2 → IsPointed ls m room → IsPointed (set ls n l) m2 room2
pointed-set ls l d m m2 room room2 n e h more p = record {
  are_logs = logs-set ls l d m m2 n e h p.are_logs;
  enough = (
      let sum = held-set ls l d n (omega (arith, e)) in
      let before = p.enough in
      omega (arith, sum, before, more)
      );
}

-- ---- one log more
first-push : (ps : List Rows) (p rows : Rows) → first_or (ps ++ p ∷ []) rows ≡ first_or ps p
first-push [] p rows = refl
first-push (q ∷ ps) p rows = refl

pub points-push : (ls : List Log) (l : Log) (m : Rows) → points_of (ls ++ l ∷ []) m ≡ points_of ls (undone l.olds.items m) ++ undone l.olds.items m ∷ []
points-push [] l m = refl
points-push (t ∷ ls) l m =
    let back = undone l.olds.items m in
    ap (λ (ps : List Rows). undone t.olds.items (first_or ps m) ∷ ps) (points-push ls l m)
    ∙ ap (λ (r : Rows). undone t.olds.items r ∷ (points_of ls back ++ back ∷ [])) (first-push (points_of ls back) back m)

first-log : (t l : Log) (ls : List Log) (m : Rows) → first_or (points_of (ls ++ l ∷ []) m) m ≡ first_or (points_of ls (undone l.olds.items m)) (undone l.olds.items m)
first-log t l ls m = ap (λ (ps : List Rows). first_or ps m) (points-push ls l m) ∙ first-push (points_of ls (undone l.olds.items m)) (undone l.olds.items m) m

logs-push : (ls : List Log) (l : Log) (m : Rows) → IsLogOf l m → AreLogs ls (undone l.olds.items m) → AreLogs (ls ++ l ∷ []) m
logs-push [] l m of a = (of, tt)
logs-push (t ∷ ls) l m of a = (subst (λ (r : Rows). IsLogOf t r) (sym (first-log t l ls m)) a.0, logs-push ls l m of a.1)

pub logs-last : (ls : List Log) (l : Log) (m : Rows) → AreLogs (ls ++ l ∷ []) m → IsLogOf l m
logs-last [] l m a = a.0
logs-last (t ∷ ls) l m a = logs-last ls l m a.1

logs-pop : (ls : List Log) (l : Log) (m : Rows) → AreLogs (ls ++ l ∷ []) m → AreLogs ls (undone l.olds.items m)
logs-pop [] l m a = tt
logs-pop (t ∷ ls) l m a = (subst (λ (r : Rows). IsLogOf t r) (first-log t l ls m) a.0, logs-pop ls l m a.1)

pub held-push : (ls : List Log) (l : Log) → held (ls ++ l ∷ []) ≡ held ls + l.removals
held-push [] l = omega arith
held-push (t ∷ ls) l = let rest = held-push ls l in omega (arith, rest)

-- an empty log
module _ (l : Log) (m : Rows) (olds : l.olds.items ≡ []) (none : l.removals ≡ 0) where
  pub nothing-undone : undone l.olds.items m ≡ m
  nothing-undone = ap (λ (os : Olds). undone os m) olds

  nothing-of : IsLogOf l m
  nothing-of = record {
    fit = subst AreOlds (sym olds) tt;
    counted = ap (λ (os : Olds). needed os m) olds ∙ sym none;
    bounded = bounded-none l olds;
  }

  pub points-mark : (ls : List Log) → points_of (ls ++ l ∷ []) m ≡ points_of ls m ++ m ∷ []
  points-mark ls = points-push ls l m ∙ ap (λ (r : Rows). points_of ls r ++ r ∷ []) nothing-undone

  pub pointed-mark : (ls : List Log) (room : ℕ) → IsPointed ls m room → IsPointed (ls ++ l ∷ []) m room
  pointed-mark ls room p = record {
    are_logs = logs-push ls l m nothing-of (subst (λ (r : Rows). AreLogs ls r) (sym nothing-undone) p.are_logs);
    enough = (
        let more = held-push ls l in
        let before = p.enough in
        omega (arith, more, before, none)
        );
  }

-- ---- the newest log taken back
pub pointed-pop : (ls : List Log) (l : Log) (m m2 : Rows) (room room2 : ℕ) → m2 ≡ undone l.olds.items m → room2 + l.removals ≡ room → IsPointed (ls ++ l ∷ []) m room → IsPointed ls m2 room2
pointed-pop ls l m m2 room room2 e less p = record {
  are_logs = subst (λ (r : Rows). AreLogs ls r) (sym e) (logs-pop ls l m p.are_logs);
  enough = (
      let more = held-push ls l in
      let before = p.enough in
      omega (arith, more, before, less)
      );
}

pub room-last : (ls : List Log) (l : Log) (m : Rows) (room : ℕ) → IsPointed (ls ++ l ∷ []) m room → l.removals ≤ room
room-last ls l m room p =
    let more = held-push ls l in
    let before = p.enough in
    omega (arith, more, before)

-- ---- the oldest log dropped
pub points-drop : (ls : List Log) (m : Rows) → points_of (drop 1 ls) m ≡ drop 1 (points_of ls m)
points-drop [] m = refl
points-drop (l ∷ ls) m = refl

pub pointed-drop : (l : Log) (ls : List Log) (m : Rows) (room room2 : ℕ) → room2 ≡ room - l.removals → IsPointed (l ∷ ls) m room → IsPointed ls m room2
pointed-drop l ls m room room2 e p = record { are_logs = p.are_logs.1; enough = (let before = p.enough in omega (arith, before, e)) }

-- ---- how many
pub length-points : (ls : List Log) (m : Rows) → length (points_of ls m) ≡ length ls
length-points [] m = refl
length-points (l ∷ ls) m = let e = length-points ls m in omega (arith, e)

pub no-points : (ls : List Log) (m : Rows) → points_of ls m ≡ [] → ls ≡ []
no-points [] m e = refl
no-points (l ∷ ls) m e = cc

-- ---- going back by one point, as seen from point n on
pub record IsBack (n : ℕ) (old : List Rows) (present : Rows) (ls : List Log) (m : Rows) (room : ℕ) : Type 0 where
  pub few : take n (points_of ls m) ≡ take n old
  pub first : first_or (drop n (points_of ls m)) m ≡ first_or (drop n old) present
  pub pointed : IsPointed ls m room

first-drop : (n : ℕ) (ps : List Rows) (p rows : Rows) → n ≤ length ps → first_or (drop n (ps ++ p ∷ [])) rows ≡ first_or (drop n ps) p
first-drop zero [] p rows h = refl
first-drop zero (q ∷ ps) p rows h = refl
first-drop (suc n) [] p rows h = absurd (omega arith)
first-drop (suc n) (q ∷ ps) p rows h = first-drop n ps p rows (omega arith)

pub back-pop : (n : ℕ) (old : List Rows) (present : Rows) (ls : List Log) (l : Log) (m m2 : Rows) (room room2 : ℕ) → n ≤ length ls → m2 ≡ undone l.olds.items m → room2 + l.removals ≡ room
    → IsBack n old present (ls ++ l ∷ []) m room → IsBack n old present ls m2 room2
back-pop n old present ls l m m2 room room2 h e less b =
    let back = undone l.olds.items m in
    let few : n ≤ length (points_of ls back) = rw (length-points ls back) h in
    record {
      few = ap (λ (r : Rows). take n (points_of ls r)) e ∙ sym (ap (take n) (points-push ls l m) ∙ take-append-le n (points_of ls back) (back ∷ []) few) ∙ b.few;
      first =
          ap (λ (r : Rows). first_or (drop n (points_of ls r)) r) e
          ∙ sym (ap (λ (ps : List Rows). first_or (drop n ps) m) (points-push ls l m) ∙ first-drop n (points_of ls back) back m few) ∙ b.first;
      pointed = pointed-pop ls l m m2 room room2 e less b.pointed;
    }

drop_empty : (n : ℕ) → drop {A = Rows} n [] ≡ []
drop_empty zero = refl
drop_empty (suc n) = refl

drop_none : (n : ℕ) (ps : List Rows) → length ps ≤ n → drop n ps ≡ []
drop_none n [] h = drop_empty n
drop_none zero (p ∷ ps) h = absurd (omega arith)
drop_none (suc n) (p ∷ ps) h = drop_none n ps (omega arith)

first-at : (n : ℕ) (ps : List Rows) (rows : Rows) → n < length ps → slice_get ps n ≡ Some (first_or (drop n ps) rows)
first-at n [] rows h = absurd (omega arith)
first-at zero (p ∷ ps) rows h = refl
first-at (suc n) (p ∷ ps) rows h = first-at n ps rows (omega arith)

pub back-rows : (n : ℕ) (old : List Rows) (present : Rows) (ls : List Log) (m : Rows) (room : ℕ) → n < length old → length ls ≤ n → IsBack n old present ls m room → slice_get old n ≡ Some m
back-rows n old present ls m room small h b =
    first-at n old present small ∙ ap (λ (r : Rows). Some r) (sym b.first ∙ ap (λ (ps : List Rows). first_or ps m) (drop_none n (points_of ls m) (rw (length-points ls m) h)))

pub back-points : (n : ℕ) (old : List Rows) (present : Rows) (ls : List Log) (m : Rows) (room : ℕ) → length ls ≤ n → IsBack n old present ls m room → points_of ls m ≡ take n old
back-points n old present ls m room h b = sym (take_all n (points_of ls m) (rw (length-points ls m) h)) ∙ b.few

pub refill_whole : (xs ws : List Log) → length ws ≡ length xs → refill (length xs) xs ws ≡ ws
refill_whole xs ws e = take-append-le (length xs) ws (drop (length ws) xs) (omega arith) ∙ take_all (length xs) ws (omega arith)
