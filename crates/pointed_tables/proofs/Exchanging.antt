-- Changes made in exchange for what their keys had, and the logs of them.
use Rattle.std.proofs.Common.{◌≡◌, ℕ, zero, suc, true, is_some, ◌<◌, ◌≤◌, ◌+◌, ◌||◌, eqb, List, [], ◌∷◌, ◌++◌, Option, take, drop, length, get_or, get_or-set_same, set, refl, sym, ap, subst, ◌∙◌, arith, add-one, drop-cons, drop-set-lt, take-suc, take-suc-set}
use Rattle.std.proofs.lemmas.List.{length-set}
use Rattle.std.specs.List.{list_all, list_any}
use Rattle.serializability.specs.Changes.{apply, changed}
use Rattle.serializability.proofs.Changes.{apply-append}
use Rattle.tpcc_rows.specs.declared.key.RowKey.{RowKey}
use Rattle.tpcc_rows.specs.declared.row.Row.{Row}
use Rattle.tpcc_rows.specs.Changing.{change_fits}
use Rattle.tpcc_rows.specs.Leaves.{leaf}
use Rattle.tpcc_rows.specs.RowMap.{Rows}
use Rattle.tpcc_rows.proofs.Singles.{and-left, and-right}
use Rattle.rollback.specs.Marks.{HasAlso, is_dirty}
use Rattle.rollback.proofs.Marking.{marks-more}
use Rattle.pointed_tables.specs.declared.bounds.Bounds.{Bounds}
use Rattle.pointed_tables.specs.declared.log.Log.{Log}
use Rattle.pointed_tables.specs.Bounds.{IsLowered, may_be_noted}
use Rattle.pointed_tables.specs.Logs.{AreMade, AreOlds, AreWithin, IsBounded, IsExchanged, IsLogOf, IsSame, IsStep, LeadBack, Olds, needed, undone, wants}
use Rattle.pointed_tables.proofs.Bounding.{within-lowered, within-more}
use Rattle.pointed_tables.proofs.Undoing.{changed-back, clean-more, needed-more, olds-more, undone-more}

-- a change made in exchange for what its key had leads back to it
module _ (x y : RowKey × Option Row) (old new : Rows) (removed : ℕ) (h : IsExchanged x y old new removed) where
  exchanged-back : changed new y.0 y.1 ≡ old
  exchanged-back =
      ap (λ (z : Rows). changed z y.0 y.1) h.made ∙ ap (λ k. changed (changed old x.0 x.1) k y.1) h.key
      ∙ ap (λ (o : Option Row). changed (changed old x.0 x.1) x.0 o) h.was ∙ changed-back old x.0 x.1

  pub back-exchanged : LeadBack (y ∷ []) removed old new
  back-exchanged = record {
    back = exchanged-back;
    fit = (h.fit, tt);
    counted = (let same : wants y.0 y.1 new ≡ removed = ap (λ k. wants k y.1 new) h.key ∙ sym h.counted in omega (arith, same));
  }

-- n of the changes are made, in exchange for what stands in their places now, and the others are left
pub record IsExchangedTo (cs es : Olds) (n removals : ℕ) (old new : Rows) (before after : List ℕ) (room now : ℕ) : Type 0 where
  pub made : AreMade cs n old new before after
  pub back : LeadBack (take n es) removals old new
  pub rest : drop n es ≡ drop n cs
  pub len : length es ≡ length cs
  pub room_is : now ≡ room + removals
  pub few : removals ≤ n

pub none-made : (cs : Olds) (m : Rows) (d : List ℕ) → AreMade cs 0 m m d d
none-made cs m d = record { few = omega arith; rows = refl; none = λ e. refl; marks = λ n. refl; clean = λ n clean. (clean, refl) }

pub none-exchanged : (cs : Olds) (m : Rows) (d : List ℕ) (room : ℕ) → IsExchangedTo cs cs 0 0 m m d d room room
none-exchanged cs m d room = record {
  made = none-made cs m d;
  back = record { back = refl; fit = tt; counted = refl };
  rest = refl;
  len = refl;
  room_is = omega arith;
  few = omega arith;
}

fits-at : (cs : Olds) (n : ℕ) (d : RowKey × Option Row) → n < length cs → list_all change_fits cs ≡ true → change_fits (get_or cs n d) ≡ true
fits-at [] n d below fit = absurd (omega (arith, below))
fits-at (c ∷ cs) zero d below fit = and-left (change_fits c) (list_all change_fits cs) fit
fits-at (c ∷ cs) (suc n) d below fit = fits-at cs n d (omega (arith, below)) (and-right (change_fits c) (list_all change_fits cs) fit)

-- one change more
module _ (cs es : Olds) (n removals : ℕ) (old new : Rows) (before after : List ℕ) (room now : ℕ) (h : IsExchangedTo cs es n removals old new before after room now)
    (below-all : n < length cs) (x y : RowKey × Option Row) (here : x ≡ get_or es n x) where
  below : n < length es
  below = subst (λ k. n < k) (sym h.len) below-all

  -- the change there is the one that was given
  split : x ∷ drop (suc n) es ≡ get_or cs n x ∷ drop (suc n) cs
  split = ap (λ z. z ∷ drop (suc n) es) here ∙ sym (drop-cons es n x below) ∙ h.rest ∙ drop-cons cs n x below-all

  pub given : x ≡ get_or cs n x
  given = ap (λ (l : Olds). get_or l 0 x) split

  pub fits-given : list_all change_fits cs ≡ true → change_fits x ≡ true
  fits-given fit = ap change_fits given ∙ fits-at cs n x below-all fit

  one-taken : take (n + 1) cs ≡ take n cs ++ x ∷ []
  one-taken = ap (λ k. take k cs) (add-one n) ∙ take-suc cs n x below-all ∙ ap (λ z. take n cs ++ z ∷ []) (sym given)

  one-noted : take (n + 1) (set es n y) ≡ take n es ++ y ∷ []
  one-noted = ap (λ k. take k (set es n y)) (add-one n) ∙ take-suc-set es n y below

  module _ (new2 : Rows) (after2 : List ℕ) (removed now2 : ℕ) (one : IsExchanged x y new new2 removed) (place : ℕ) (at : place ≡ leaf x.0) (also : HasAlso after place after2) (room_is : now2 ≡ now + removed) (few : removed ≤ 1) where
    was : changed new2 y.0 y.1 ≡ new
    was = exchanged-back x y new new2 removed one

    made-more : AreMade cs (n + 1) old new2 before after2
    made-more = record {
      few = (let few : n < length cs = below-all in omega (arith, few));
      rows =
          one.made ∙ ap (λ (z : Rows). changed z x.0 x.1) h.made.rows ∙ sym (apply-append (take n cs) (x ∷ []) old)
          ∙ ap (λ (l : Olds). apply l old) (sym one-taken);
      none = λ e. absurd (omega (arith, e));
      marks = λ m.
          marks-more (λ e. eqb m (leaf e.0)) (take n cs) x (is_dirty before m) (is_dirty after m) (is_dirty after2 m) (h.made.marks m) (also m ∙ ap (λ p. eqb m p || is_dirty after m) at)
          ∙ ap (λ (l : Olds). list_any (λ e. eqb m (leaf e.0)) l || is_dirty before m) (sym one-taken);
      clean = (clean-more before after after2 old new new2 x.0 x.1 place at one.made also (record { kept = h.made.clean })).kept;
    }

    back-more : LeadBack (take (n + 1) (set es n y)) (removals + removed) old new2
    back-more = record {
      back = ap (λ (l : Olds). undone l new2) one-noted ∙ undone-more (take n es) y new2 ∙ ap (λ (z : Rows). undone (take n es) z) was ∙ h.back.back;
      fit = subst AreOlds (sym one-noted) (olds-more (take n es) y h.back.fit one.fit);
      counted =
          ap (λ (l : Olds). needed l new2) one-noted ∙ needed-more (take n es) y new2
          ∙ ap (λ (z : Rows). needed (take n es) z + wants y.0 y.1 new2) was ∙ ap (λ k. k + wants y.0 y.1 new2) h.back.counted
          ∙ ap (λ k. removals + wants k y.1 new2) one.key ∙ ap (λ k. removals + k) (sym one.counted);
    }

    pub more-exchanged : IsExchangedTo cs (set es n y) (n + 1) (removals + removed) old new2 before after2 room now2
    more-exchanged = record {
      made = made-more;
      back = back-more;
      rest = drop-set-lt (n + 1) es n y (omega arith) ∙ ap (λ k. drop k es) (add-one n) ∙ ap (λ (l : Olds). drop 1 l) split ∙ ap (λ k. drop k cs) (sym (add-one n));
      len = length-set es n y ∙ h.len;
      room_is = (let so_far = h.room_is in omega (arith, so_far, room_is));
      few = (let so_far = h.few in omega (arith, so_far, few));
    }

-- the bounds are lowered to what the first n keys had
pub record AreLowered (start bounds : Bounds) (es : Olds) (n : ℕ) : Type 0 where
  pub lowered : IsLowered start bounds
  pub within : AreWithin bounds (take n es)

pub none-lowered : (bounds : Bounds) (es : Olds) → AreLowered bounds bounds es 0
none-lowered bounds es = record { lowered = λ k may. may; within = tt }

pub more-lowered : (start bounds later : Bounds) (es : Olds) (y z : RowKey × Option Row) (n : ℕ) → n < length es → z ≡ get_or (set es n y) n z → IsLowered bounds later
    → (is_some z.1 ≡ true → may_be_noted later z.0 ≡ true) → AreLowered start bounds es n → AreLowered start later (set es n y) (n + 1)
more-lowered start bounds later es y z n below at lowered noted h = record {
  lowered = λ k may. lowered k (h.lowered k may);
  within =
      subst (AreWithin later) (sym (ap (λ k. take k (set es n y)) (add-one n) ∙ take-suc-set es n y below))
      (within-more later (take n es) y (within-lowered bounds later (take n es) lowered h.within)
      (subst (λ (x : RowKey × Option Row). is_some x.1 ≡ true → may_be_noted later x.0 ≡ true) (at ∙ get_or-set_same es n y z below) noted));
}

-- ---- a log behind another
undone-append : (os ps : Olds) (m : Rows) → undone (os ++ ps) m ≡ undone os (undone ps m)
undone-append [] ps m = refl
undone-append (o ∷ os) ps m = ap (λ (z : Rows). changed z o.0 o.1) (undone-append os ps m)

needed-append : (os ps : Olds) (m : Rows) → needed (os ++ ps) m ≡ needed os (undone ps m) + needed ps m
needed-append [] ps m = omega arith
needed-append (o ∷ os) ps m =
    let rest = needed-append os ps m in
    let same : wants o.0 o.1 (undone (os ++ ps) m) ≡ wants o.0 o.1 (undone os (undone ps m)) = ap (λ (z : Rows). wants o.0 o.1 z) (undone-append os ps m) in
    omega (arith, rest, same)

olds-append : (os ps : Olds) → AreOlds os → AreOlds ps → AreOlds (os ++ ps)
olds-append [] ps h g = g
olds-append (o ∷ os) ps h g = (h.0, olds-append os ps h.1 g)

pub step-same : (old new : Log) (m m2 : Rows) → m2 ≡ m → IsSame old new → IsStep old new m m2
step-same old new m m2 e s = record {
  back = ap (λ (os : Olds). undone os m2) s.olds ∙ ap (λ (z : Rows). undone old.olds.items z) e;
  log = λ h. record {
    fit = subst AreOlds (sym s.olds) h.fit;
    counted = ap (λ (os : Olds). needed os m2) s.olds ∙ ap (λ (z : Rows). needed old.olds.items z) e ∙ h.counted ∙ sym s.removals;
    bounded = s.bounded h.bounded;
  };
}

pub step-appended : (old new : Log) (later : Olds) (removals : ℕ) (m m2 : Rows) → new.olds.items ≡ old.olds.items ++ later → new.removals ≡ old.removals + removals → (IsBounded old → IsBounded new) → LeadBack later removals m m2
    → IsStep old new m m2
step-appended old new later removals m m2 olds count bounded h = record { back = back; log = log }
  where
    back : undone new.olds.items m2 ≡ undone old.olds.items m
    back = ap (λ (os : Olds). undone os m2) olds ∙ undone-append old.olds.items later m2 ∙ ap (λ (z : Rows). undone old.olds.items z) h.back

    log : IsLogOf old m → IsLogOf new m2
    log is = record {
      fit = subst AreOlds (sym olds) (olds-append old.olds.items later is.fit h.fit);
      counted =
          ap (λ (os : Olds). needed os m2) olds ∙ needed-append old.olds.items later m2
          ∙ ap (λ (z : Rows). needed old.olds.items z + needed later m2) h.back ∙ ap (λ k. k + needed later m2) is.counted
          ∙ ap (λ k. old.removals + k) h.counted ∙ sym count;
      bounded = bounded is.bounded;
    }
