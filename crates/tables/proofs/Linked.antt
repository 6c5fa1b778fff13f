-- Orders of a district, one more or one fewer, with the last of each customer and the one before each.
use Rattle.std.proofs.Common.{◌≡◌, ◌≤◌, ◌<◌, ◌+◌, ◌==◌, ℕ, zero, suc, Bool, true, false, cond, List, [], ◌∷◌, ◌++◌, length, get_or, set, take, replicate, Option, Some, None, inl, inr, refl, sym, ap, subst, ◌∙◌, arith, length-append, append-nil, append_assoc}
use Rattle.std.proofs.Math.Seq.{take-append_seam, get_or-append_seam}
use Rattle.std.proofs.lemmas.Bool.{cases_Bool, eqb-true, eqb-false}
use Rattle.std.proofs.lemmas.List.{get_or-set_same, get_or-set_other, length-set, length-map, map-append, take_all, take_more, take_more_set}
use Rattle.std.specs.Option.{option_or}
use Rattle.std.specs.Prelude.{option_map, unwrap_or}
use Rattle.tpcc_rows.specs.declared.row.OrderRow.{OrderRow}
use Rattle.tables.specs.declared.last_orders.LastOrders.{LastOrders}
use Rattle.tables.specs.declared.last_orders.TheConstants.{NUMBERS}
use Rattle.tables.specs.Keys.{number_in}
use Rattle.tables.specs.LastOrders.{AreLinked, last_number, last_of, numbers_before, owners}

-- ---- one order more
either_first : (b : Bool) (o : ℕ × ℕ) (before such : Option (ℕ × ℕ)) → option_or (cond b (Some o) before) such ≡ cond b (Some o) (option_or before such)
either_first true o before such = refl
either_first false o before such = refl

last_of-more : (c : ℕ) (os : List (ℕ × ℕ)) (o : ℕ × ℕ) → last_of c (os ++ o ∷ []) ≡ cond (o.1 == c) (Some o) (last_of c os)
last_of-more c [] o = refl
last_of-more c (p ∷ os) o =
    let such : Option (ℕ × ℕ) = cond (p.1 == c) (Some p) None in
    ap (λ x. option_or x such) (last_of-more c os o) ∙ either_first (o.1 == c) o (last_of c os) such

number : Option (ℕ × ℕ) → ℕ
number x = unwrap_or (option_map (λ o. number_in o.0) x) 0

last_number-its : (c : ℕ) (os : List (ℕ × ℕ)) (o : ℕ × ℕ) → (o.1 == c) ≡ true → last_number c (os ++ o ∷ []) ≡ number_in o.0
unfolding number
last_number-its c os o t = ap (λ x. number x) (last_of-more c os o ∙ ap (λ b. cond b (Some o) (last_of c os)) t)

last_number-other : (c : ℕ) (os : List (ℕ × ℕ)) (o : ℕ × ℕ) → (o.1 == c) ≡ false → last_number c (os ++ o ∷ []) ≡ last_number c os
unfolding number
last_number-other c os o t = ap (λ x. number x) (last_of-more c os o ∙ ap (λ b. cond b (Some o) (last_of c os)) t)

numbers_before-more : (earlier os : List (ℕ × ℕ)) (o : ℕ × ℕ) → numbers_before earlier (os ++ o ∷ []) ≡ numbers_before earlier os ++ last_number o.1 (earlier ++ os) ∷ []
numbers_before-more earlier [] o = ap (λ xs. last_number o.1 xs ∷ []) (sym (append-nil earlier))
numbers_before-more earlier (p ∷ os) o =
    ap (λ xs. last_number p.1 earlier ∷ xs)
    (numbers_before-more (earlier ++ p ∷ []) os o ∙ ap (λ xs. numbers_before (earlier ++ p ∷ []) os ++ last_number o.1 xs ∷ []) (append_assoc earlier (p ∷ []) os))

length-before : (earlier os : List (ℕ × ℕ)) → length (numbers_before earlier os) ≡ length os
length-before earlier [] = refl
length-before earlier (o ∷ os) = ap suc (length-before (earlier ++ o ∷ []) os)

-- a write at the order's customer
module _ (os : List (ℕ × ℕ)) (o : ℕ × ℕ) (xs : List ℕ) (small : o.1 < length xs) where
  pub last-linked : (c : ℕ) → get_or xs c 0 ≡ last_number c os → get_or (set xs o.1 (number_in o.0)) c 0 ≡ last_number c (os ++ o ∷ [])
  last-linked c is = elim (cases_Bool (o.1 == c)) [
    | inl same ↦
        let q : o.1 ≡ c = eqb-true o.1 c same in
        subst (λ k. get_or (set xs o.1 (number_in o.0)) k 0 ≡ number_in o.0) q (get_or-set_same xs o.1 (number_in o.0) 0 small) ∙ sym (last_number-its c os o same)
    | inr other ↦
        get_or-set_other xs o.1 c (number_in o.0) 0 (λ e. eqb-false o.1 c other (sym e)) ∙ is ∙ sym (last_number-other c os o other)
  ]

  pub last-unlinked : (b c : ℕ) → b ≡ last_number o.1 os → get_or xs c 0 ≡ last_number c (os ++ o ∷ []) → get_or (set xs o.1 b) c 0 ≡ last_number c os
  last-unlinked b c before is = elim (cases_Bool (o.1 == c)) [
    | inl same ↦
        let q : o.1 ≡ c = eqb-true o.1 c same in
        subst (λ k. get_or (set xs o.1 b) k 0 ≡ last_number k os) q (get_or-set_same xs o.1 b 0 small ∙ before)
    | inr other ↦
        get_or-set_other xs o.1 c b 0 (λ e. eqb-false o.1 c other (sym e)) ∙ is ∙ last_number-other c os o other
  ]

pub linked-push : (kept new : LastOrders) (os : List (ℕ × ℕ)) (o : ℕ × ℕ) (xs : List ℕ) → AreLinked kept os → ((c : ℕ) → get_or xs c 0 ≡ get_or kept.last.items c 0)
    → NUMBERS ≤ length xs → o.1 < NUMBERS → new.last.items ≡ set xs o.1 (number_in o.0) → new.previous.items ≡ kept.previous.items ++ get_or xs o.1 0 ∷ [] → AreLinked new (os ++ o ∷ [])
linked-push kept new os o xs h same enough small last previous =
    let count : length new.previous.items ≡ length os + 1 =
    ap length previous ∙ length-append kept.previous.items (get_or xs o.1 0 ∷ []) ∙ ap (λ n. n + 1) (ap length h.previous ∙ length-before [] os) in
    let more : length (os ++ o ∷ []) ≡ length os + 1 = length-append os (o ∷ []) in
    let wide : length new.last.items ≡ length xs = ap length last ∙ length-set xs o.1 (number_in o.0) in
    record {
      last = λ c below. ap (λ ys. get_or ys c 0) last ∙ last-linked os o xs (omega (arith, enough, small)) c (same c ∙ h.last c below);
      previous =
          previous ∙ ap (λ ys. ys ++ get_or xs o.1 0 ∷ []) h.previous ∙ ap (λ n. numbers_before [] os ++ n ∷ []) (same o.1 ∙ h.last o.1 small) ∙ sym (numbers_before-more [] os o);
      places = record { orders = omega (arith, count, more); customers = λ _. omega (arith, wide, enough) };
    }

-- ---- one order fewer
snoc-parts : (xs ys : List ℕ) (x y : ℕ) → xs ++ x ∷ [] ≡ ys ++ y ∷ [] → (xs ≡ ys) × (x ≡ y)
snoc-parts xs ys x y e =
    let l : length xs + 1 ≡ length ys + 1 = sym (length-append xs (x ∷ [])) ∙ ap length e ∙ length-append ys (y ∷ []) in
    let n : length xs ≡ length ys = omega (arith, l) in (
      sym (take-append_seam xs (x ∷ [])) ∙ ap (take (length xs)) e ∙ ap (λ k. take k (ys ++ y ∷ [])) n ∙ take-append_seam ys (y ∷ []),
      sym (get_or-append_seam xs x [] 0) ∙ ap (λ zs. get_or zs (length xs) 0) e ∙ ap (λ k. get_or (ys ++ y ∷ []) k 0) n ∙ get_or-append_seam ys y [] 0,
    )

pub linked-places : (kept : LastOrders) (os : List (ℕ × ℕ)) (o : ℕ × ℕ) → AreLinked kept (os ++ o ∷ []) → NUMBERS ≤ length kept.last.items
linked-places kept os o h = (let more : length (os ++ o ∷ []) ≡ length os + 1 = length-append os (o ∷ []) in h.places.customers (omega (arith, more)))

pub linked-pop : (kept new : LastOrders) (os : List (ℕ × ℕ)) (o : ℕ × ℕ) (b : ℕ) → AreLinked kept (os ++ o ∷ []) → o.1 < NUMBERS
    → kept.previous.items ≡ new.previous.items ++ b ∷ [] → new.last.items ≡ set kept.last.items o.1 b → AreLinked new os
linked-pop kept new os o b h small previous last =
    let wide = linked-places kept os o h in
    let parts = snoc-parts new.previous.items (numbers_before [] os) b (last_number o.1 os) (sym previous ∙ h.previous ∙ numbers_before-more [] os o) in
    let count : length new.previous.items ≡ length os = ap length parts.0 ∙ length-before [] os in
    let same : length new.last.items ≡ length kept.last.items = ap length last ∙ length-set kept.last.items o.1 b in
    record {
      last = λ c below. ap (λ ys. get_or ys c 0) last ∙ last-unlinked os o kept.last.items (omega (arith, wide, small)) b c parts.1 (h.last c below);
      previous = parts.0;
      places = record { orders = omega (arith, count); customers = λ _. omega (arith, same, wide) };
    }

pub none-popped : (kept : LastOrders) (os : List (ℕ × ℕ)) (o : ℕ × ℕ) → AreLinked kept (os ++ o ∷ []) → length kept.previous.items ≡ 0 → ⊥
none-popped kept os o h none =
    let count = h.places.orders in
    let more : length (os ++ o ∷ []) ≡ length os + 1 = length-append os (o ∷ []) in
    omega (arith, count, more, none)

-- ---- orders linked one after the other
module _ (es : List (ℕ × OrderRow)) (i : ℕ) (e : ℕ × OrderRow) (small : i < length es) (here : e ≡ get_or es i e) where
  owners-next : owners (take (i + 1) es) ≡ owners (take i es) ++ (e.0, e.1.customer) ∷ []
  owners-next =
      ap (λ xs. owners xs) (take_more es i e small ∙ ap (λ (x : ℕ × OrderRow). take i es ++ x ∷ []) (sym here))
      ∙ map-append (λ (x : ℕ × OrderRow). (x.0, x.1.customer)) (take i es) (e ∷ [])

  pub next-last : (xs : List ℕ) → NUMBERS ≤ length xs → e.1.customer < NUMBERS → ((c : ℕ) → c < NUMBERS → get_or xs c 0 ≡ last_number c (owners (take i es)))
      → (c : ℕ) → c < NUMBERS → get_or (set xs e.1.customer (number_in e.0)) c 0 ≡ last_number c (owners (take (i + 1) es))
  next-last xs wide below h c few =
      last-linked (owners (take i es)) (e.0, e.1.customer) xs (omega (arith, wide, below)) c (h c few) ∙ ap (last_number c) (sym owners-next)

  pub next-previous : (ps : List ℕ) (b : ℕ) → i < length ps → take i ps ≡ numbers_before [] (owners (take i es)) → b ≡ last_number e.1.customer (owners (take i es))
      → take (i + 1) (set ps i b) ≡ numbers_before [] (owners (take (i + 1) es))
  next-previous ps b below h is =
      take_more_set ps i b below ∙ ap (λ xs. xs ++ b ∷ []) h ∙ ap (λ n. numbers_before [] (owners (take i es)) ++ n ∷ []) is
      ∙ sym (numbers_before-more [] (owners (take i es)) (e.0, e.1.customer)) ∙ ap (numbers_before []) (sym owners-next)

-- all of them
pub linked-all : (kept : LastOrders) (es : List (ℕ × OrderRow)) (i : ℕ) → i ≡ length es → length kept.previous.items ≡ length es → (0 < length es → NUMBERS ≤ length kept.last.items)
    → ((c : ℕ) → c < NUMBERS → get_or kept.last.items c 0 ≡ last_number c (owners (take i es))) → take i kept.previous.items ≡ numbers_before [] (owners (take i es)) → AreLinked kept (owners es)
linked-all kept es i end count places last previous =
    let all : take i es ≡ es = take_all i es (omega (arith, end)) in
    let same : length (owners es) ≡ length es = length-map es (λ (x : ℕ × OrderRow). (x.0, x.1.customer)) in
    record {
      last = λ c few. last c few ∙ ap (λ xs. last_number c (owners xs)) all;
      previous = sym (take_all i kept.previous.items (omega (arith, end, count))) ∙ previous ∙ ap (λ xs. numbers_before [] (owners xs)) all;
      places = record { orders = omega (arith, count, same); customers = λ some. places (omega (arith, some, same)) };
    }

-- ---- places for customers
zeros : (n c : ℕ) → get_or {A = ℕ} (replicate n 0) c 0 ≡ zero
zeros zero c = refl
zeros (suc n) zero = refl
zeros (suc n) (suc c) = zeros n c

pub padded : (xs : List ℕ) (n c : ℕ) → get_or (xs ++ replicate n 0) c 0 ≡ get_or xs c 0
padded [] n c = zeros n c
padded (x ∷ xs) n zero = refl
padded (x ∷ xs) n (suc c) = padded xs n c
