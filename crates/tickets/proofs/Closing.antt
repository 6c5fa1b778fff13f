-- What holds once all seats have come together.
use Rattle.std.proofs.Common.{◌≡◌, ℕ, zero, suc, ◌+◌, ◌<◌, min, Bool, true, false, cond, true≢false, ◌||◌, is_some, List, [], ◌∷◌, ◌++◌, map, reverse, length, set, Option, Some, None, slice_get, sum_by, count_by, All, refl, sym, ap, ◌∙◌, subst, arith}
use Rattle.std.specs.List.{Any, list_any}
use Rattle.std.proofs.lemmas.List.{length-map}
use Rattle.std.proofs.lemmas.List.Folds.{Any-from_list_any, list_any_at, list_any_none}
use Rattle.std.proofs.lemmas.List.Sums.{sum_by-cons, sum_by-append}
use mathlib.Core.Option.{some, some-injective, some-ne-none}
use mathlib.Core.List.{reverse-cons}
use lib.ListN.{get_elem?}
use Rattle.atomic_table.specs.Table.{State, Final, Seen}
use Rattle.tickets.specs.declared.entry.Entry.{Entry}
use Rattle.tickets.specs.declared.event.Event.{Event}
use Rattle.tickets.specs.declared.size.Size.{Size}
use Rattle.tickets.specs.World.{Worker, World, opening, after}
use Rattle.tickets.specs.Once.{times, once_below}
use Rattle.tickets.specs.Entries.{has_stopped}
use Rattle.tickets.specs.Rule.{ActedIn, Begins, flag, IsEntryOf, FollowsRule, Shows}
use Rattle.tickets.proofs.Lists.{Some-injective, get-below, get_there, get_read, get_from_All, All-from_get, sum-set, sum-at, get_back}
use Rattle.tickets.proofs.Sound.{IsSound, events_sound, after_alike, workers_after}
use Rattle.tickets.proofs.Steps.{known_at, past_of, saw_of, Rule}
use Rattle.tickets.proofs.Dealing.{weigh, reseated}

-- ---- one seat has all entries
ones : (v : List Entry) → sum_by (λ (e : Entry). 1) v ≡ length v
ones [] = refl
ones (x ∷ xs) = omega (arith, sum_by-cons (λ (e : Entry). 1) x xs, ones xs)

weight-nil : (h : Entry → ℕ) (v : List Entry) → length v ≡ 0 → sum_by h v ≡ 0
weight-nil h [] e = refl
weight-nil h (x ∷ xs) e = absurd (omega arith)

all_empty : (h : Entry → ℕ) (views : List (List Entry)) → weigh (λ _. 1) views ≡ 0 → weigh h views ≡ 0
all_empty h [] e = refl
all_empty h (v ∷ vs) e =
    let a = sum_by-cons (λ (u : List Entry). sum_by (λ (e : Entry). 1) u) v vs in
    let o = ones v in
    let len : length v ≡ 0 = omega arith in
    let rest : weigh (λ _. 1) vs ≡ 0 = omega arith in
    omega (arith, sum_by-cons (λ (u : List Entry). sum_by h u) v vs, weight-nil h v len, all_empty h vs rest)

-- a view of as many entries as there are in all has them all
only : (views : List (List Entry)) (id : ℕ) (v : List Entry) → get_elem? views id ≡ some v → weigh (λ _. 1) views ≡ length v → (h : Entry → ℕ) → weigh h views ≡ sum_by h v
only views id v at all h =
    let g = get_back views id v at in
    let a = sum-set (λ (u : List Entry). sum_by (λ (e : Entry). 1) u) views id v [] g in
    let o = ones v in
    let z : weigh (λ _. 1) (set views id []) ≡ 0 = omega arith in
    let b = sum-set (λ (u : List Entry). sum_by h u) views id v [] g in
    let y = all_empty h (set views id []) z in
    omega arith

sum-reverse : (h : Entry → ℕ) (v : List Entry) → sum_by h (reverse v) ≡ sum_by h v
sum-reverse h [] = refl
sum-reverse h (x ∷ xs) =
    let e = ap (sum_by h) (reverse-cons x xs) in
    omega (arith, sum_by-append h (reverse xs) (x ∷ []), sum_by-cons h x [], sum_by-cons h x xs, sum-reverse h xs)

get-front : (v w : List Entry) (i : ℕ) (e : Entry) → slice_get v i ≡ Some e → slice_get (v ++ w) i ≡ Some e
get-front [] w i e h = cc
get-front (x ∷ xs) w zero e h = h
get-front (x ∷ xs) w (suc i) e h = get-front xs w i e h

get-last : (v : List Entry) (e : Entry) → slice_get (v ++ e ∷ []) (length v) ≡ Some e
get-last [] e = refl
get-last (x ∷ xs) e = get-last xs e

at_reverse : (v : List Entry) (i : ℕ) (e : Entry) → slice_get v i ≡ Some e → (j : ℕ) × (slice_get (reverse v) j ≡ Some e)
at_reverse [] i e h = cc
at_reverse (x ∷ xs) zero e h = (length (reverse xs), ap (λ (l : List Entry). slice_get l (length (reverse xs))) (reverse-cons x xs) ∙ (get-last (reverse xs) x ∙ h))
at_reverse (x ∷ xs) (suc i) e h = let t = at_reverse xs i e h in (t.0, ap (λ (l : List Entry). slice_get l t.0) (reverse-cons x xs) ∙ get-front (reverse xs) (x ∷ []) t.0 e t.1)

kept_by_one : (size : Size) (id : ℕ) (v : List Entry) (ws xs : List ℕ) → Final (Seen (Rule size) id (reverse v)) ws xs → length v ≡ size.workers → FollowsRule size ws (v ∷ [])
kept_by_one size id v ws xs final len =
    let s = final.0 in
    let kept : Rule size s = final.1.0 in
    let at = final.1.1 in
    let n = workers_after size.places size.workers kept.events in
    let all_ones = kept.shows.weights (λ _. 1) in
    let m = ones kept.entries in
    let c = kept.shows.count in
    let o = ones (reverse v) in
    let p = ones v in
    let q = sum-reverse (λ _. 1) v in
    let whole : weigh (λ _. 1) s.views ≡ length (reverse v) = omega arith in
    record {
      events = kept.events;
      entries = kept.entries;
      shows = subst (λ (l : List ℕ). Shows (after (opening size.places size.workers) kept.events) kept.entries l (v ∷ [])) final.2
          (reseated (after (opening size.places size.workers) kept.events) kept.entries s.words s.views (v ∷ []) kept.shows
          (λ h. let c = sum_by-cons (λ (u : List Entry). sum_by h u) v [] in let r = sum-reverse h v in let t = only s.views id (reverse v) at whole h in omega arith)
          (known_in s kept at));
      moments = kept.moments;
    }
  where
    known_in : (s : State ℕ (List Entry)) (kept : Rule size s) → get_elem? s.views id ≡ some (reverse v) → (j : ℕ) (u : List Entry) (i : ℕ) (e : Entry) → get_elem? (v ∷ []) j ≡ some u → slice_get u i ≡ Some e
        → slice_get kept.entries e.worker ≡ Some e
    known_in s kept at zero u i e at_j is = let r = at_reverse v i e (subst (λ (y : List Entry). slice_get y i ≡ Some e) (sym (some-injective v u at_j)) is) in known_at kept.shows id (reverse v) r.0 e at r.1
    known_in s kept at (suc j) u i e at_j is = absurd (some-ne-none u (sym at_j))

pub closes : (key size : Size) (id : ℕ) (u v : List Entry) (a b : ℕ) (ws xs : List ℕ) → key ≡ size → u ≡ reverse v → Final (Seen (Rule key) id u) ws xs → length v ≡ size.workers → get_elem? ws 0 ≡ some a → get_elem? ws 1 ≡ some b → FollowsRule size (a ∷ b ∷ []) (v ∷ [])
closes key size id u v a b ws xs same is final len first second =
    let kept : FollowsRule size ws (v ∷ []) = kept_by_one size id v ws xs (subst (λ (x : Size × List Entry). Final (Seen (Rule x.0) id x.1) ws xs) (λ i. (same i, is i)) final) len in
    let w = after (opening size.places size.workers) kept.events in
    let x : ℕ = w.next + sum_by (λ (e : Entry). cond e.past 1 0) kept.entries in
    let y : ℕ = flag w.halt in
    let words = kept.shows.words_are in
    let first_is : x ≡ a = some-injective x a (sym (ap (λ (l : List ℕ). get_elem? l 0) words) ∙ first) in
    let second_is : y ≡ b = some-injective y b (sym (ap (λ (l : List ℕ). get_elem? l 1) words) ∙ second) in
    subst (λ (l : List ℕ). FollowsRule size l (v ∷ [])) (words ∙ (λ i. first_is i ∷ second_is i ∷ [])) kept

-- ---- what the rule says of all entries
-- the entries have what the workers have
same_sum : (f : List ℕ → ℕ) (places j : ℕ) (es : List Entry) (l : List Worker) → length es ≡ length l → ((k : ℕ) (e : Entry) → slice_get es k ≡ Some e → (a : Worker) × (slice_get l k ≡ Some a) × IsEntryOf places (j + k) a e)
    → sum_by (λ (e : Entry). f e.drawn) es ≡ sum_by (λ (a : Worker). f a.drawn) l
same_sum f places j [] [] len h = refl
same_sum f places j [] (a ∷ l) len h = absurd (omega arith)
same_sum f places j (e ∷ es) [] len h = absurd (omega arith)
same_sum f places j (e ∷ es) (a ∷ l) len h =
    let t = h 0 e refl in
    let d : f e.drawn ≡ f a.drawn = ap f (t.2.drawn ∙ ap (λ (x : Worker). x.drawn) (sym (Some-injective a t.0 t.1))) in
    let r = same_sum f places (suc j) es l (omega arith) (λ k x at. let q = h (suc k) x at in (q.0, q.1, subst (λ (i : ℕ). IsEntryOf places i q.0 x) (let z : j + suc k ≡ suc j + k = omega arith in z) q.2)) in
    omega (arith, sum_by-cons (λ (e : Entry). f e.drawn) e es, sum_by-cons (λ (x : Worker). f x.drawn) a l)

-- where a count isn't 0, some element passes
counted : {A : Type 0} (test : A → Bool) (l : List A) → 0 < count_by test l → (i : ℕ) × (a : A) × (slice_get l i ≡ Some a) × (test a ≡ true)
counted test [] h = absurd (omega arith)
counted {A} test (x ∷ xs) h = go (test x) refl (counted test xs)
  where
    go : (b : Bool) → test x ≡ b → (0 < count_by test xs → (i : ℕ) × (a : A) × (slice_get xs i ≡ Some a) × (test a ≡ true)) → (i : ℕ) × (a : A) × (slice_get (x ∷ xs) i ≡ Some a) × (test a ≡ true)
    go true e later = (0, x, refl, e)
    go false e later =
        let z : ◌≡◌ {A = ℕ} (cond (test x) 1 0) 0 = ap (λ (b : Bool). cond b 1 0) e in
        let c = sum_by-cons (λ (y : A). cond (test y) 1 0) x xs in
        let (i, a, at, passes) = later (omega arith) in
        (suc i, a, at, passes)

module _ (size : Size) (ws : List ℕ) (v : List Entry) (kept : FollowsRule size ws (v ∷ [])) where
  abbrev world : World
  world = after (opening size.places size.workers) kept.events

  sound : IsSound world
  sound = events_sound size.places size.workers kept.events

  places_is : world.places ≡ size.places
  places_is = (after_alike (opening size.places size.workers) kept.events).0

  known : (i : ℕ) (e : Entry) → slice_get v i ≡ Some e → slice_get kept.entries e.worker ≡ Some e
  known i e at = known_at kept.shows 0 v i e refl at

  -- what is known weighs what all entries do
  whole : (weight : Entry → ℕ) → sum_by weight v ≡ sum_by weight kept.entries
  whole weight = let c = sum_by-cons (λ (u : List Entry). sum_by weight u) v [] in let a = kept.shows.weights weight in omega arith

  drawn_below_next : (p : ℕ) → sum_by (λ (e : Entry). times p e.drawn) v ≡ once_below world.next p
  drawn_below_next p = whole (λ e. times p e.drawn)
      ∙ (same_sum (times p) world.places 0 kept.entries world.workers kept.shows.count (λ k e at. let t = kept.shows.each k e at in (t.0, t.1, subst (λ (i : ℕ). IsEntryOf world.places i t.0 e) (let z : k ≡ 0 + k = omega arith in z) t.2))
      ∙ sound.once p)

  next_is : (a b : ℕ) → ws ≡ a ∷ b ∷ [] → world.next ≡ min a size.places
  next_is a b are = go (count_by (λ (e : Entry). e.past) kept.entries) refl
    where
      ticket : a ≡ world.next + count_by (λ (e : Entry). e.past) kept.entries
      ticket = let first : List ℕ → ℕ = λ l. slice_or l in ap first (sym are ∙ kept.shows.words_are)
        where
          slice_or : List ℕ → ℕ
          slice_or [] = 0
          slice_or (x ∷ xs) = x

      go : (n : ℕ) → count_by (λ (e : Entry). e.past) kept.entries ≡ n → world.next ≡ min a size.places
      go zero e = let t = ticket in let b = sound.bound in let p = places_is in grind arith
      go (suc n) e =
          let (k, x, at, past) = counted (λ (y : Entry). y.past) kept.entries (omega arith) in
          let last = past_of kept.shows k x at past in
          let t = ticket in
          let p = places_is in
          grind arith

  -- some entry that is known raised, where all are to stop
  raised_there : world.halt ≡ true → (i : ℕ) × (e : Entry) × (slice_get v i ≡ Some e) × (is_some e.raised ≡ true)
  raised_there halt =
      let (k, a, p, at, raised) = sound.halted halt in
      let len = get-below world.workers k a at in
      let count = kept.shows.count in
      let (e, at_e) = get_there kept.entries k (omega arith) in
      let (a', there, is) = kept.shows.each k e at_e in
      let same : a ≡ a' = Some-injective a a' (sym at ∙ there) in
      let some_raised : is_some e.raised ≡ true = ap is_some (is.raised ∙ (ap (λ (x : Worker). x.raised) (sym same) ∙ raised)) in
      let one : ◌≡◌ {A = ℕ} (cond (is_some e.raised) 1 0) 1 = ap (λ (b : Bool). cond b 1 0) some_raised in
      let most = sum-at (λ (x : Entry). cond (is_some x.raised) 1 0) kept.entries k e at_e in
      let all = whole (λ x. cond (is_some x.raised) 1 0) in
      counted (λ (x : Entry). is_some x.raised) v (omega arith)

  quiet : world.halt ≡ false → (i : ℕ) (e : Entry) → slice_get v i ≡ Some e → is_some e.raised ≡ false
  quiet halt i e at = go e.raised refl
    where
      go : (o : Option ℕ) → e.raised ≡ o → is_some o ≡ false
      go None is = refl
      go (Some p) is =
          let (a, there, entry) = kept.shows.each e.worker e (known i e at) in
          absurd (true≢false (sym ((sound.each e.worker a there).raised_why p (sym entry.raised ∙ is)).1 ∙ halt))

  halt_is : list_any (λ (e : Entry). is_some e.raised) v ≡ world.halt
  halt_is = go world.halt refl
    where
      go : (b : Bool) → world.halt ≡ b → list_any (λ (e : Entry). is_some e.raised) v ≡ world.halt
      go true halt =
          let (i, e, at, raised) = raised_there halt in
          list_any_at (λ (x : Entry). is_some x.raised) v i e (get-below v i e at) (ap (λ (x : Entry). is_some x.raised) (get_read v i e e at) ∙ raised) ∙ sym halt
      go false halt = list_any_none (λ (x : Entry). is_some x.raised) v (All-from_get (λ x. is_some x.raised ≡ false) v (quiet halt)) ∙ sym halt

  saw_raised : (i : ℕ) (e : Entry) → slice_get v i ≡ Some e → e.saw ≡ true → list_any (λ (x : Entry). is_some x.raised) v ≡ true
  saw_raised i e at saw = halt_is ∙ saw_of kept.shows e.worker e (known i e at) saw

  past_if : (e : Entry) → has_stopped e ≡ true → e.raised ≡ None → (e.saw ≡ true → ⊥) → e.past ≡ true
  past_if e stopped quiet unseen = go e.past refl
    where
      go : (b : Bool) → e.past ≡ b → e.past ≡ true
      go true q = q
      go false q = absurd (unseen ((λ i. sym q i || (is_some (sym quiet i) || e.saw)) ∙ stopped))

  -- where all have stopped and none has raised, no place is left
  all_next : length v ≡ size.workers → 0 < size.workers → ((i : ℕ) (e : Entry) → slice_get v i ≡ Some e → (has_stopped e ≡ true) × (e.raised ≡ None)) → world.next ≡ size.places
  all_next len some_worker done =
      let (e, at) = get_there v 0 (omega arith) in
      let none_raised = list_any_none (λ (x : Entry). is_some x.raised) v (All-from_get (λ x. is_some x.raised ≡ false) v (λ i x there. ap is_some (done i x there).1)) in
      past_of kept.shows e.worker e (known 0 e at) (past_if e (done 0 e at).0 (done 0 e at).1 (λ saw. true≢false (sym (saw_raised 0 e at saw) ∙ none_raised))) ∙ places_is

-- ---- the same of seats
module _ {A : Type 0} (f : A → Entry) (size : Size) (a b : ℕ) (seats : List A) (kept : FollowsRule size (a ∷ b ∷ []) (map f seats ∷ [])) where
  sum-seats : (h : Entry → ℕ) (l : List A) → sum_by (λ (s : A). h (f s)) l ≡ sum_by h (map f l)
  sum-seats h [] = refl
  sum-seats h (x ∷ xs) = omega (arith, sum_by-cons (λ (s : A). h (f s)) x xs, sum_by-cons h (f x) (map f xs), sum-seats h xs)

  any-seats : (test : Entry → Bool) (l : List A) → list_any (λ (s : A). test (f s)) l ≡ list_any test (map f l)
  any-seats test [] = refl
  any-seats test (x ∷ xs) = ap (λ c. test (f x) || c) (any-seats test xs)

  at_seat : (l : List A) (i : ℕ) (s : A) → slice_get l i ≡ Some s → slice_get (map f l) i ≡ Some (f s)
  at_seat [] i s h = cc
  at_seat (x ∷ xs) zero s h = ap (λ y. Some (f y)) (Some-injective x s h)
  at_seat (x ∷ xs) (suc i) s h = at_seat xs i s h

  of_seat : (l : List A) (i : ℕ) (e : Entry) → slice_get (map f l) i ≡ Some e → (s : A) × (slice_get l i ≡ Some s) × (f s ≡ e)
  of_seat [] i e h = cc
  of_seat (x ∷ xs) zero e h = (x, refl, Some-injective (f x) e h)
  of_seat (x ∷ xs) (suc i) e h = of_seat xs i e h

  pub drawn_by_seats : (p : ℕ) → sum_by (λ (s : A). times p (f s).drawn) seats ≡ once_below (min a size.places) p
  drawn_by_seats p = sum-seats (λ e. times p e.drawn) seats ∙ (drawn_below_next size (a ∷ b ∷ []) (map f seats) kept p ∙ ap (λ n. once_below n p) (next_is size (a ∷ b ∷ []) (map f seats) kept a b refl))

  pub all_drawn_by_seats : length seats ≡ size.workers → 0 < size.workers → All (λ s. (has_stopped (f s) ≡ true) × ((f s).raised ≡ None)) seats → (p : ℕ) → sum_by (λ (s : A). times p (f s).drawn) seats ≡ once_below size.places p
  all_drawn_by_seats len some_worker done p = sum-seats (λ e. times p e.drawn) seats ∙ (drawn_below_next size (a ∷ b ∷ []) (map f seats) kept p
      ∙ ap (λ n. once_below n p) (all_next size (a ∷ b ∷ []) (map f seats) kept (length-map seats f ∙ len) some_worker (λ i e at.
      let (s, there, is) = of_seat seats i e at in
      subst (λ (x : Entry). (has_stopped x ≡ true) × (x.raised ≡ None)) is (get_from_All (λ t. (has_stopped (f t) ≡ true) × ((f t).raised ≡ None)) seats done i s there))))

  pub halt_by_seats : b ≡ flag (list_any (λ (s : A). is_some (f s).raised) seats)
  halt_by_seats = ap second kept.shows.words_are ∙ ap flag (sym (any-seats (λ e. is_some e.raised) seats ∙ halt_is size (a ∷ b ∷ []) (map f seats) kept))
    where
      second : List ℕ → ℕ
      second (x ∷ y ∷ l) = y
      second (x ∷ []) = 0
      second [] = 0

  pub seen_by_seats : Any (λ s. (f s).saw ≡ true) seats → Any (λ s. is_some (f s).raised ≡ true) seats
  seen_by_seats (k, s, low, is, saw) =
      let (t, at) = get_there seats k low in
      let same : t ≡ s = sym (get_read seats k t s at) ∙ is in
      Any-from_list_any (λ (x : A). is_some (f x).raised) seats
      (any-seats (λ e. is_some e.raised) seats ∙ saw_raised size (a ∷ b ∷ []) (map f seats) kept k (f t) (at_seat seats k t at) (ap (λ x. (f x).saw) same ∙ saw))

  pub line_by_seats : (events : List Event) × All (λ s. Begins (f s).history events) seats
  line_by_seats = (
    kept.events,
    All-from_get (λ s. Begins (f s).history kept.events) seats (λ i s at.
        (get_from_All (ActedIn size kept.events) kept.entries kept.moments (f s).worker (f s) (known size (a ∷ b ∷ []) (map f seats) kept i (f s) (at_seat seats i s at))).begins),
  )
