-- Seats are dealt and come together, and the rule holds.
use Rattle.std.proofs.Common.{◌≡◌, ◌≢◌, ◌⊎◌, inl, inr, ⊎_elim, ℕ, zero, suc, ◌+◌, ◌-◌, ◌%◌, ◌^◌, ◌<◌, ◌≤◌, ◌==◌, All, Bool, false, cond, if◌then◌else◌, ltb, true≢false, bit_or, List, [], ◌∷◌, ◌++◌, map, take, drop, reverse, length, set, get_or, Some, slice_get, sum_by, refl, sym, ap, ◌∙◌, subst, arith, append_assoc, true}
use Rattle.std.proofs.lemmas.List.Sums.{sum_by-cons, sum_by-append}
use mathlib.Core.Option.{some, some-injective, some-ne-none}
use Rattle.std.proofs.Math.ListN.{length-replicate}
use mathlib.Core.List.{reverse-append, map-append}
use lib.ListN.{get_elem?}
use Rattle.atomic_table.specs.Table.{Me, Step, Splits, Joins, Allows}
use Rattle.atomic_table.proofs.Lists.{at_set, at_snoc}
use Rattle.tickets.specs.declared.entry.Entry.{Entry}
use Rattle.tickets.specs.declared.event.Event.{Event}
use Rattle.tickets.specs.declared.size.Size.{Size}
use Rattle.tickets.specs.World.{World, fresh, opening, after}
use Rattle.tickets.specs.Entries.{acted, blank, blanks, has_stopped, last_drawn, with_draw, with_end, with_look, with_place, with_raise}
use Rattle.tickets.specs.Rule.{ActedIn, Begins, IsEntryOf, IsShown, Shows, FollowsRule, Drew, DrawTells, Raised, RaiseTells, Looked, LookTells}
use Rattle.tickets.proofs.Lists.{All-from_get, Some-injective, replicate_there, sum-set, get_back}
use Rattle.tickets.proofs.Steps.{all_known, known_at, Rule, draws, raises, looks}

abbrev pub weigh : (Entry → ℕ) → List (List Entry) → ℕ
weigh weight views = sum_by (λ (v : List Entry). sum_by weight v) views

-- ---- the first seat
blank_at : (places workers k n i : ℕ) (e : Entry) → slice_get (blanks places workers k n) i ≡ Some e → (i < n) × (e ≡ blank places workers (k + i))
blank_at places workers k zero i e h = cc
blank_at places workers k (suc n) zero e h = (omega arith, sym (Some-injective _ e h) ∙ ap (blank places workers) (let z : k ≡ k + 0 = omega arith in z))
blank_at places workers k (suc n) (suc i) e h =
    let t = blank_at places workers (suc k) n i e h in
    let l = t.0 in
    (omega arith, t.1 ∙ ap (blank places workers) (let z : suc k + i ≡ k + suc i = omega arith in z))

length-blanks : (places workers k n : ℕ) → length (blanks places workers k n) ≡ n
length-blanks places workers k zero = refl
length-blanks places workers k (suc n) = ap suc (length-blanks places workers (suc k) n)

none_past : (places workers k n : ℕ) → sum_by (λ (e : Entry). cond e.past 1 0) (blanks places workers k n) ≡ 0
none_past places workers k zero = refl
none_past places workers k (suc n) = omega (arith, sum_by-cons (λ (e : Entry). cond e.past 1 0) (blank places workers k) (blanks places workers (suc k) n), none_past places workers (suc k) n)

pub opens : (places workers : ℕ) → FollowsRule record { places = places; workers = workers } (0 ∷ 0 ∷ []) (blanks places workers 0 workers ∷ [])
unfolding after
opens places workers = record {
  events = [];
  entries = blanks places workers 0 workers;
  shows = record {
    words_are = let z = none_past places workers 0 workers in ap (λ (n : ℕ). n ∷ 0 ∷ []) (let y : 0 ≡ 0 + sum_by (λ (e : Entry). cond e.past 1 0) (blanks places workers 0 workers) = omega arith in y);
    weights = λ h. let c = sum_by-cons (λ (u : List Entry). sum_by h u) (blanks places workers 0 workers) [] in omega arith;
    known = all_known (blanks places workers 0 workers) (blanks places workers 0 workers ∷ []) first;
    each = λ k e at.
        let b = blank_at places workers 0 workers k e at in
        let same : blank places workers k ≡ e = sym (b.1 ∙ ap (blank places workers) (let z : 0 + k ≡ k = omega arith in z)) in
        (fresh, replicate_there workers fresh k b.0, subst (IsEntryOf places k fresh) same record { number = refl; level = refl; drawn = refl; raised = refl; stopped = refl; hand = refl });
    count = length-blanks places workers 0 workers ∙ sym (length-replicate workers fresh);
    past_last = All-from_get (λ (x : Entry). x.past ≡ true → 0 ≡ places) (blanks places workers 0 workers) (λ k e at p. let b = blank_at places workers 0 workers k e at in absurd (true≢false (sym p ∙ ap (λ (x : Entry). x.past) b.1)));
    saw_halt = All-from_get (λ (x : Entry). x.saw ≡ true → false ≡ true) (blanks places workers 0 workers) (λ k e at p. let b = blank_at places workers 0 workers k e at in absurd (true≢false (sym p ∙ ap (λ (x : Entry). x.saw) b.1)));
  };
  moments = All-from_get (ActedIn level []) (blanks places workers 0 workers) (λ k e at. let b = blank_at places workers 0 workers k e at in subst (ActedIn level []) (sym b.1) record { workers = refl; begins = ([], refl) });
}
  where
    level : Size
    level = record { places = places; workers = workers }

    first : (seat : ℕ) (v : List Entry) (i : ℕ) (e : Entry) → get_elem? (blanks places workers 0 workers ∷ []) seat ≡ some v → slice_get v i ≡ Some e → slice_get (blanks places workers 0 workers) e.worker ≡ Some e
    first zero v i e at is =
        let here = subst (λ (x : List Entry). slice_get x i ≡ Some e) (sym (some-injective _ v at)) is in
        let b = blank_at places workers 0 workers i e here in
        let w : e.worker ≡ i = ap (λ (x : Entry). x.worker) b.1 ∙ (let z : 0 + i ≡ i = omega arith in z) in
        ap (slice_get (blanks places workers 0 workers)) w ∙ here
    first (suc seat) v i e at is = absurd (some-ne-none v (sym at))

pub blank_shown : (places workers k : ℕ) → k < workers → IsShown (blank places workers k)
unfolding after
blank_shown places workers k low = record { worker = fresh; there = replicate_there workers fresh k low; entry = record { number = refl; level = refl; drawn = refl; raised = refl; stopped = refl; hand = refl } }

-- ---- splitting and joining
-- other views with the same entries show the same world
pub reseated : (w : World) (es : List Entry) (words : List ℕ) (views later : List (List Entry)) → Shows w es words views → ((weight : Entry → ℕ) → weigh weight later ≡ weigh weight views)
    → ((j : ℕ) (v : List Entry) (i : ℕ) (e : Entry) → get_elem? later j ≡ some v → slice_get v i ≡ Some e → slice_get es e.worker ≡ Some e) → Shows w es words later
reseated w es words views later s same there = record { words_are = s.words_are; weights = λ h. same h ∙ s.weights h; known = all_known es later there; each = s.each; count = s.count; past_last = s.past_last; saw_halt = s.saw_halt }

parts : (h : Entry → ℕ) (v : List Entry) → sum_by h (drop 1 v) + sum_by h (take 1 v) ≡ sum_by h v
parts h [] = refl
parts h (e ∷ es) = omega (arith, sum_by-cons h e es, sum_by-cons h e [])

from_rest : (v : List Entry) (i : ℕ) (e : Entry) → slice_get (drop 1 v) i ≡ Some e → slice_get v (suc i) ≡ Some e
from_rest [] i e h = cc
from_rest (x ∷ xs) i e h = h

from_first : (v : List Entry) (i : ℕ) (e : Entry) → slice_get (take 1 v) i ≡ Some e → slice_get v 0 ≡ Some e
from_first [] i e h = cc
from_first (x ∷ xs) zero e h = h
from_first (x ∷ xs) (suc i) e h = cc

pub deals : (size : Size) (id : ℕ) (v : List Entry) → Splits (Rule size) id v (drop 1 v) (take 1 v)
deals size id v s kept at =
    let old = kept.shows in
    record {
      events = kept.events;
      entries = kept.entries;
      shows = reseated (after (opening size.places size.workers) kept.events) kept.entries s.words s.views (set s.views id (drop 1 v) ++ take 1 v ∷ []) old
          (λ h. let f : List Entry → ℕ = λ u. sum_by h u in
          let a = sum-set f s.views id v (drop 1 v) (get_back s.views id v at) in
          let b = sum_by-append f (set s.views id (drop 1 v)) (take 1 v ∷ []) in
          let c = sum_by-cons f (take 1 v) [] in
          let p = parts h v in
          omega arith)
          (λ j u i e at_j is. ⊎_elim
          (λ (t : get_elem? (set s.views id (drop 1 v)) j ≡ some u). ⊎_elim
          (λ (x : (j ≡ id) × (drop 1 v ≡ u)). known_at old id v (suc i) e at (from_rest v i e (subst (λ (y : List Entry). slice_get y i ≡ Some e) (sym x.1) is)))
          (λ (x : (j ≢ id) × (get_elem? s.views j ≡ some u)). known_at old j u i e x.1 is)
          (at_set s.views id j (drop 1 v) u t))
          (λ (t : take 1 v ≡ u). known_at old id v 0 e at (from_first v i e (subst (λ (y : List Entry). slice_get y i ≡ Some e) (sym t) is)))
          (at_snoc (set s.views id (drop 1 v)) (take 1 v) u j at_j));
      moments = kept.moments;
    }

get-append : (v w : List Entry) (i : ℕ) (e : Entry) → slice_get (v ++ w) i ≡ Some e → (slice_get v i ≡ Some e) ⊎ ((j : ℕ) × (slice_get w j ≡ Some e))
get-append [] w i e h = inr (i, h)
get-append (x ∷ xs) w zero e h = inl h
get-append (x ∷ xs) w (suc i) e h = get-append xs w i e h

pub joins : (size : Size) (id : ℕ) (v : List Entry) (other : ℕ) (w : List Entry) → Joins (Rule size) id v other w (v ++ w) []
joins size id v other w s kept at ne there =
    let old = kept.shows in
    let apart_at : get_elem? s.views other ≡ some w = ⊎_elim
    (λ (t : (other ≡ id) × ((v ++ w) ≡ w)). absurd (ne t.0))
    (λ (t : (other ≢ id) × (get_elem? s.views other ≡ some w)). t.1)
    (at_set s.views id other (v ++ w) w there) in
    record {
      events = kept.events;
      entries = kept.entries;
      shows = reseated (after (opening size.places size.workers) kept.events) kept.entries s.words s.views (set (set s.views id (v ++ w)) other []) old
          (λ h. let f : List Entry → ℕ = λ u. sum_by h u in
          let a = sum-set f s.views id v (v ++ w) (get_back s.views id v at) in
          let b = sum-set f (set s.views id (v ++ w)) other w [] (get_back (set s.views id (v ++ w)) other w there) in
          let c = sum_by-append h v w in
          omega arith)
          (λ j u i e at_j is. ⊎_elim
          (λ (x : (j ≡ other) × ([] ≡ u)). absurd (nothing u i e (sym x.1) is))
          (λ (x : (j ≢ other) × (get_elem? (set s.views id (v ++ w)) j ≡ some u)). ⊎_elim
          (λ (y : (j ≡ id) × ((v ++ w) ≡ u)). ⊎_elim
          (λ (z : slice_get v i ≡ Some e). known_at old id v i e at z)
          (λ (z : (k : ℕ) × (slice_get w k ≡ Some e)). known_at old other w z.0 e apart_at z.1)
          (get-append v w i e (subst (λ (q : List Entry). slice_get q i ≡ Some e) (sym y.1) is)))
          (λ (y : (j ≢ id) × (get_elem? s.views j ≡ some u)). known_at old j u i e y.1 is)
          (at_set s.views id j (v ++ w) u x.1))
          (at_set (set s.views id (v ++ w)) other j [] u at_j));
      moments = kept.moments;
    }
  where
    nothing : (u : List Entry) (i : ℕ) (e : Entry) → u ≡ [] → slice_get u i ≡ Some e → ⊥
    nothing u i e z is = let b : slice_get [] i ≡ Some e = subst (λ (x : List Entry). slice_get x i ≡ Some e) z is in cc

-- ---- the steps of a seat, whose view is one entry
pub single : (v : List Entry) → length v ≡ 1 → (d : Entry) → v ≡ get_or v 0 d ∷ []
single [] e d = absurd (omega arith)
single (x ∷ []) e d = refl
single (x ∷ y ∷ ys) e d = absurd (omega arith)

pub room : (key size : Size) → key ≡ size → (size.places ≤ 1024) × (size.workers ≤ 64) × (0 < size.workers) → key.places + key.workers + 1 < 2 ^ 64
room key size same small =
    let p = ap (λ (s : Size). s.places) same in
    let w = ap (λ (s : Size). s.workers) same in
    omega arith

module _ (size : Size) (small : size.places + size.workers + 1 < 2 ^ 64) (slots id : ℕ) (me : Me ℕ (List Entry)) (one : length me.0 ≡ 1) (bare : me.1 ≡ []) (st : Step ℕ) where
  abbrev mine : Entry
  mine = get_or me.0 0 (blank 0 0 0)

  is_me : (mine ∷ [], []) ≡ me
  is_me = λ i. (sym (single me.0 one (blank 0 0 0)) i, sym bare i)

  pub seat_draws : has_stopped mine ≡ false → Allows (Rule size) slots id me 0 (λ n. (n + 1) % 2 ^ 64) (Drew st me)
  seat_draws going = subst (λ (m : Me ℕ (List Entry)). Allows (Rule size) slots id m 0 (λ n. (n + 1) % 2 ^ 64) (Drew st m)) is_me (draws size small slots id mine st going)

  pub seat_raises : has_stopped mine ≡ false → (p : ℕ) → last_drawn mine ≡ Some p → Allows (Rule size) slots id me 1 (λ n. bit_or n 1) (Raised st me)
  seat_raises going p last = subst (λ (m : Me ℕ (List Entry)). Allows (Rule size) slots id m 1 (λ n. bit_or n 1) (Raised st m)) is_me (raises size small slots id mine st going p last)

  pub seat_looks : IsShown mine → Allows (Rule size) slots id me 1 (λ n. n) (Looked st me)
  seat_looks shown = subst (λ (m : Me ℕ (List Entry)). Allows (Rule size) slots id m 1 (λ n. n) (Looked st m)) is_me (looks size small slots id mine st shown)

-- ---- the loop that deals the seats
blanks-step : (places workers k n : ℕ) → 0 < n → blanks places workers k n ≡ blank places workers k ∷ blanks places workers (k + 1) (n - 1)
blanks-step places workers k zero h = absurd (omega arith)
blanks-step places workers k (suc n) h = λ i. blank places workers k ∷ blanks places workers (let e : suc k ≡ k + 1 = omega arith in e i) (let e : n ≡ suc n - 1 = omega arith in e i)

blanks-push : (places workers k n : ℕ) → blanks places workers k (n + 1) ≡ blanks places workers k n ++ blank places workers (k + n) ∷ []
blanks-push places workers k zero = let e : 0 + 1 ≡ suc 0 = omega arith in ap (blanks places workers k) e ∙ ap (λ (j : ℕ). blank places workers j ∷ []) (let z : k ≡ k + 0 = omega arith in z)
blanks-push places workers k (suc n) =
    let e : suc n + 1 ≡ suc (n + 1) = omega arith in
    ap (blanks places workers k) e ∙ ap (λ (l : List Entry). blank places workers k ∷ l) (blanks-push places workers (suc k) n ∙ ap (λ (j : ℕ). blanks places workers (suc k) n ++ blank places workers j ∷ []) (let z : suc k + n ≡ k + suc n = omega arith in z))

-- what is left once the first is dealt, and that one
pub left_at : (places workers k n : ℕ) (v : List Entry) → v ≡ blanks places workers k (n - k) → k < n → (drop 1 v ≡ blanks places workers (k + 1) (n - (k + 1))) × (take 1 v ≡ blank places workers k ∷ [])
left_at places workers k n v is lt =
    let step = is ∙ blanks-step places workers k (n - k) (omega arith) in
    (ap (drop 1) step ∙ ap (blanks places workers (k + 1)) (let e : (n - k) - 1 ≡ n - (k + 1) = omega arith in e), ap (take 1) step)

dealt_one : (places workers k : ℕ) (dealt : List Entry) → dealt ≡ blanks places workers 0 k → dealt ++ blank places workers k ∷ [] ≡ blanks places workers 0 (k + 1)
dealt_one places workers k dealt is = ap (λ (l : List Entry). l ++ blank places workers k ∷ []) is ∙ (ap (λ (j : ℕ). blanks places workers 0 k ++ blank places workers j ∷ []) (let z : k ≡ 0 + k = omega arith in z) ∙ sym (blanks-push places workers 0 k))

module _ {A : Type 0} (f : A → Entry) where
  -- one seat more is dealt
  pub deals_more : (places workers k : ℕ) (xs ys : List A) (x : A) → ys ≡ xs ++ x ∷ [] → map f xs ≡ blanks places workers 0 k → f x ≡ blank places workers k → map f ys ≡ blanks places workers 0 (k + 1)
  deals_more places workers k xs ys x is before it = ap (map f) is ∙ (map-append f xs (x ∷ []) ∙ (ap (λ (e : Entry). map f xs ++ e ∷ []) it ∙ dealt_one places workers k (map f xs) before))

  -- one seat more comes together with those that have
  pub joins_more : (joined me : List Entry) (xs ys : List A) (s : A) → xs ≡ ys ++ s ∷ [] → me ≡ f s ∷ [] → (joined ++ me) ++ reverse (map f ys) ≡ joined ++ reverse (map f xs)
  joins_more joined me xs ys s is mine =
      ap (λ (l : List Entry). (joined ++ l) ++ reverse (map f ys)) mine
      ∙ (append_assoc joined (f s ∷ []) (reverse (map f ys))
      ∙ ap (λ (l : List Entry). joined ++ l) (sym (reverse-append (map f ys) (f s ∷ [])) ∙ ap reverse (sym (map-append f ys (s ∷ [])) ∙ sym (ap (map f) is))))

-- ---- what a step leaves and tells of the seat's one entry
abbrev pub the_entry : Me ℕ (List Entry) → Entry
the_entry me = get_or me.0 0 (blank 0 0 0)

module _ (me later : Me ℕ (List Entry)) (one : length me.0 ≡ 1) where
  leaves : (f : Entry → Entry) → later ≡ (map f me.0, me.1) → the_entry later ≡ f (the_entry me)
  leaves f is = ap the_entry is ∙ ap (λ (l : List Entry). get_or (map f l) 0 (blank 0 0 0)) (single me.0 one (blank 0 0 0))

  told_of_one : (P : Entry → Type 0) → All P me.0 → P (the_entry me)
  told_of_one P all = all 0 (blank 0 0 0) (omega arith)

  module _ (st : Step ℕ) (n : ℕ) where
    pub draw_leaves : (drew : Drew st me n later) → (the_entry later ≡ acted drew.history (with_draw n (the_entry me))) × DrawTells drew.history n (the_entry me)
    draw_leaves drew = (leaves _ drew.leaves, told_of_one (DrawTells drew.history n) drew.tells)

    pub raise_leaves : (raised : Raised st me n later) → (the_entry later ≡ acted raised.history (with_raise (the_entry me))) × RaiseTells raised.history (the_entry me)
    raise_leaves raised = (leaves _ raised.leaves, told_of_one (RaiseTells raised.history) raised.tells)

    pub look_leaves : (looked : Looked st me n later) → (the_entry later ≡ acted looked.history (with_look (n == 1) (the_entry me))) × LookTells looked.history n (the_entry me)
    look_leaves looked = (leaves _ looked.leaves, told_of_one (LookTells looked.history n) looked.tells)

-- an entry that an event left has the events up to it
pub has_acted : (e f : Entry) (history : List Event) → e ≡ acted history f → e ≡ acted e.history f
has_acted e f history is = is ∙ ap (λ (h : List Event). acted h f) (sym (ap (λ (x : Entry). x.history) is))

pub goes_on : (e f : Entry) (before history : List Event) → e ≡ acted history f → Begins before history → Begins before e.history
goes_on e f before history is line = subst (Begins before) (sym (ap (λ (x : Entry). x.history) is)) line

-- a draw leaves the level as it is
pub same_level : (n : ℕ) (e : Entry) → ((with_draw n e).places ≡ e.places) × ((with_draw n e).workers ≡ e.workers)
same_level n e = go (ltb n e.places)
  where
    go : (b : Bool) → ((if b then with_place n e else with_end e).places ≡ e.places) × ((if b then with_place n e else with_end e).workers ≡ e.workers)
    go true = (refl, refl)
    go false = (refl, refl)
