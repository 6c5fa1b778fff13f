-- Each step of a seat keeps the rule.
use Rattle.std.proofs.Common.{◌≡◌, ◌≢◌, ⊎_elim, ℕ, zero, suc, ◌+◌, ◌%◌, ◌^◌, ◌<◌, ◌≤◌, Bool, true, false, cond, ltb, ◌==◌, ◌||◌, if◌then◌else◌, List, [], ◌∷◌, ◌++◌, length, set, get_or, Option, Some, None, is_some, slice_get, sum_by, count_by, bit_or, All, refl, sym, ap, ◌∙◌, subst, arith, ltb-true, ltb-false, lt-ltb, le-ltb, true≢false, mod-eq_of_lt, eq-eqb, length-set, append_assoc, append-nil}
use Rattle.std.specs.List.{last_or}
use Rattle.std.specs.Option.{option_map_or}
use Rattle.std.proofs.lemmas.Bool.Decides.{nat_tests}
use Rattle.std.proofs.lemmas.List.Elements.{All-cons, All-nil}
use Rattle.std.proofs.lemmas.List.Sums.{sum_by-cons, count_by-le-length}
use mathlib.Core.Option.{some}
use lib.ListN.{get_elem?}
use lib.Seq.{set-set}
use Rattle.atomic_table.specs.Table.{State, Step, keeps, Allows}
use Rattle.atomic_table.proofs.Lists.{at_set, set_again}
use Rattle.tickets.specs.declared.event.Event.{Event}
use Rattle.tickets.specs.declared.event.Event.TheVariants.{Draw, Finish, Raise, Look}
use Rattle.tickets.specs.declared.entry.Entry.{Entry}
use Rattle.tickets.specs.declared.size.Size.{Size}
use Rattle.tickets.specs.World.{Worker, World, opening, after, step, taking, finishing, raising, stopping, with_worker, past_next, halted, draw_by, finish_by, raise_by, look_by, act_by}
use Rattle.tickets.specs.Once.{times, once_below, SomeRaised}
use Rattle.tickets.specs.Entries.{acted, last_drawn, has_stopped, with_place, with_end, with_draw, with_raise, with_look}
use Rattle.tickets.specs.Rule.{flag, ActedIn, Begins, IsAlone, IsEntryOf, IsEntryIn, IsShown, Shows, FollowsRule, Drew, DrawTells, Raised, RaiseTells, Looked, LookTells, last_world}
use Rattle.tickets.proofs.Lists.{Some-injective, get_to, get_back, get-set, get-set_same, get-set_other, sum-set, sum-two, times-push, All-from_get, get_from_All}
use Rattle.tickets.proofs.Numbered.{IsNumbered, apart}
use Rattle.tickets.proofs.Sound.{IsSound, becoming, events_sound, after-append, after_alike, workers_after, drawn_most, some_raised}

abbrev pub Rule : Size → State ℕ (List Entry) → Type 0
Rule size s = FollowsRule size s.words s.views

-- ---- the rule, place by place
pub all_known : (es : List Entry) (views : List (List Entry)) → ((seat : ℕ) (v : List Entry) (i : ℕ) (e : Entry) → get_elem? views seat ≡ some v → slice_get v i ≡ Some e → IsEntryIn es e) → All (All (IsEntryIn es)) views
all_known es views h = All-from_get (All (IsEntryIn es)) views (λ seat v at. All-from_get (IsEntryIn es) v (λ i e is. h seat v i e (get_to views seat v at) is))

module _ {w : World} {es : List Entry} {words : List ℕ} {views : List (List Entry)} (s : Shows w es words views) where
  pub known_at : (seat : ℕ) (v : List Entry) (i : ℕ) (e : Entry) → get_elem? views seat ≡ some v → slice_get v i ≡ Some e → IsEntryIn es e
  known_at seat v i e at is = get_from_All (IsEntryIn es) v (get_from_All (All (IsEntryIn es)) views s.known seat v (get_back views seat v at)) i e is

  pub past_of : (k : ℕ) (e : Entry) → slice_get es k ≡ Some e → e.past ≡ true → w.next ≡ w.places
  past_of k e at = get_from_All (λ (x : Entry). x.past ≡ true → w.next ≡ w.places) es s.past_last k e at

  pub saw_of : (k : ℕ) (e : Entry) → slice_get es k ≡ Some e → e.saw ≡ true → w.halt ≡ true
  saw_of k e at = get_from_All (λ (x : Entry). x.saw ≡ true → w.halt ≡ true) es s.saw_halt k e at

-- ---- the moment of each worker's last event
begins_on : (first events more : List Event) → Begins first events → Begins first (events ++ more)
begins_on first events more (later, is) = (later ++ more, sym (append_assoc first later more) ∙ ap (λ (l : List Event). l ++ more) is)

-- where events follow, of which the last is that of one worker
moves_on : (size : Size) (events more : List Event) (es : List Entry) (k : ℕ) (f : Entry) → All (ActedIn size events) es → f.workers ≡ size.workers → f.history ≡ events ++ more → All (ActedIn size (events ++ more)) (set es k f)
moves_on size events more es k f old level last = All-from_get (ActedIn size (events ++ more)) (set es k f) (λ j x at. ⊎_elim
    (λ (t : (j ≡ k) × (f ≡ x)). subst (ActedIn size (events ++ more)) t.1 record { workers = level; begins = ([], append-nil f.history ∙ last) })
    (λ (t : (j ≢ k) × (slice_get es j ≡ Some x)).
    let was = get_from_All (ActedIn size events) es old j x t.1 in
    record { workers = was.workers; begins = begins_on x.history events more was.begins })
    (get-set es k j f x at))

once_most : (n p : ℕ) → once_below n p ≤ 1
once_most n p = grind (arith, nat_tests)

-- the entry of a seat that acted last of all
module _ (size : Size) (words : List ℕ) (views : List (List Entry)) (seat : ℕ) (f : Entry) (kept : FollowsRule size words views) (seated : get_elem? views seat ≡ some (f ∷ [])) (last : f.history ≡ kept.events) where
  abbrev now : World
  now = after (opening size.places size.workers) kept.events

  at_f : slice_get kept.entries f.worker ≡ Some f
  at_f = known_at kept.shows seat (f ∷ []) 0 f seated refl

  abbrev mine : (a : Worker) × (slice_get now.workers f.worker ≡ Some a) × IsEntryOf now.places f.worker a f
  mine = kept.shows.each f.worker f at_f

  is_now : last_world f ≡ now
  is_now =
      let places : f.places ≡ size.places = mine.2.level ∙ (after_alike (opening size.places size.workers) kept.events).0 in
      let workers : f.workers ≡ size.workers = (get_from_All (ActedIn size kept.events) kept.entries kept.moments f.worker f at_f).workers in
      λ i. after (opening (places i) (workers i)) (last i)

  shown_now : IsShown f
  shown_now = record { worker = mine.0; there = ap (λ (w : World). slice_get w.workers f.worker) is_now ∙ mine.1; entry = subst (λ (p : ℕ). IsEntryOf p f.worker mine.0 f) (sym mine.2.level) mine.2 }

  alone_now : (p : ℕ) → 0 < times p f.drawn → IsAlone p f
  alone_now p has_drawn k other at ne =
      let there : slice_get now.workers k ≡ Some other = ap (λ (w : World). slice_get w.workers k) (sym is_now) ∙ at in
      let two = sum-two (λ (a : Worker). times p a.drawn) now.workers k f.worker other mine.0 ne there mine.1 in
      let here = ap (times p) mine.2.drawn in
      let once = (events_sound size.places size.workers kept.events).once p in
      let most = once_most now.next p in
      omega arith

  raised_now : now.halt ≡ true → SomeRaised (last_world f)
  raised_now halt = subst SomeRaised (sym is_now) (some_raised now ((events_sound size.places size.workers kept.events).halted halt))

-- ---- one worker changes, and the seat that has its entry
numbered : (w : World) (es : List Entry) (words : List ℕ) (views : List (List Entry)) → Shows w es words views → IsNumbered 0 es
numbered w es words views s i e at = let n = (s.each i e at).2.number in omega arith

-- words and views show the world that follows
changes : (w : World) (es : List Entry) (next : ℕ) (halt : Bool) (k : ℕ) (a b : Worker) (e f : Entry) (words later : List ℕ) (views : List (List Entry)) (seat : ℕ)
    → Shows w es words views → slice_get w.workers k ≡ Some a → slice_get es k ≡ Some e → get_elem? views seat ≡ some (e ∷ []) → e.worker ≡ k → IsEntryOf w.places k b f
    → (f.past ≡ true → next ≡ w.places) → (w.next ≡ w.places → next ≡ w.places) → (f.saw ≡ true → halt ≡ true) → (w.halt ≡ true → halt ≡ true)
    → later ≡ (next + count_by (λ (e : Entry). e.past) (set es k f)) ∷ flag halt ∷ []
    → Shows (becoming w next halt k b) (set es k f) later (set views seat (f ∷ []))
changes w es next halt k a b e f words later views seat s at at_e seated is_k is_entry past still_last saw still_halt are = record {
  words_are = are;
  weights = λ h.
      let t = sum-set (λ (v : List Entry). sum_by h v) views seat (e ∷ []) (f ∷ []) (get_back views seat (e ∷ []) seated) in
      let u = sum-set h es k e f at_e in
      let o = s.weights h in
      omega arith;
  known = all_known (set es k f) (set views seat (f ∷ [])) (λ j v i x at_j at_i. ⊎_elim
      (λ (t : (j ≡ seat) × ((f ∷ []) ≡ v)). one i x (subst (λ (y : List Entry). slice_get y i ≡ Some x) (sym t.1) at_i))
      (λ (t : (j ≢ seat) × (get_elem? views j ≡ some v)).
      let ne : x.worker ≢ k = λ q. apart views es (numbered w es words views s) s.weights j seat v (e ∷ []) i 0 x e t.0 t.1 seated at_i refl (q ∙ sym is_k) in
      get-set_other es k x.worker f ne ∙ known_at s j v i x t.1 at_i)
      (at_set views seat j (f ∷ []) v at_j));
  each = λ j x at_x. ⊎_elim
      (λ (t : (j ≡ k) × (f ≡ x)). (b, ap (slice_get (set w.workers k b)) t.0 ∙ get-set_same w.workers k a b at, subst (λ (p : ℕ × Entry). IsEntryOf w.places p.0 b p.1) (λ i. (sym t.0 i, t.1 i)) is_entry))
      (λ (t : (j ≢ k) × (slice_get es j ≡ Some x)). let old = s.each j x t.1 in (old.0, get-set_other w.workers k j b t.0 ∙ old.1, old.2))
      (get-set es k j f x at_x);
  count = length-set es k f ∙ (s.count ∙ sym (length-set w.workers k b));
  past_last = All-from_get (λ (x : Entry). x.past ≡ true → next ≡ w.places) (set es k f) (λ j x at_x is_past. ⊎_elim
      (λ (t : (j ≡ k) × (f ≡ x)). past (ap (λ (y : Entry). y.past) t.1 ∙ is_past))
      (λ (t : (j ≢ k) × (slice_get es j ≡ Some x)). still_last (past_of s j x t.1 is_past))
      (get-set es k j f x at_x));
  saw_halt = All-from_get (λ (x : Entry). x.saw ≡ true → halt ≡ true) (set es k f) (λ j x at_x has_seen. ⊎_elim
      (λ (t : (j ≡ k) × (f ≡ x)). saw (ap (λ (y : Entry). y.saw) t.1 ∙ has_seen))
      (λ (t : (j ≢ k) × (slice_get es j ≡ Some x)). still_halt (saw_of s j x t.1 has_seen))
      (get-set es k j f x at_x));
}
  where
    one : (i : ℕ) (x : Entry) → slice_get (f ∷ []) i ≡ Some x → slice_get (set es k f) x.worker ≡ Some x
    one zero x is = let same = Some-injective f x is in subst (λ (y : Entry). slice_get (set es k f) y.worker ≡ Some y) same (ap (slice_get (set es k f)) is_entry.number ∙ get-set_same es k e f at_e)
    one (suc i) x is = cc

-- ---- a worker finishes what it has, and draws
abbrev finished_by : Worker → Option ℕ → List ℕ
finished_by a None = a.finished
finished_by a (Some p) = a.finished ++ p ∷ []

-- worker a with nothing in its hand
abbrev let_go : Worker → Worker
let_go a = record a { hand = None; finished = finished_by a a.hand }

acts_at : (act : World → ℕ → Worker → World) (w : World) (k : ℕ) (a : Worker) → slice_get w.workers k ≡ Some a → act_by act w k ≡ act w k a
acts_at act w k a at = ap (λ o. option_map_or (act w k) o w) at

finishes : (w : World) (k : ℕ) (a : Worker) → slice_get w.workers k ≡ Some a → step w (Finish k) ≡ with_worker w k (let_go a)
finishes w k a at = acts_at finish_by w k a at ∙ go a.hand refl
  where
    go : (o : Option ℕ) → a.hand ≡ o → option_map_or (λ place. with_worker w k (finishing place a)) o w ≡ with_worker w k (record a { hand = None; finished = finished_by a o })
    go None e =
        let same : set w.workers k (record a { hand = None }) ≡ w.workers
        = ap (λ (h : Option ℕ). set w.workers k (record a { hand = h })) (sym e) ∙ set_again w.workers k a (get_to w.workers k a at) in
        ap (λ (l : List Worker). record w { workers = l }) (sym same)
    go (Some p) e = refl

abbrev next_if : Bool → ℕ → ℕ
next_if true n = n + 1
next_if false n = n

abbrev worker_if : Bool → ℕ → Worker → Worker
worker_if true n a = taking n a
worker_if false n a = stopping a

abbrev entry_if : Bool → ℕ → Entry → Entry
entry_if true n e = with_place n e
entry_if false n e = with_end e

-- a place is left or not
abbrev left : World → Bool
left w = ltb w.next w.places

turn : (w : World) (k : ℕ) (a : Worker) → slice_get w.workers k ≡ Some a → a.stopped ≡ false
    → step (step w (Finish k)) (Draw k) ≡ becoming w (next_if (left w) w.next) w.halt k (worker_if (left w) w.next (let_go a))
turn w k a at going =
    ap (λ (v : World). step v (Draw k)) (finishes w k a at)
    ∙ (acts_at draw_by (with_worker w k (let_go a)) k (let_go a) (get-set_same w.workers k a (let_go a) at)
    ∙ (ap (λ (b : Bool). if b || false then with_worker w k (let_go a) else if left w then with_worker (past_next (with_worker w k (let_go a))) k (taking w.next (let_go a)) else with_worker (with_worker w k (let_go a)) k (stopping (let_go a))) going
    ∙ picks (left w)))
  where
    picks : (t : Bool) → (if t then with_worker (past_next (with_worker w k (let_go a))) k (taking w.next (let_go a)) else with_worker (with_worker w k (let_go a)) k (stopping (let_go a)))
        ≡ becoming w (next_if t w.next) w.halt k (worker_if t w.next (let_go a))
    picks true = ap (λ (l : List Worker). record { places = w.places; next = w.next + 1; workers = l; halt = w.halt }) (set-set w.workers k _ _)
    picks false = ap (λ (l : List Worker). record { places = w.places; next = w.next; workers = l; halt = w.halt }) (set-set w.workers k _ _)

last_or-push : (o : Option ℕ) (l : List ℕ) (x : ℕ) → last_or o (l ++ x ∷ []) ≡ Some x
last_or-push o [] x = refl
last_or-push o (y ∷ ys) x = last_or-push (Some y) ys x

or_false : (a b : Bool) → (a || b) ≡ false → (a ≡ false) × (b ≡ false)
or_false true b e = absurd (true≢false e)
or_false false b e = (refl, e)

or_true : (a : Bool) → (a || true) ≡ true
or_true true = refl
or_true false = refl

or_id : (a : Bool) → (a || false) ≡ a
or_id true = refl
or_id false = refl

-- an entry is its worker's whatever its history is
aged : (history : List Event) {places k : ℕ} {a : Worker} {e : Entry} → IsEntryOf places k a e → IsEntryOf places k a (acted history e)
aged history s = record { number = s.number; level = s.level; drawn = s.drawn; raised = s.raised; stopped = s.stopped; hand = s.hand }

-- the entry after a draw is that of its worker
drawn_entry : (t : Bool) (places k next n : ℕ) (a : Worker) (e : Entry) → IsEntryOf places k a e → has_stopped e ≡ false → (t ≡ true → n ≡ next) → IsEntryOf places k (worker_if t next (let_go a)) (entry_if t n e)
drawn_entry true places k next n a e s going here =
    let g = or_false e.past (is_some e.raised || e.saw) going in
    let r = or_false (is_some e.raised) e.saw g.1 in
    record {
      number = s.number;
      level = s.level;
      drawn = (λ i. s.drawn i ++ here refl i ∷ []);
      raised = s.raised;
      stopped = s.stopped;
      hand = (λ i. if g.0 i || r.0 i then None else last_or None (e.drawn ++ n ∷ [])) ∙ last_or-push None e.drawn n ∙ ap Some (here refl);
    }
drawn_entry false places k next n a e s going here = record { number = s.number; level = s.level; drawn = s.drawn; raised = s.raised; stopped = refl; hand = refl }

-- ---- flags and counts
none_past : (l : List Entry) → ((k : ℕ) (e : Entry) → slice_get l k ≡ Some e → e.past ≡ false) → count_by (λ (e : Entry). e.past) l ≡ 0
none_past [] h = refl
none_past (x ∷ xs) h =
    let z : ◌≡◌ {A = ℕ} (cond x.past 1 0) 0 = ap (λ (b : Bool). cond b 1 0) (h 0 x refl) in
    omega (arith, sum_by-cons (λ (a : Entry). cond a.past 1 0) x xs, none_past xs (λ k a e. h (suc k) a e))

not_true : (b : Bool) → (b ≡ true → ⊥) → b ≡ false
not_true true n = absurd (n refl)
not_true false n = refl

or_flag : (b : Bool) → bit_or (flag b) 1 ≡ 1
or_flag true = refl
or_flag false = refl

at_raised : (o : Option ℕ) → is_some o ≡ true → (p : ℕ) × (o ≡ Some p)
at_raised None e = absurd (true≢false (sym e))
at_raised (Some p) e = (p, refl)

-- ---- a state that keeps the rule, and a seat whose worker has the entry e
module _ (size : Size) (small : size.places + size.workers + 1 < 2 ^ 64) (s : State ℕ (List Entry)) (kept : Rule size s) (id : ℕ) (e : Entry) (seated : get_elem? s.views id ≡ some (e ∷ [])) where
  abbrev world : World
  world = after (opening size.places size.workers) kept.events

  abbrev ticket : ℕ
  ticket = get_or s.words 0 0

  abbrev halt_word : ℕ
  halt_word = get_or s.words 1 0

  sound : IsSound world
  sound = events_sound size.places size.workers kept.events

  places_is : world.places ≡ size.places
  places_is = (after_alike (opening size.places size.workers) kept.events).0

  ticket_is : ticket ≡ world.next + count_by (λ (x : Entry). x.past) kept.entries
  ticket_is = ap (λ (l : List ℕ). get_or l 0 0) kept.shows.words_are

  halt_is : halt_word ≡ flag world.halt
  halt_is = ap (λ (l : List ℕ). get_or l 1 0) kept.shows.words_are

  -- the view of the seat as it is written
  rests : (f : Entry) → get_elem? (set s.views id (f ∷ [])) id ≡ some (f ∷ [])
  rests f = get_to (set s.views id (f ∷ [])) id (f ∷ []) (get-set_same s.views id (e ∷ []) (f ∷ []) (get_back s.views id (e ∷ []) seated))

  ticket_small : ticket + 1 < 2 ^ 64
  ticket_small =
      let b = sound.bound in
      let p = places_is in
      let t = ticket_is in
      let c = count_by-le-length (λ (x : Entry). x.past) kept.entries in
      let q = kept.shows.count in
      let l = workers_after size.places size.workers kept.events in
      omega arith

  at_e : slice_get kept.entries e.worker ≡ Some e
  at_e = known_at kept.shows id (e ∷ []) 0 e seated refl

  found : (a : Worker) × (slice_get world.workers e.worker ≡ Some a) × IsEntryOf world.places e.worker a e
  found = kept.shows.each e.worker e at_e

  moment : ActedIn size kept.events e
  moment = get_from_All (ActedIn size kept.events) kept.entries kept.moments e.worker e at_e

  here : world.next < world.places → ticket ≡ world.next
  here more =
      let z = none_past kept.entries (λ k x at. not_true x.past (λ q. let h = past_of kept.shows k x at q in omega arith)) in
      let t = ticket_is in
      omega arith

  -- the ticket is a place exactly where one is left
  same_test : (t : Bool) → left world ≡ t → ltb ticket e.places ≡ t
  same_test true q =
      let lt = ltb-true world.next world.places q in
      let h = here lt in
      let r = found.2.level in
      lt-ltb ticket e.places (omega arith)
  same_test false q =
      let le = ltb-false world.next world.places q in
      let t = ticket_is in
      let r = found.2.level in
      le-ltb ticket e.places (omega arith)

  mine_past : has_stopped e ≡ false → ◌≡◌ {A = ℕ} (cond e.past 1 0) 0
  mine_past going = ap (λ (b : Bool). cond b 1 0) (or_false e.past (is_some e.raised || e.saw) going).0

  abbrev drawing : List Event
  drawing = Finish e.worker ∷ Draw e.worker ∷ []

  abbrev drawn_if : Bool → Entry
  drawn_if t = acted (kept.events ++ drawing) (entry_if t ticket e)

  words_drawn : (t : Bool) → left world ≡ t → has_stopped e ≡ false
      → set s.words 0 ((ticket + 1) % 2 ^ 64) ≡ (next_if t world.next + count_by (λ (x : Entry). x.past) (set kept.entries e.worker (drawn_if t))) ∷ flag world.halt ∷ []
  words_drawn t q going =
      let g = mod-eq_of_lt ticket_small in
      let w = ticket_is in
      let c = grows t in
      let more : ticket + 1 ≡ next_if t world.next + count_by (λ (x : Entry). x.past) (set kept.entries e.worker (drawn_if t)) = omega arith in
      ap (λ (l : List ℕ). set l 0 ((ticket + 1) % 2 ^ 64)) kept.shows.words_are ∙ ap (λ (x : ℕ). x ∷ flag world.halt ∷ []) (g ∙ more)
    where
      grows : (t : Bool) → next_if t world.next + count_by (λ (x : Entry). x.past) (set kept.entries e.worker (drawn_if t)) ≡ (world.next + count_by (λ (x : Entry). x.past) kept.entries) + 1
      grows true = let z = mine_past going in omega (arith, sum-set (λ (x : Entry). cond x.past 1 0) kept.entries e.worker e (drawn_if true) at_e)
      grows false = let z = mine_past going in omega (arith, sum-set (λ (x : Entry). cond x.past 1 0) kept.entries e.worker e (drawn_if false) at_e)

  past_at : (t : Bool) → left world ≡ t → has_stopped e ≡ false → (entry_if t ticket e).past ≡ true → next_if t world.next ≡ world.places
  past_at true q going h = absurd (true≢false (sym h ∙ (or_false e.past (is_some e.raised || e.saw) going).0))
  past_at false q going h = let le = ltb-false world.next world.places q in let b = sound.bound in omega arith

  last_at : (t : Bool) → left world ≡ t → world.next ≡ world.places → next_if t world.next ≡ world.places
  last_at true q h = let lt = ltb-true world.next world.places q in absurd (omega arith)
  last_at false q h = h

  saw_at : (t : Bool) → (entry_if t ticket e).saw ≡ true → world.halt ≡ true
  saw_at true h = saw_of kept.shows e.worker e at_e h
  saw_at false h = saw_of kept.shows e.worker e at_e h

  level_if : (t : Bool) → (entry_if t ticket e).workers ≡ size.workers
  level_if true = moment.workers
  level_if false = moment.workers

  draw_kept : has_stopped e ≡ false → (later : FollowsRule size (set s.words 0 ((ticket + 1) % 2 ^ 64)) (set s.views id (acted (kept.events ++ drawing) (with_draw ticket e) ∷ []))) × (later.events ≡ kept.events ++ drawing)
  unfolding after
  draw_kept going = go (left world) refl
    where
      leads : after (opening size.places size.workers) (kept.events ++ drawing) ≡ becoming world (next_if (left world) world.next) world.halt e.worker (worker_if (left world) world.next (let_go found.0))
      leads = after-append (opening size.places size.workers) kept.events drawing ∙ turn world e.worker found.0 found.1 (sym found.2.stopped ∙ going)

      go : (t : Bool) → left world ≡ t → (later : FollowsRule size (set s.words 0 ((ticket + 1) % 2 ^ 64)) (set s.views id (acted (kept.events ++ drawing) (with_draw ticket e) ∷ []))) × (later.events ≡ kept.events ++ drawing)
      go t q = (
        record {
          events = kept.events ++ drawing;
          entries = set kept.entries e.worker (drawn_if t);
          shows = subst (λ (p : World × Entry). Shows p.0 (set kept.entries e.worker (drawn_if t)) (set s.words 0 ((ticket + 1) % 2 ^ 64)) (set s.views id (acted (kept.events ++ drawing) p.1 ∷ [])))
              (λ i. (sym (leads ∙ ap (λ (b : Bool). becoming world (next_if b world.next) world.halt e.worker (worker_if b world.next (let_go found.0))) q) i, sym (draws_as t (same_test t q)) i))
              (changes world kept.entries (next_if t world.next) world.halt e.worker found.0 (worker_if t world.next (let_go found.0)) e (drawn_if t) s.words (set s.words 0 ((ticket + 1) % 2 ^ 64)) s.views id kept.shows found.1 at_e seated refl
              (aged (kept.events ++ drawing) (drawn_entry t world.places e.worker world.next ticket found.0 e found.2 going (λ is. here (ltb-true world.next world.places (q ∙ is))))) (past_at t q going) (last_at t q) (saw_at t) (λ h. h) (words_drawn t q going));
          moments = moves_on size kept.events drawing kept.entries e.worker (drawn_if t) kept.moments (level_if t) refl;
        },
        refl,
      )
        where
          draws_as : (t : Bool) → ltb ticket e.places ≡ t → with_draw ticket e ≡ entry_if t ticket e
          draws_as true is = ap (λ (b : Bool). if b then with_place ticket e else with_end e) is
          draws_as false is = ap (λ (b : Bool). if b then with_place ticket e else with_end e) is

  above : (i p : ℕ) → slice_get e.drawn i ≡ Some p → p < ticket
  above i p at = let b = (sound.each e.worker found.0 found.1).below i p (ap (λ (l : List ℕ). slice_get l i) (sym found.2.drawn) ∙ at) in let w = ticket_is in omega arith

  many : length e.drawn ≤ ticket
  many = let m = drawn_most _ _ _ found.0 (sound.each e.worker found.0 found.1) in let d = ap length found.2.drawn in let w = ticket_is in omega arith

  draw_tells : has_stopped e ≡ false → DrawTells (kept.events ++ drawing) ticket e
  draw_tells going =
      let f = acted (kept.events ++ drawing) (with_draw ticket e) in
      let later = draw_kept going in
      let words = set s.words 0 ((ticket + 1) % 2 ^ 64) in
      let views = set s.views id (f ∷ []) in
      record {
        line = begins_on e.history kept.events drawing moment.begins;
        shown = shown_now size words views id f later.0 (rests f) (sym later.1);
        above = All-from_get (λ p. p < ticket) e.drawn above;
        count = many;
        alone = λ lt. alone_now size words views id f later.0 (rests f) (sym later.1) ticket (mine_too lt);
      }
    where
      mine_too : ticket < e.places → 0 < times ticket (with_draw ticket e).drawn
      mine_too lt =
          let took : (with_draw ticket e).drawn ≡ e.drawn ++ ticket ∷ [] = ap (λ (b : Bool). (if b then with_place ticket e else with_end e).drawn) (lt-ltb ticket e.places lt) in
          let t = ap (times ticket) took in
          let p = times-push ticket e.drawn ticket in
          let one : ◌≡◌ {A = ℕ} (cond (ticket == ticket) 1 0) 1 = ap (λ (b : Bool). cond b 1 0) (eq-eqb ticket ticket refl) in
          omega arith

  -- a raise of the place drawn last
  abbrev raises_it : List Event
  raises_it = Raise e.worker ∷ []

  abbrev with_raised : Entry
  with_raised = acted (kept.events ++ raises_it) (with_raise e)

  raise_kept : has_stopped e ≡ false → (p : ℕ) → last_drawn e ≡ Some p → (later : FollowsRule size (set s.words 1 (bit_or halt_word 1)) (set s.views id (with_raised ∷ []))) × (later.events ≡ kept.events ++ raises_it)
  unfolding after
  raise_kept going p last = (
    record {
      events = kept.events ++ raises_it;
      entries = set kept.entries e.worker with_raised;
      shows = subst (λ (v : World). Shows v (set kept.entries e.worker with_raised) (set s.words 1 (bit_or halt_word 1)) (set s.views id (with_raised ∷ []))) (sym leads)
          (changes world kept.entries world.next true e.worker found.0 (raising p found.0) e with_raised s.words (set s.words 1 (bit_or halt_word 1)) s.views id kept.shows found.1 at_e seated refl
          raised_entry (λ h. absurd (true≢false (sym h ∙ g.0))) (λ h. h) (λ _. refl) (λ _. refl) words);
      moments = moves_on size kept.events raises_it kept.entries e.worker with_raised kept.moments moment.workers refl;
    },
    refl,
  )
    where
      g : (e.past ≡ false) × ((is_some e.raised || e.saw) ≡ false)
      g = or_false e.past (is_some e.raised || e.saw) going

      quiet : is_some e.raised ≡ false
      quiet = (or_false (is_some e.raised) e.saw g.1).0

      hand : found.0.hand ≡ Some p
      hand = sym found.2.hand ∙ ((λ i. if g.0 i || quiet i then None else last_drawn e) ∙ last)

      leads : after (opening size.places size.workers) (kept.events ++ raises_it) ≡ becoming world world.next true e.worker (raising p found.0)
      leads = after-append (opening size.places size.workers) kept.events raises_it ∙ (acts_at raise_by world e.worker found.0 found.1 ∙ ap (λ o. option_map_or (λ place. with_worker (halted world) e.worker (raising place found.0)) o world) hand)

      raised_entry : IsEntryOf world.places e.worker (raising p found.0) with_raised
      raised_entry = record {
        number = refl;
        level = found.2.level;
        drawn = found.2.drawn;
        raised = last;
        stopped = (λ i. g.0 i || (is_some (last i) || e.saw));
        hand = (λ i. if g.0 i || is_some (last i) then None else last_drawn e);
      }

      words : set s.words 1 (bit_or halt_word 1) ≡ (world.next + count_by (λ (x : Entry). x.past) (set kept.entries e.worker with_raised)) ∷ flag true ∷ []
      words =
          let o : bit_or halt_word 1 ≡ 1 = ap (λ (x : ℕ). bit_or x 1) halt_is ∙ or_flag world.halt in
          let c = sum-set (λ (x : Entry). cond x.past 1 0) kept.entries e.worker e with_raised at_e in
          let same : world.next + count_by (λ (x : Entry). x.past) kept.entries ≡ world.next + count_by (λ (x : Entry). x.past) (set kept.entries e.worker with_raised) = omega arith in
          ap (λ (l : List ℕ). set l 1 (bit_or halt_word 1)) kept.shows.words_are ∙ (λ i. same i ∷ o i ∷ [])

  raise_tells : has_stopped e ≡ false → (p : ℕ) → last_drawn e ≡ Some p → RaiseTells (kept.events ++ raises_it) e
  raise_tells going p last =
      let later = raise_kept going p last in
      record {
        line = begins_on e.history kept.events raises_it moment.begins;
        shown = shown_now size (set s.words 1 (bit_or halt_word 1)) (set s.views id (with_raised ∷ [])) id with_raised later.0 (rests with_raised) (sym later.1);
      }

  -- a look
  abbrev looking : List Event
  looking = Look e.worker ∷ []

  -- what the worker knows of events: all where it has seen that all are to stop
  abbrev told : Bool → List Event
  told b = if b then kept.events ++ looking else e.history

  abbrev looked : Bool → Entry
  looked b = acted (told b) (with_look b e)

  abbrev after_look : Bool → Type 0
  after_look b = (later : FollowsRule size (set s.words 1 halt_word) (set s.views id (looked b ∷ []))) × (b ≡ true → (later.events ≡ kept.events ++ looking) × ((after (opening size.places size.workers) later.events).halt ≡ true))

  sees : halt_word == 1 ≡ world.halt
  sees = go world.halt refl
    where
      go : (b : Bool) → world.halt ≡ b → halt_word == 1 ≡ world.halt
      go true q = eq-eqb halt_word 1 (halt_is ∙ ap flag q) ∙ sym q
      go false q = ap (λ (x : ℕ). x == 1) (halt_is ∙ ap flag q) ∙ sym q

  words_same : set s.words 1 halt_word ≡ s.words
  words_same = ap (λ (l : List ℕ). set l 1 (get_or l 1 0)) kept.shows.words_are ∙ sym kept.shows.words_are

  look_kept : (b : Bool) → world.halt ≡ b → after_look b
  unfolding after
  look_kept true q = (
    record {
      events = kept.events ++ looking;
      entries = set kept.entries e.worker (looked true);
      shows = subst (λ (v : World). Shows v (set kept.entries e.worker (looked true)) (set s.words 1 halt_word) (set s.views id (looked true ∷ []))) (sym leads)
          (changes world kept.entries world.next world.halt e.worker found.0 (stopping found.0) e (looked true) s.words (set s.words 1 halt_word) s.views id kept.shows found.1 at_e seated refl
          seen_entry (λ h. past_of kept.shows e.worker e at_e h) (λ h. h) (λ _. q) (λ h. h) words);
      moments = moves_on size kept.events looking kept.entries e.worker (looked true) kept.moments moment.workers refl;
    },
    (λ _. (refl, ap (λ (w : World). w.halt) leads ∙ q)),
  )
    where
      leads : after (opening size.places size.workers) (kept.events ++ looking) ≡ becoming world world.next world.halt e.worker (stopping found.0)
      leads = after-append (opening size.places size.workers) kept.events looking ∙ (acts_at look_by world e.worker found.0 found.1 ∙ ap (λ (b : Bool). if b then with_worker world e.worker (stopping found.0) else world) q)

      seen_entry : IsEntryOf world.places e.worker (stopping found.0) (looked true)
      seen_entry = record {
        number = refl;
        level = found.2.level;
        drawn = found.2.drawn;
        raised = found.2.raised;
        stopped = ap (λ (b : Bool). e.past || (is_some e.raised || b)) (or_true e.saw) ∙ (ap (λ (b : Bool). e.past || b) (or_true (is_some e.raised)) ∙ or_true e.past);
        hand = found.2.hand;
      }

      words : set s.words 1 halt_word ≡ (world.next + count_by (λ (x : Entry). x.past) (set kept.entries e.worker (looked true))) ∷ flag world.halt ∷ []
      words =
          let c = sum-set (λ (x : Entry). cond x.past 1 0) kept.entries e.worker e (looked true) at_e in
          let same : world.next + count_by (λ (x : Entry). x.past) kept.entries ≡ world.next + count_by (λ (x : Entry). x.past) (set kept.entries e.worker (looked true)) = omega arith in
          words_same ∙ (kept.shows.words_are ∙ ap (λ (x : ℕ). x ∷ flag world.halt ∷ []) same)
  look_kept false q =
      let same : looked false ≡ e = ap (λ (b : Bool). record e { saw = b }) (or_id e.saw) in (
        subst (λ (p : List ℕ × List (List Entry)). FollowsRule size p.0 p.1) (λ i. (sym words_same i, sym (ap (λ (x : Entry). set s.views id (x ∷ [])) same ∙ set_again s.views id (e ∷ []) seated) i)) kept,
        (λ no. cc),
      )

  look_follows : (b : Bool) → halt_word == 1 ≡ b → FollowsRule size (set s.words 1 halt_word) (set s.views id (looked b ∷ []))
  look_follows b q = (look_kept b (sym sees ∙ q)).0

  look_tells : IsShown e → (b : Bool) → halt_word == 1 ≡ b → LookTells (told b) halt_word e
  look_tells shown b q =
      record {
        line = line_if b;
        shown = subst (λ (x : Bool). IsShown (acted (told b) (with_look x e))) (sym q) (shown_if b (sym sees ∙ q));
        after_raise = λ r. let p = at_raised found.0.raised (ap is_some (sym found.2.raised) ∙ r) in halt_is ∙ ap flag ((sound.each e.worker found.0 found.1).raised_why p.0 p.1).1;
        after_look = λ r. halt_is ∙ ap flag (saw_of kept.shows e.worker e at_e r);
        seen = λ is. seen_if b (sym sees ∙ q) (sym q ∙ is);
        unseen = λ is. ap told (sym q ∙ is);
      }
    where
      line_if : (b : Bool) → Begins e.history (told b)
      line_if true = begins_on e.history kept.events looking moment.begins
      line_if false = ([], append-nil e.history)

      shown_if : (b : Bool) → world.halt ≡ b → IsShown (looked b)
      shown_if true q = let later = look_kept true q in shown_now size (set s.words 1 halt_word) (set s.views id (looked true ∷ [])) id (looked true) later.0 (rests (looked true)) (sym (later.1 refl).0)
      shown_if false q = subst IsShown (sym (ap (λ (b : Bool). record e { saw = b }) (or_id e.saw))) shown

      seen_if : (b : Bool) → world.halt ≡ b → b ≡ true → SomeRaised (last_world (acted (told b) e))
      seen_if true q is = let later = look_kept true q in raised_now size (set s.words 1 halt_word) (set s.views id (looked true ∷ [])) id (looked true) later.0 (rests (looked true)) (sym (later.1 refl).0) (later.1 refl).1
      seen_if false q is = cc

-- ---- the steps, at a seat of one entry
module _ (size : Size) (small : size.places + size.workers + 1 < 2 ^ 64) (slots id : ℕ) (e : Entry) (st : Step ℕ) where
  pub draws : has_stopped e ≡ false → Allows (Rule size) slots id (e ∷ [], []) 0 (λ n. (n + 1) % 2 ^ 64) (Drew st (e ∷ [], []))
  draws going s kept homes seated room =
      let n = get_or s.words 0 0 in
      let history = kept.events ++ Finish e.worker ∷ Draw e.worker ∷ [] in (
        acted history (with_draw n e) ∷ [],
        keeps,
        tt,
        (draw_kept size small s kept id e seated going).0,
        record { history = history; leaves = refl; tells = All-cons (DrawTells history n) e [] (draw_tells size small s kept id e seated going) (All-nil _) },
      )

  pub raises : has_stopped e ≡ false → (p : ℕ) → last_drawn e ≡ Some p → Allows (Rule size) slots id (e ∷ [], []) 1 (λ n. bit_or n 1) (Raised st (e ∷ [], []))
  raises going p last s kept homes seated room =
      let history = kept.events ++ Raise e.worker ∷ [] in (
        acted history (with_raise e) ∷ [],
        keeps,
        tt,
        (raise_kept size small s kept id e seated going p last).0,
        record { history = history; leaves = refl; tells = All-cons (RaiseTells history) e [] (raise_tells size small s kept id e seated going p last) (All-nil _) },
      )

  pub looks : IsShown e → Allows (Rule size) slots id (e ∷ [], []) 1 (λ n. n) (Looked st (e ∷ [], []))
  looks shown s kept homes seated room =
      let n = get_or s.words 1 0 in
      let history = told size small s kept id e seated (n == 1) in (
        acted history (with_look (n == 1) e) ∷ [],
        keeps,
        tt,
        look_follows size small s kept id e seated (n == 1) refl,
        record { history = history; leaves = refl; tells = All-cons (LookTells history n) e [] (look_tells size small s kept id e seated shown (n == 1) refl) (All-nil _) },
      )

-- ---- what a draw leaves
pub takes : (n : ℕ) (e : Entry) → has_stopped e ≡ false → n < e.places → (with_draw n e ≡ with_place n e) × (last_drawn (with_place n e) ≡ Some n) × (has_stopped (with_place n e) ≡ false)
takes n e going lt = (ap (λ (b : Bool). if b then with_place n e else with_end e) (lt-ltb n e.places lt), last_or-push None e.drawn n, going)

pub ends : (n : ℕ) (e : Entry) → e.places ≤ n → with_draw n e ≡ with_end e
ends n e le = ap (λ (b : Bool). if b then with_place n e else with_end e) (le-ltb n e.places le)

-- ---- what a look leaves
pub stops : (b : Bool) (e : Entry) → b ≡ true → has_stopped (with_look b e) ≡ true
stops b e q =
    ap (λ (x : Bool). e.past || (is_some e.raised || (e.saw || x))) q
    ∙ (ap (λ (x : Bool). e.past || (is_some e.raised || x)) (or_true e.saw)
    ∙ (ap (λ (x : Bool). e.past || x) (or_true (is_some e.raised)) ∙ or_true e.past))

pub stays : (b : Bool) (history : List Event) (e : Entry) → b ≡ false → history ≡ e.history → acted history (with_look b e) ≡ e
stays b history e q same = (λ i. acted (same i) (with_look (q i) e)) ∙ ap (λ (b : Bool). record e { saw = b }) (or_id e.saw)

-- ---- what a raise leaves
pub raised_stops : (e : Entry) (p : ℕ) → last_drawn e ≡ Some p → has_stopped (with_raise e) ≡ true
raised_stops e p last = ap (λ (o : Option ℕ). e.past || (is_some o || e.saw)) last ∙ or_true e.past
