-- Each event keeps a world sound, and so what `Once` says holds after any events.
use Rattle.std.proofs.Common.{◌≡◌, ◌≢◌, ◌⊎◌, inl, inr, ⊎_elim, ℕ, zero, suc, ◌+◌, ◌<◌, ◌≤◌, Bool, true, false, ltb, ◌||◌, if◌then◌else◌, List, [], ◌∷◌, ◌++◌, length, set, Option, Some, None, is_some, IsSome, option_to_list, slice_get, sum_by, refl, sym, ap, ◌∙◌, subst, arith, append-nil, ltb-true, ltb-false, true≢false, length-set}
use Rattle.std.specs.Option.{option_map_or}
use Rattle.std.proofs.Math.ListN.{length-replicate}
use Rattle.std.proofs.lemmas.List.{length_push}
use Rattle.std.proofs.lemmas.List.Sums.{sum_by-cons}
use mathlib.Core.Logic.{dite}
use native.Mathlib.Decide.{ℕ_discrete}
use Rattle.tickets.specs.declared.event.Event.{Event}
use Rattle.tickets.specs.declared.event.Event.TheVariants.{Draw, Finish, Raise, Look}
use Rattle.tickets.specs.World.{Worker, World, fresh, opening, taking, finishing, raising, stopping, with_worker, past_next, halted, draw_by, finish_by, raise_by, look_by, act_by, step, after}
use Rattle.tickets.specs.Once.{times, once_below, IsThrough, SomeRaised, AllFinished, Once}
use Rattle.tickets.proofs.Lists.{Some-injective, get-set, get-set_same, get-set_other, get-push, get-below, get-replicate, get_there, All-from_get, get_from_All, Any-from_get, sum-set, sum-replicate_zero, times-push, once_below-more, once_below-none}

-- ---- sound worlds
pub record IsSoundWorker (next places : ℕ) (halt : Bool) (a : Worker) : Type 0 where
  pub drawn_is : a.drawn ≡ (a.finished ++ option_to_list a.hand) ++ option_to_list a.raised
  pub below : (i p : ℕ) → slice_get a.drawn i ≡ Some p → p < next
  pub rising : (i j p q : ℕ) → i < j → slice_get a.drawn i ≡ Some p → slice_get a.drawn j ≡ Some q → p < q
  -- it found no place left, or all are to stop
  pub stopped_why : a.stopped ≡ true → (next ≡ places) ⊎ (halt ≡ true)
  pub raised_why : (p : ℕ) → a.raised ≡ Some p → (a.stopped ≡ true) × (halt ≡ true) × (a.hand ≡ None)

-- some worker raised a place
abbrev pub IsRaised : List Worker → Type 0
IsRaised workers = (k : ℕ) × (a : Worker) × (p : ℕ) × (slice_get workers k ≡ Some a) × (a.raised ≡ Some p)

pub record IsSound (w : World) : Type 0 where
  pub bound : w.next ≤ w.places
  pub once : (p : ℕ) → sum_by (λ (a : Worker). times p a.drawn) w.workers ≡ once_below w.next p
  pub each : (k : ℕ) (a : Worker) → slice_get w.workers k ≡ Some a → IsSoundWorker w.next w.places w.halt a
  -- where all are to stop, some place is raised
  pub halted : w.halt ≡ true → IsRaised w.workers

opening_sound : (places workers : ℕ) → IsSound (opening places workers)
opening_sound places workers = record {
  bound = omega arith;
  once = λ p. sum-replicate_zero (λ (a : Worker). times p a.drawn) workers fresh refl ∙ sym (once_below-none p);
  each = λ k a e. subst (IsSoundWorker 0 places false) (get-replicate workers fresh k a e) fresh_sound;
  halted = λ e. absurd (true≢false (sym e));
}
  where
    fresh_sound : IsSoundWorker 0 places false fresh
    fresh_sound = record { drawn_is = refl; below = λ i p e. cc; rising = λ i j p q l e h. cc; stopped_why = λ e. absurd (true≢false (sym e)); raised_why = λ p e. cc }

-- ---- one worker changes
-- the world with this next place, this halt, and worker k as it is now
abbrev pub becoming : World → ℕ → Bool → ℕ → Worker → World
becoming w next halt k a = record { places = w.places; next = next; workers = set w.workers k a; halt = halt }

-- other workers stay sound where next grows and halt stays set
later : (next next' places : ℕ) (halt halt' : Bool) (a : Worker) → next ≤ next' → next' ≤ places → (halt ≡ true → halt' ≡ true) → IsSoundWorker next places halt a → IsSoundWorker next' places halt' a
later next next' places halt halt' a more bound keeps s = record {
  drawn_is = s.drawn_is;
  below = λ i p e. let h = s.below i p e in omega arith;
  rising = s.rising;
  stopped_why = λ e. ⊎_elim (λ (h : next ≡ places). inl (let l : next' ≡ places = omega arith in l)) (λ (h : halt ≡ true). inr (keeps h)) (s.stopped_why e);
  raised_why = λ p e. let h = s.raised_why p e in (h.0, keeps h.1, h.2);
}

changed : (w : World) (next : ℕ) (halt : Bool) (k : ℕ) (a b : Worker) → IsSound w → slice_get w.workers k ≡ Some a → w.next ≤ next → next ≤ w.places → (w.halt ≡ true → halt ≡ true)
    → ((p : ℕ) → once_below next p + times p a.drawn ≡ once_below w.next p + times p b.drawn) → IsSoundWorker next w.places halt b
    → (halt ≡ true → IsRaised (set w.workers k b)) → IsSound (becoming w next halt k b)
changed w next halt k a b s at more bound keeps counts sound raises = record {
  bound = bound;
  once = λ p. let f = λ (x : Worker). times p x.drawn in let h = sum-set f w.workers k a b at in let o = s.once p in let c = counts p in omega arith;
  each = λ j x e. ⊎_elim
      (λ (t : (j ≡ k) × (b ≡ x)). subst (IsSoundWorker next w.places halt) t.1 sound)
      (λ (t : (j ≢ k) × (slice_get w.workers j ≡ Some x)). later w.next next w.places w.halt halt x more bound keeps (s.each j x t.1))
      (get-set w.workers k j b x e);
  halted = raises;
}

-- a worker that keeps what it raised leaves some place raised
still_raised : (w : World) (halt : Bool) (k : ℕ) (a b : Worker) → IsSound w → slice_get w.workers k ≡ Some a → ((p : ℕ) → a.raised ≡ Some p → b.raised ≡ Some p) → (halt ≡ true → w.halt ≡ true)
    → halt ≡ true → IsRaised (set w.workers k b)
still_raised w halt k a b s at keeps was e =
    let (j, x, p, there, raised) = s.halted (was e) in
    dite (ℕ_discrete j k)
    (λ same. let is : a ≡ x = Some-injective a x (sym at ∙ (ap (slice_get w.workers) (sym same) ∙ there)) in
    (k, b, p, get-set_same w.workers k a b at, keeps p (ap (λ (y : Worker). y.raised) is ∙ raised)))
    (λ ne. (j, x, p, get-set_other w.workers k j b ne ∙ there, raised))

-- the same where neither next nor halt changes
changed_alone : (w : World) (k : ℕ) (a b : Worker) → IsSound w → slice_get w.workers k ≡ Some a → b.drawn ≡ a.drawn → ((p : ℕ) → a.raised ≡ Some p → b.raised ≡ Some p) → IsSoundWorker w.next w.places w.halt b
    → IsSound (with_worker w k b)
changed_alone w k a b s at same keeps sound = changed w w.next w.halt k a b s at (omega arith) s.bound (λ h. h)
    (λ p. ap (λ (l : List ℕ). once_below w.next p + times p l) (sym same)) sound (still_raised w w.halt k a b s at keeps (λ h. h))

no_place : (o : Option ℕ) → ((p : ℕ) → o ≡ Some p → ⊥) → o ≡ None
no_place None h = refl
no_place (Some p) h = absurd (h p refl)

or_false : (a b : Bool) → (a || b) ≡ false → (a ≡ false) × (b ≡ false)
or_false true b e = absurd (true≢false e)
or_false false b e = (refl, e)

none_of : (o : Option ℕ) → is_some o ≡ false → o ≡ None
none_of None e = refl
none_of (Some p) e = absurd (true≢false e)

-- ---- a draw
rising-push : (l : List ℕ) (x : ℕ) → ((i p : ℕ) → slice_get l i ≡ Some p → p < x) → ((i j p q : ℕ) → i < j → slice_get l i ≡ Some p → slice_get l j ≡ Some q → p < q)
    → (i j p q : ℕ) → i < j → slice_get (l ++ x ∷ []) i ≡ Some p → slice_get (l ++ x ∷ []) j ≡ Some q → p < q
rising-push l x below rising i j p q lt e h = ⊎_elim
    (λ (s : slice_get l i ≡ Some p). ⊎_elim
    (λ (t : slice_get l j ≡ Some q). rising i j p q lt s t)
    (λ (t : (j ≡ length l) × (x ≡ q)). let b = below i p s in let u = t.1 in omega arith)
    (get-push l x q j h))
    (λ (s : (i ≡ length l) × (x ≡ p)). ⊎_elim
    (λ (t : slice_get l j ≡ Some q). let b = get-below l j q t in let u = s.0 in absurd (omega arith))
    (λ (t : (j ≡ length l) × (x ≡ q)). let u = s.0 in let v = t.0 in absurd (omega arith))
    (get-push l x q j h))
    (get-push l x p i e)

taking_sound : (w : World) (k : ℕ) (a : Worker) → IsSound w → slice_get w.workers k ≡ Some a → a.hand ≡ None → a.stopped ≡ false → w.next < w.places → IsSound (with_worker (past_next w) k (taking w.next a))
taking_sound w k a s at empty going left = changed w (w.next + 1) w.halt k a (taking w.next a) s at (omega arith) (omega arith) (λ h. h)
    (λ p. let h = times-push p a.drawn w.next in let o = once_below-more w.next p in omega arith)
    (record {
      drawn_is = ap (λ (l : List ℕ). l ++ w.next ∷ []) all_finished ∙ (sym (append-nil (a.finished ++ w.next ∷ [])) ∙ ap (λ (o : Option ℕ). (a.finished ++ w.next ∷ []) ++ option_to_list o) (sym quiet));
      below = λ i p e. ⊎_elim
          (λ (t : slice_get a.drawn i ≡ Some p). let h = mine.below i p t in omega arith)
          (λ (t : (i ≡ length a.drawn) × (w.next ≡ p)). let h = t.1 in omega arith)
          (get-push a.drawn w.next p i e);
      rising = rising-push a.drawn w.next mine.below mine.rising;
      stopped_why = λ e. absurd (true≢false (sym e ∙ going));
      raised_why = λ p e. let n : None ≡ Some p = sym quiet ∙ e in cc;
    })
    (still_raised w w.halt k a (taking w.next a) s at (λ p e. e) (λ h. h))
  where
    mine : IsSoundWorker w.next w.places w.halt a
    mine = s.each k a at

    quiet : a.raised ≡ None
    quiet = no_place a.raised (λ p e. true≢false (sym (mine.raised_why p e).0 ∙ going))

    all_finished : a.drawn ≡ a.finished
    all_finished = mine.drawn_is ∙ ((λ i. (a.finished ++ option_to_list (empty i)) ++ option_to_list (quiet i)) ∙ (append-nil (a.finished ++ []) ∙ append-nil a.finished))

-- a worker that stops where no place is left, or where all are to stop
stopping_sound : (w : World) (k : ℕ) (a : Worker) → IsSound w → slice_get w.workers k ≡ Some a → (w.next ≡ w.places) ⊎ (w.halt ≡ true) → IsSound (with_worker w k (stopping a))
stopping_sound w k a s at why = let mine = s.each k a at in changed_alone w k a (stopping a) s at refl (λ p e. e)
    (record { drawn_is = mine.drawn_is; below = mine.below; rising = mine.rising; stopped_why = λ _. why; raised_why = λ p e. let h = mine.raised_why p e in (refl, h.1, h.2) })

draw_sound : (w : World) (k : ℕ) (a : Worker) → IsSound w → slice_get w.workers k ≡ Some a → IsSound (draw_by w k a)
draw_sound w k a s at = fits (a.stopped || is_some a.hand) refl
  where
    left : (b : Bool) → ltb w.next w.places ≡ b → a.stopped ≡ false → a.hand ≡ None → IsSound (if b then with_worker (past_next w) k (taking w.next a) else with_worker w k (stopping a))
    left true e going empty = taking_sound w k a s at empty going (ltb-true w.next w.places e)
    left false e going empty = let le = ltb-false w.next w.places e in let bound = s.bound in stopping_sound w k a s at (inl (let l : w.next ≡ w.places = omega arith in l))

    fits : (b : Bool) → (a.stopped || is_some a.hand) ≡ b → IsSound (if b then w else if ltb w.next w.places then with_worker (past_next w) k (taking w.next a) else with_worker w k (stopping a))
    fits true e = s
    fits false e = let h = or_false a.stopped (is_some a.hand) e in left (ltb w.next w.places) refl h.0 (none_of a.hand h.1)

-- ---- the other events
finish_sound : (w : World) (k : ℕ) (a : Worker) → IsSound w → slice_get w.workers k ≡ Some a → IsSound (finish_by w k a)
finish_sound w k a s at = go a.hand refl
  where
    go : (o : Option ℕ) → a.hand ≡ o → IsSound (option_map_or (λ place. with_worker w k (finishing place a)) o w)
    go None e = s
    go (Some p) e = let mine = s.each k a at in changed_alone w k a (finishing p a) s at refl (λ q e. e)
        (record {
          drawn_is = mine.drawn_is ∙ (ap (λ (h : Option ℕ). (a.finished ++ option_to_list h) ++ option_to_list a.raised) e ∙ ap (λ (l : List ℕ). l ++ option_to_list a.raised) (sym (append-nil (a.finished ++ p ∷ []))));
          below = mine.below;
          rising = mine.rising;
          stopped_why = mine.stopped_why;
          raised_why = λ q e. let h = mine.raised_why q e in (h.0, h.1, refl);
        })

raise_sound : (w : World) (k : ℕ) (a : Worker) → IsSound w → slice_get w.workers k ≡ Some a → IsSound (raise_by w k a)
raise_sound w k a s at = go a.hand refl
  where
    go : (o : Option ℕ) → a.hand ≡ o → IsSound (option_map_or (λ place. with_worker (halted w) k (raising place a)) o w)
    go None e = s
    go (Some p) e = let mine = s.each k a at in
        let quiet : a.raised ≡ None = no_place a.raised (λ q r. let n : None ≡ Some p = sym (mine.raised_why q r).2 ∙ e in cc) in
        changed w w.next true k a (raising p a) s at (omega arith) s.bound (λ _. refl) (λ q. refl)
        (record {
          drawn_is = mine.drawn_is ∙ ((λ i. (a.finished ++ option_to_list (e i)) ++ option_to_list (quiet i)) ∙ (append-nil (a.finished ++ p ∷ []) ∙ ap (λ (l : List ℕ). l ++ p ∷ []) (sym (append-nil a.finished))));
          below = mine.below;
          rising = mine.rising;
          stopped_why = λ _. inr refl;
          raised_why = λ q e. (refl, refl, refl);
        })
        (λ _. (k, raising p a, p, get-set_same w.workers k a (raising p a) at, refl))

look_sound : (w : World) (k : ℕ) (a : Worker) → IsSound w → slice_get w.workers k ≡ Some a → IsSound (look_by w k a)
look_sound w k a s at = go w.halt refl
  where
    go : (b : Bool) → w.halt ≡ b → IsSound (if b then with_worker w k (stopping a) else w)
    go true e = stopping_sound w k a s at (inr e)
    go false e = s

-- ---- all events
act_sound : (act : World → ℕ → Worker → World) (w : World) (k : ℕ) → IsSound w → ((a : Worker) → slice_get w.workers k ≡ Some a → IsSound (act w k a)) → IsSound (act_by act w k)
act_sound act w k s keeps = go (slice_get w.workers k) refl
  where
    go : (o : Option Worker) → slice_get w.workers k ≡ o → IsSound (option_map_or (act w k) o w)
    go None e = s
    go (Some a) e = keeps a e

step_sound : (w : World) (e : Event) → IsSound w → IsSound (step w e)
step_sound w (Draw k) s = act_sound draw_by w k s (λ a at. draw_sound w k a s at)
step_sound w (Finish k) s = act_sound finish_by w k s (λ a at. finish_sound w k a s at)
step_sound w (Raise k) s = act_sound raise_by w k s (λ a at. raise_sound w k a s at)
step_sound w (Look k) s = act_sound look_by w k s (λ a at. look_sound w k a s at)

after_sound : (w : World) (events : List Event) → IsSound w → IsSound (after w events)
unfolding after
after_sound w [] s = s
after_sound w (e ∷ es) s = after_sound (step w e) es (step_sound w e s)

pub events_sound : (places workers : ℕ) (events : List Event) → IsSound (after (opening places workers) events)
events_sound places workers events = after_sound (opening places workers) events (opening_sound places workers)

-- ---- no event changes how many places and workers there are
abbrev Alike : World → World → Type 0
Alike w v = (v.places ≡ w.places) × (length v.workers ≡ length w.workers)

draw_alike : (w : World) (k : ℕ) (a : Worker) → Alike w (draw_by w k a)
draw_alike w k a = fits (a.stopped || is_some a.hand)
  where
    left : (b : Bool) → Alike w (if b then with_worker (past_next w) k (taking w.next a) else with_worker w k (stopping a))
    left true = (refl, length-set w.workers k _)
    left false = (refl, length-set w.workers k _)

    fits : (b : Bool) → Alike w (if b then w else if ltb w.next w.places then with_worker (past_next w) k (taking w.next a) else with_worker w k (stopping a))
    fits true = (refl, refl)
    fits false = left (ltb w.next w.places)

finish_alike : (w : World) (k : ℕ) (a : Worker) → Alike w (finish_by w k a)
finish_alike w k a = go a.hand
  where
    go : (o : Option ℕ) → Alike w (option_map_or (λ place. with_worker w k (finishing place a)) o w)
    go None = (refl, refl)
    go (Some p) = (refl, length-set w.workers k _)

raise_alike : (w : World) (k : ℕ) (a : Worker) → Alike w (raise_by w k a)
raise_alike w k a = go a.hand
  where
    go : (o : Option ℕ) → Alike w (option_map_or (λ place. with_worker (halted w) k (raising place a)) o w)
    go None = (refl, refl)
    go (Some p) = (refl, length-set w.workers k _)

look_alike : (w : World) (k : ℕ) (a : Worker) → Alike w (look_by w k a)
look_alike w k a = go w.halt
  where
    go : (b : Bool) → Alike w (if b then with_worker w k (stopping a) else w)
    go true = (refl, length-set w.workers k _)
    go false = (refl, refl)

act_alike : (act : World → ℕ → Worker → World) (w : World) (k : ℕ) → ((a : Worker) → Alike w (act w k a)) → Alike w (act_by act w k)
act_alike act w k keeps = go (slice_get w.workers k)
  where
    go : (o : Option Worker) → Alike w (option_map_or (act w k) o w)
    go None = (refl, refl)
    go (Some a) = keeps a

step_alike : (w : World) (e : Event) → Alike w (step w e)
step_alike w (Draw k) = act_alike draw_by w k (draw_alike w k)
step_alike w (Finish k) = act_alike finish_by w k (finish_alike w k)
step_alike w (Raise k) = act_alike raise_by w k (raise_alike w k)
step_alike w (Look k) = act_alike look_by w k (look_alike w k)

pub after_alike : (w : World) (events : List Event) → Alike w (after w events)
unfolding after
after_alike w [] = (refl, refl)
after_alike w (e ∷ es) = let h = step_alike w e in let t = after_alike (step w e) es in (t.0 ∙ h.0, t.1 ∙ h.1)

pub workers_after : (places workers : ℕ) (events : List Event) → length (after (opening places workers) events).workers ≡ workers
workers_after places workers events = (after_alike (opening places workers) events).1 ∙ length-replicate workers fresh

pub after-append : (w : World) (xs ys : List Event) → after w (xs ++ ys) ≡ after (after w xs) ys
unfolding after
after-append w [] ys = refl
after-append w (e ∷ es) ys = after-append (step w e) es ys

-- ---- how many places a worker has
-- a rising list of numbers below n has at most n
pub rising-length : (l : List ℕ) (n : ℕ) → ((i p : ℕ) → slice_get l i ≡ Some p → p < n) → ((i j p q : ℕ) → i < j → slice_get l i ≡ Some p → slice_get l j ≡ Some q → p < q) → length l ≤ n
rising-length l n below rising = go (length l) refl
  where
    at_least : (i p : ℕ) → slice_get l i ≡ Some p → i ≤ p
    at_least zero p e = omega arith
    at_least (suc i) p e =
        let b = get-below l (suc i) p e in
        let q = get_there l i (omega arith) in
        let r = at_least i q.0 q.1 in
        let s = rising i (suc i) q.0 p (omega arith) q.1 e in
        omega arith

    go : (m : ℕ) → length l ≡ m → length l ≤ n
    go zero e = omega arith
    go (suc m) e = let q = get_there l m (omega arith) in let r = at_least m q.0 q.1 in let b = below m q.0 q.1 in omega arith

pub drawn_most : (next places : ℕ) (halt : Bool) (a : Worker) → IsSoundWorker next places halt a → length a.drawn ≤ next
drawn_most next places halt a s = rising-length a.drawn next s.below s.rising

-- what is in the hand isn't finished yet
pub finished_most : (next places : ℕ) (halt : Bool) (a : Worker) (p : ℕ) → IsSoundWorker next places halt a → a.hand ≡ Some p → length a.finished < next
finished_most next places halt a p s hand =
    let most = drawn_most next places halt a s in
    let quiet : a.raised ≡ None = no_place a.raised (λ q r. let n : None ≡ Some p = sym (s.raised_why q r).2 ∙ hand in cc) in
    let is : a.drawn ≡ a.finished ++ p ∷ [] = s.drawn_is ∙ ((λ i. (a.finished ++ option_to_list (hand i)) ++ option_to_list (quiet i)) ∙ append-nil (a.finished ++ p ∷ [])) in
    let len = ap length is in
    let push = length_push a.finished p in
    omega arith

-- ---- the law
same_sum : (p : ℕ) (l : List Worker) → ((k : ℕ) (a : Worker) → slice_get l k ≡ Some a → a.drawn ≡ a.finished) → sum_by (λ (a : Worker). times p a.finished) l ≡ sum_by (λ (a : Worker). times p a.drawn) l
same_sum p [] h = refl
same_sum p (x ∷ xs) h = let e = ap (times p) (h 0 x refl) in
    omega (arith, sum_by-cons (λ (a : Worker). times p a.finished) x xs, sum_by-cons (λ (a : Worker). times p a.drawn) x xs, same_sum p xs (λ k a e. h (suc k) a e))

pub some_raised : (w : World) → IsRaised w.workers → SomeRaised w
some_raised w (k, a, p, at, is) = Any-from_get (λ (x : Worker). IsSome x.raised) w.workers k a at (ap is_some is)

all_through : (w : World) → IsSound w → (a : Worker) → slice_get w.workers 0 ≡ Some a → ((k : ℕ) (x : Worker) → slice_get w.workers k ≡ Some x → IsThrough x) → AllFinished w ⊎ SomeRaised w
all_through w s first there through = go w.halt refl
  where
    quiet : w.halt ≡ false → (a : Worker) → IsSoundWorker w.next w.places w.halt a → a.raised ≡ None
    quiet e a t = no_place a.raised (λ q r. true≢false (sym (t.raised_why q r).1 ∙ e))

    go : (b : Bool) → w.halt ≡ b → AllFinished w ⊎ SomeRaised w
    go true e = inr (some_raised w (s.halted e))
    go false e = inl (λ p.
        let last : w.next ≡ w.places = ⊎_elim (λ (h : w.next ≡ w.places). h) (λ (h : w.halt ≡ true). absurd (true≢false (sym h ∙ e))) ((s.each 0 first there).stopped_why (through 0 first there).0) in
        same_sum p w.workers (λ k a at. (s.each k a at).drawn_is ∙ ((λ i. (a.finished ++ option_to_list ((through k a at).1 i)) ++ option_to_list (quiet e a (s.each k a at) i)) ∙ (append-nil (a.finished ++ []) ∙ append-nil a.finished)))
        ∙ (s.once p ∙ ap (λ (n : ℕ). once_below n p) last))

pub once_law : Once
once_law places workers events some =
    let w = after (opening places workers) events in
    let s = events_sound places workers events in
    let len = workers_after places workers events in
    let f = get_there w.workers 0 (omega arith) in
    record {
      drawn = s.once;
      bound = s.bound;
      own = All-from_get _ w.workers (λ k a at. (s.each k a at).drawn_is);
      ended = λ all. all_through w s f.0 f.1 (get_from_All IsThrough w.workers all);
    }
