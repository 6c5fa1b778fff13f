-- What a contract sees of a world once one of its workers has changed, and what room the workers have.
use Rattle.std.proofs.Common.{◌≡◌, ℕ, zero, suc, ◌+◌, ◌<◌, ◌≤◌, Bool, true, false, ltb, ◌||◌, if◌then◌else◌, List, [], ◌∷◌, ◌++◌, map, length, get_or, set, Some, None, is_some, slice_get, vec_capacity, All, sym, ap, ◌∙◌, subst, arith, lt-ltb, le-ltb}
use Rattle.std.specs.Option.{option_map_or}
use Rattle.std.proofs.lemmas.List.{map-set, set-get_or}
use Rattle.std.proofs.lemmas.List.Elements.{All-set, All-get_or}
use Rattle.tickets.specs.declared.event.Event.{Event}
use Rattle.tickets.specs.declared.worker.Worker.{Worker as Held}
use Rattle.tickets.specs.World.{Worker, World, opening, taking, finishing, raising, stopping, with_worker, past_next, halted, draw_by, finish_by, raise_by, look_by, act_by, step, after}
use Rattle.tickets.specs.Playing.{worker_of, HasRoom, IsReached, KeepsRoom}
use Rattle.tickets.proofs.Sound.{events_sound, after-append, after_alike, drawn_most, finished_most}

-- ---- who is there
abbrev pub world_with : ℕ → ℕ → List Held → Bool → World
world_with places next l halt = record { places = places; next = next; workers = map worker_of l; halt = halt }

held_there : (l : List Held) (k : ℕ) (x : Held) → k < length l → x ≡ get_or l k x → slice_get (map worker_of l) k ≡ Some (worker_of x)
held_there [] k x low is = absurd (omega arith)
held_there (y ∷ l) zero x low is = ap (λ (z : Held). Some (worker_of z)) (sym is)
held_there (y ∷ l) (suc k) x low is = held_there l k x (omega arith) is

-- worker k, which is x, acts; what it holds then is y
module _ (places next : ℕ) (l : List Held) (halt : Bool) (k : ℕ) (x : Held) (v : World) (view : world_with places next l halt ≡ v) (low : k < length l) (is : x ≡ get_or l k x) where
  abbrev w : World
  w = world_with places next l halt

  acts : (act : World → ℕ → Worker → World) (u : World) → u ≡ act w k (worker_of x) → u ≡ act_by act v k
  acts act u h = h ∙ (ap (λ o. option_map_or (act w k) o w) (sym (held_there l k x low is)) ∙ ap (λ z. act_by act z k) view)

  written : (m : ℕ) (stop : Bool) (y : Held) (b : Worker) → worker_of y ≡ b → world_with places m (set l k y) stop ≡ with_worker (world_with places m l stop) k b
  written m stop y b h = ap (λ (ws : List Worker). record { places = places; next = m; workers = ws; halt = stop }) (map-set worker_of l k y ∙ ap (set (map worker_of l) k) h)

  -- what a worker holds is written back as it was
  pub unwritten : world_with places next (set l k x) halt ≡ world_with places next l halt
  unwritten = ap (λ (m : List Held). world_with places next m halt) (ap (set l k) is ∙ set-get_or l k x)

  pub draws_not : ((worker_of x).stopped || is_some (worker_of x).hand) ≡ true → world_with places next l halt ≡ act_by draw_by v k
  draws_not busy = acts draw_by w (ap (λ b. if b then w else if ltb next places then with_worker (past_next w) k (taking next (worker_of x)) else with_worker w k (stopping (worker_of x))) (sym busy))

  draws : (u : World) → ((worker_of x).stopped || is_some (worker_of x).hand) ≡ false → u ≡ (if ltb next places then with_worker (past_next w) k (taking next (worker_of x)) else with_worker w k (stopping (worker_of x))) → u ≡ act_by draw_by v k
  draws u free h = acts draw_by u (h ∙ ap (λ b. if b then w else if ltb next places then with_worker (past_next w) k (taking next (worker_of x)) else with_worker w k (stopping (worker_of x))) (sym free))

  pub draws_place : (y : Held) → ((worker_of x).stopped || is_some (worker_of x).hand) ≡ false → next < places → worker_of y ≡ taking next (worker_of x) → world_with places (next + 1) (set l k y) halt ≡ act_by draw_by v k
  draws_place y free left h = draws (world_with places (next + 1) (set l k y) halt) free
      (written (next + 1) halt y _ h ∙ ap (λ b. if b then with_worker (past_next w) k (taking next (worker_of x)) else with_worker w k (stopping (worker_of x))) (sym (lt-ltb next places left)))

  pub draws_end : (y : Held) → ((worker_of x).stopped || is_some (worker_of x).hand) ≡ false → places ≤ next → worker_of y ≡ stopping (worker_of x) → world_with places next (set l k y) halt ≡ act_by draw_by v k
  draws_end y free none h = draws (world_with places next (set l k y) halt) free
      (written next halt y _ h ∙ ap (λ b. if b then with_worker (past_next w) k (taking next (worker_of x)) else with_worker w k (stopping (worker_of x))) (sym (le-ltb next places none)))

  pub finishes : (y : Held) (p : ℕ) → (worker_of x).hand ≡ Some p → worker_of y ≡ finishing p (worker_of x) → world_with places next (set l k y) halt ≡ act_by finish_by v k
  finishes y p hand h = acts finish_by _ (written next halt y _ h ∙ ap (λ o. option_map_or (λ place. with_worker w k (finishing place (worker_of x))) o w) (sym hand))

  pub finishes_not : (worker_of x).hand ≡ None → world_with places next l halt ≡ act_by finish_by v k
  finishes_not hand = acts finish_by w (ap (λ o. option_map_or (λ place. with_worker w k (finishing place (worker_of x))) o w) (sym hand))

  pub raises : (y : Held) (p : ℕ) → (worker_of x).hand ≡ Some p → worker_of y ≡ raising p (worker_of x) → world_with places next (set l k y) true ≡ act_by raise_by v k
  raises y p hand h = acts raise_by _ (written next true y _ h ∙ ap (λ o. option_map_or (λ place. with_worker (halted w) k (raising place (worker_of x))) o w) (sym hand))

  pub raises_not : (worker_of x).hand ≡ None → world_with places next l halt ≡ act_by raise_by v k
  raises_not hand = acts raise_by w (ap (λ o. option_map_or (λ place. with_worker (halted w) k (raising place (worker_of x))) o w) (sym hand))

  pub looks : (y : Held) → halt ≡ true → worker_of y ≡ stopping (worker_of x) → world_with places next (set l k y) halt ≡ act_by look_by v k
  looks y stop h = acts look_by _ (written next halt y _ h ∙ ap (λ b. if b then with_worker w k (stopping (worker_of x)) else w) (sym stop))

  -- ---- room
  pub room_to_draw : All (HasRoom places) l → IsReached w → next < places → length (worker_of x).drawn < vec_capacity x.drawn
  room_to_draw room r left =
      let sound = subst (λ u. (j : ℕ) (a : Worker) → slice_get u.workers j ≡ Some a → length a.drawn ≤ u.next) (sym r.2) (λ j a at. drawn_most _ _ _ a ((events_sound places r.0 r.1).each j a at)) in
      let most = sound k (worker_of x) (held_there l k x low is) in
      let here = subst (HasRoom places) (sym is) (All-get_or (HasRoom places) l k x low room) in
      let cap = here.0 in
      omega arith

  pub room_to_finish : (p : ℕ) → All (HasRoom places) l → IsReached w → (worker_of x).hand ≡ Some p → length (worker_of x).finished < vec_capacity x.finished
  room_to_finish p room r hand =
      let sound = subst (λ u. (j : ℕ) (a : Worker) → slice_get u.workers j ≡ Some a → a.hand ≡ Some p → (length a.finished < u.next) × (u.next ≤ u.places)) (sym r.2) (λ j a at q. (finished_most _ _ _ a p ((events_sound places r.0 r.1).each j a at) q, (events_sound places r.0 r.1).bound)) in
      let most = sound k (worker_of x) (held_there l k x low is) hand in
      let less = most.0 in
      let bound = most.1 in
      let here = subst (HasRoom places) (sym is) (All-get_or (HasRoom places) l k x low room) in
      let cap = here.1 in
      omega arith

  pub room_kept : (y : Held) → All (HasRoom places) l → KeepsRoom x y → All (HasRoom places) (set l k y)
  room_kept y room keeps =
      let here = subst (HasRoom places) (sym is) (All-get_or (HasRoom places) l k x low room) in
      All-set (HasRoom places) l k y (let a = here.0 in let b = here.1 in let c = keeps.0 in let d = keeps.1 in (omega arith, omega arith)) room

-- ---- reached worlds
pub reached_first : (places workers : ℕ) (w : World) → w ≡ opening places workers → IsReached w
unfolding after
reached_first places workers w is = (workers, [], is ∙ ap (λ n. opening n workers) (sym (ap (λ (u : World). u.places) is)))

pub reached_step : (w v u : World) (event : Event) → IsReached w → w ≡ v → u ≡ step v event → IsReached u
unfolding after
reached_step w v u event r view is =
    let from = is ∙ ap (λ z. step z event) (sym view ∙ r.2) ∙ sym (after-append (opening w.places r.0) r.1 (event ∷ [])) in
    let same : u.places ≡ w.places = ap (λ (z : World). z.places) from ∙ (after_alike (opening w.places r.0) (r.1 ++ event ∷ [])).0 in
    (r.0, r.1 ++ event ∷ [], from ∙ ap (λ n. after (opening n r.0) (r.1 ++ event ∷ [])) (sym same))
