-- Entries whose values are made of others: the same ranks in the same order.
use Rattle.std.proofs.Common.{◌≡◌, ℕ, Bool, true, false, cond, ◌&&◌, map as each, List, [], ◌∷◌, Option, Some, refl, ap, ◌∙◌}
use Rattle.std.specs.Prelude.{option_map}
use Rattle.std.specs.FinMap.{find, is_sorted}
use Rattle.std.specs.FinMap.Entries.{below_all}
use Rattle.std.specs.Ordering.{eq_by_cmp, is_lt, nat_cmp}

module _ {X Y : Type 0} (make : X → Y) where
  made-test : (b : Bool) (x : X) (o : Option X) (later : Option Y) → later ≡ option_map make o → cond b (Some (make x)) later ≡ option_map make (cond b (Some x) o)
  made-test true x o later h = refl
  made-test false x o later h = h

  pub find-each : (es : List (ℕ × X)) (r : ℕ) → find nat_cmp r (each (λ e. (e.0, make e.1)) es) ≡ option_map make (find nat_cmp r es)
  find-each [] r = refl
  find-each (e ∷ es) r = made-test (eq_by_cmp nat_cmp r e.0) e.1 (find nat_cmp r es) _ (find-each es r)

  below-each : (r : ℕ) (es : List (ℕ × X)) → below_all nat_cmp r (each (λ e. (e.0, make e.1)) es) ≡ below_all nat_cmp r es
  below-each r [] = refl
  below-each r (e ∷ es) = ap (λ b. is_lt (nat_cmp r e.0) && b) (below-each r es)

  pub sorted-each : (es : List (ℕ × X)) → is_sorted nat_cmp (each (λ e. (e.0, make e.1)) es) ≡ is_sorted nat_cmp es
  sorted-each [] = refl
  sorted-each (e ∷ es) = ap (λ b. b && is_sorted nat_cmp (each (λ e. (e.0, make e.1)) es)) (below-each e.0 es) ∙ ap (λ b. below_all nat_cmp e.0 es && b) (sorted-each es)
