use Rattle.std.proofs.Common.{◌≤◌, ◌+◌, length, ◌∙◌, List, refl, sym, ap, subst, arith, length-append}
use Rattle.std.specs.Prelude.{⊤}
use Rattle.tables.specs.ByRank.{ByRank}
use Rattle.tables.specs.Leaves.{in_group}
use Rattle.tables.specs.Shelves.{IsPlaced, union}
use Rattle.tables.proofs.Grouped.{placed-push, union-push}
use Rattle.tables.proofs.leaves.extend.Goals as goal

pub loop-init : goal.loop-init
loop-init c = record { placed = c.requires; same = refl; len = omega arith }

pub loop-preserved : goal.loop-preserved
loop-preserved c = record {
  placed = subst (λ (ts : List (ByRank ⊤)). IsPlaced in_group ts) (sym c.in_ok-push.ensures.items) (placed-push in_group _ c.loop.invariant.placed _ c.new.ensures);
  same = ap (λ (ts : List (ByRank ⊤)). union ts) c.in_ok-push.ensures.items ∙ union-push in_group _ c.loop.invariant.placed _ c.new.ensures ∙ c.loop.invariant.same;
  len = subst (λ (ts : List (ByRank ⊤)). c.loop.counter + 1 ≤ length ts) (sym c.in_ok-push.ensures.items) (let h = c.loop.invariant.len in simp length-append (omega arith));
}

pub returns-in_err-push-clause-placed : goal.returns-in_err-push-clause-placed
returns-in_err-push-clause-placed c = subst (λ (ts : List (ByRank ⊤)). IsPlaced in_group ts) (sym c.in_err-push.ensures.items) c.loop.invariant.placed

pub returns-in_err-push-clause-same : goal.returns-in_err-push-clause-same
returns-in_err-push-clause-same c = ap (λ (ts : List (ByRank ⊤)). union ts) c.in_err-push.ensures.items ∙ c.loop.invariant.same

pub returns-clause-placed : goal.returns-clause-placed
returns-clause-placed c = c.loop.invariant.placed

pub returns-clause-same : goal.returns-clause-same
returns-clause-same c = c.loop.invariant.same

pub returns-clause-enough : goal.returns-clause-enough
returns-clause-enough c = let h = c.loop.invariant.len in omega arith
