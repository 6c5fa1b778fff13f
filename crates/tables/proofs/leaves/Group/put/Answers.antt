use Rattle.std.proofs.Common.{◌≡◌, ◌<◌, Some, sym, ap, subst, ◌∙◌, length, arith}
use Rattle.std.specs.FinMap as map
use Rattle.std.proofs.lemmas.Result.{on_ok_weaker, on_err_weaker}
use Rattle.tables.specs.Leaves.{in_group}
use Rattle.tables.specs.Shelves.{IsPlaced}
use Rattle.tables.proofs.Shelved.{IsChange, either, set-same, placed-change, union-change}
use Rattle.tables.proofs.leaves.Group.put.Goals.{After-put}
use Rattle.tables.proofs.leaves.Group.put.Goals as goal

small : (c : After-put) → c.args.leaf < length c.extend.new.leaves.items
small c = let h = c.in_ok-extend.ensures.enough in omega arith

change : (c : After-put) → c.put.new.self ≡ map.insert c.index_mut-ranks.result.now c.args.rank tt
    → IsChange in_group c.extend.new.leaves.items c.args.leaf c.index_mut-ranks.result.now c.put.new.self c.args.rank (Some tt)
change c e = record { at = c.requires.at; small = small c; here = c.index_mut-ranks.ensures.value; change = e }

pub invariant_of-self-2 : goal.invariant_of-self-2
invariant_of-self-2 c =
    let a = (goal.at.invariant_of-self-2 c).After-put in
    either c.put.result
    (on_ok_weaker c.put.result (λ e. placed-change in_group _ c.extend.ensures.placed _ _ _ _ _ (change a e)) c.put.ensures.ok)
    (on_err_weaker c.put.result (λ e. subst (λ ts. IsPlaced in_group ts) (sym (set-same c.extend.new.leaves.items c.args.leaf _ _ c.index_mut-ranks.ensures.value e)) c.extend.ensures.placed) c.put.ensures.err)

pub returns-clause-ok : goal.returns-clause-ok
returns-clause-ok c = union-change in_group _ c.extend.ensures.placed _ _ _ _ _ (change (goal.at.returns-clause-ok c).After-put c.in_ok-put.ensures.ok) ∙ ap (λ m. map.insert m c.args.rank tt) (c.extend.ensures.same ∙ c.self.view_is)
