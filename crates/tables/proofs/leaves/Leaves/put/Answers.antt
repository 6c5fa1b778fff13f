use Rattle.std.proofs.Common.{◌≡◌, ◌/◌, Some, sym, ap, subst, ◌∙◌}
use Rattle.std.specs.FinMap as map
use Rattle.std.proofs.lemmas.Result.{on_ok_weaker, on_err_weaker}
use Rattle.tables.specs.Leaves.{group_of}
use Rattle.tables.specs.Shelves.{IsShelf, union}
use Rattle.tables.proofs.Grouped.{group-below}
use Rattle.tables.proofs.Shelved.{IsChange, either, set-same, shelf-change, union-change}
use Rattle.tables.proofs.leaves.Leaves.put.Goals as goal

change : (c : goal.After-self-1) → c.put.new.self ≡ map.insert c.index_mut-group.result.now c.args.rank tt
    → IsChange group_of c.self.inside.groups.items (c.args.leaf / 16) c.index_mut-group.result.now c.put.new.self c.args.rank (Some tt)
change c e = record { at = ap (λ l. l / 16) c.requires.at; small = rw c.self.invariant.full (group-below c.args.leaf c.requires.small); here = c.index_mut-group.ensures.value; change = e }

pub invariant_of-self : goal.invariant_of-self
invariant_of-self c = either c.put.result
    (on_ok_weaker c.put.result (λ e. shelf-change group_of 4096 _ c.self.invariant _ _ _ _ _ (change c e)) c.put.ensures.ok)
    (on_err_weaker c.put.result (λ e. subst (λ ts. IsShelf 4096 group_of ts) (sym (set-same c.self.inside.groups.items (c.args.leaf / 16) _ _ c.index_mut-group.ensures.value e)) c.self.invariant) c.put.ensures.err)

pub returns-clause-ok : goal.returns-clause-ok
returns-clause-ok c = on_ok_weaker c.put.result (λ e. union-change group_of _ c.self.invariant.fits _ _ _ _ _ (change c e) ∙ ap (λ m. map.insert m c.args.rank tt) c.self.view_is) c.put.ensures.ok

pub returns-clause-err : goal.returns-clause-err
returns-clause-err c = on_err_weaker c.put.result (λ e. ap (λ ts. union ts) (set-same c.self.inside.groups.items (c.args.leaf / 16) _ _ c.index_mut-group.ensures.value e) ∙ c.self.view_is) c.put.ensures.err
