use Rattle.std.proofs.Common.{◌≡◌, Some, sym, ap, subst, ◌∙◌}
use Rattle.std.specs.FinMap as map
use Rattle.std.proofs.lemmas.Result.{IfOk-weaker, on_ok_weaker, on_err_weaker}
use Rattle.tables.specs.declared.keys.TheConstants.{PLACES}
use Rattle.tables.specs.Shelves.{IsShelf, place_of, union}
use Rattle.tables.proofs.Shelved.{IsChange, either, get-at, set-same, shelf-change, union-change}
use Rattle.tables.proofs.queues.RankQueues.put.Goals as goal

change : (c : goal.After-self-1) → c.put.new.self ≡ map.insert c.index_mut-queue.result.now c.args.rank tt
    → IsChange place_of c.self.inside.queues.items c.place_of-n.result c.index_mut-queue.result.now c.put.new.self c.args.rank (Some tt)
change c e = record { at = c.place_of-n.ensures.value; small = rw c.self.invariant.full c.place_of-n.ensures.below; here = c.index_mut-queue.ensures.value; change = e }

pub invariant_of-self : goal.invariant_of-self
invariant_of-self c = either c.put.result
    (on_ok_weaker c.put.result (λ e. shelf-change place_of PLACES _ c.self.invariant _ _ _ _ _ (change c e)) c.put.ensures.ok)
    (on_err_weaker c.put.result (λ e. subst (λ ts. IsShelf PLACES place_of ts) (sym (set-same c.self.inside.queues.items c.place_of-n.result _ _ c.index_mut-queue.ensures.value e)) c.self.invariant) c.put.ensures.err)

pub returns-clause-ok : goal.returns-clause-ok
returns-clause-ok c = on_ok_weaker c.put.result (λ e. union-change place_of _ c.self.invariant.fits _ _ _ _ _ (change c e) ∙ ap (λ m. map.insert m c.args.rank tt) c.self.view_is) c.put.ensures.ok

pub returns-clause-err : goal.returns-clause-err
returns-clause-err c = on_err_weaker c.put.result (λ e. ap (λ ts. union ts) (set-same c.self.inside.queues.items c.place_of-n.result _ _ c.index_mut-queue.ensures.value e) ∙ c.self.view_is) c.put.ensures.err

-- what the table has at the rank
was : (c : goal.After-self-1) → map.get c.index_mut-queue.result.now c.args.rank ≡ map.get c.args.self.now c.args.rank
was c =
    get-at place_of c.self.inside.queues.items PLACES c.self.invariant c.place_of-n.result c.args.rank c.index_mut-queue.result.now c.place_of-n.ensures.value c.place_of-n.ensures.below c.index_mut-queue.ensures.value
    ∙ ap (λ m. map.get m c.args.rank) c.self.view_is

pub returns-clause-value : goal.returns-clause-value
returns-clause-value c = IfOk-weaker c.put.result _ _ (λ _ e. e ∙ was c) c.put.ensures.value

pub returns-clause-new : goal.returns-clause-new
returns-clause-new c = on_err_weaker c.put.result (λ e. sym (was c) ∙ e) c.put.ensures.new
