use Rattle.std.proofs.Common.{◌≡◌, Some, sym, ap, subst, ◌∙◌}
use Rattle.std.specs.FinMap as map
use Rattle.std.proofs.lemmas.Result.{IfOk-weaker, on_ok_weaker, on_err_weaker}
use Rattle.tables.specs.declared.keys.TheConstants.{PLACES}
use Rattle.tables.specs.Shelves.{IsShelf, place_of, union}
use Rattle.tables.proofs.Shelved.{IsChange, either, get-at, set-same, shelf-change, union-change}
use Rattle.tables.proofs.shelf.Shelf.put_near.Goals as goal

change : (g : _) (c : goal.After-self-1 g) → c.put_near.new.self ≡ map.insert c.index_mut-table.result.now c.args.rank c.args.row
    → IsChange place_of c.self.inside.tables.items c.place_of-n.result c.index_mut-table.result.now c.put_near.new.self c.args.rank (Some c.args.row)
change g c e = record { at = c.place_of-n.ensures.value; small = rw c.self.invariant.full c.place_of-n.ensures.below; here = c.index_mut-table.ensures.value; change = e }

pub invariant_of-self : goal.invariant_of-self
invariant_of-self g c = either c.put_near.result
    (on_ok_weaker c.put_near.result (λ e. shelf-change place_of PLACES _ c.self.invariant _ _ _ _ _ (change g c e)) c.put_near.ensures.ok)
    (on_err_weaker c.put_near.result (λ e. subst (λ ts. IsShelf PLACES place_of ts) (sym (set-same c.self.inside.tables.items c.place_of-n.result _ _ c.index_mut-table.ensures.value e)) c.self.invariant) c.put_near.ensures.err)

pub returns-clause-ok : goal.returns-clause-ok
returns-clause-ok g c = on_ok_weaker c.put_near.result (λ e. union-change place_of _ c.self.invariant.fits _ _ _ _ _ (change g c e) ∙ ap (λ m. map.insert m c.args.rank c.args.row) c.self.view_is) c.put_near.ensures.ok

pub returns-clause-err : goal.returns-clause-err
returns-clause-err g c = on_err_weaker c.put_near.result (λ e. ap (λ ts. union ts) (set-same c.self.inside.tables.items c.place_of-n.result _ _ c.index_mut-table.ensures.value e) ∙ c.self.view_is) c.put_near.ensures.err

-- what the table has at the rank
was : (g : _) (c : goal.After-self-1 g) → map.get c.index_mut-table.result.now c.args.rank ≡ map.get c.args.self.now c.args.rank
was g c =
    get-at place_of c.self.inside.tables.items PLACES c.self.invariant c.place_of-n.result c.args.rank c.index_mut-table.result.now c.place_of-n.ensures.value c.place_of-n.ensures.below c.index_mut-table.ensures.value
    ∙ ap (λ m. map.get m c.args.rank) c.self.view_is

pub returns-clause-value : goal.returns-clause-value
returns-clause-value g c = IfOk-weaker c.put_near.result _ _ (λ _ e. e ∙ was g c) c.put_near.ensures.value

pub returns-clause-new : goal.returns-clause-new
returns-clause-new g c = on_err_weaker c.put_near.result (λ e. sym (was g c) ∙ e) c.put_near.ensures.new
