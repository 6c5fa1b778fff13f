use Rattle.std.proofs.Common.{sym, subst}
use Rattle.std.specs.Prelude.{⊤}
use Rattle.tables.specs.ByRank.{ByRank}
use Rattle.row_store.specs.Leaves.{IsListed}
use Rattle.row_store.proofs.Listing.{leaves-alike, leaves-listed, leaves-put, listed-now}
use Rattle.row_store.proofs.pointed.PointedStore.put_new_row.Goals as goal

pub invariant_of-self : goal.invariant_of-self
invariant_of-self g c =
    leaves-listed c.self.inside.leaves c.list.new.leaves c.args.key.now c.list.ensures.limits _ c.self.invariant c.list.result c.list.ensures.ok c.list.ensures.err

pub invariant_of-self-2 : goal.invariant_of-self-2
invariant_of-self-2 g c =
    let e = c.put_row.ensures in
    let key = c.args.key.now in
    let listed = leaves-listed c.self.inside.leaves c.list.new.leaves key c.list.ensures.limits _ c.self.invariant c.list.result c.list.ensures.ok c.list.ensures.err in
    let here = subst (λ (m : ByRank ⊤). IsListed m key) (sym c.in_ok-list.ensures.ok) (listed-now c.self.inside.leaves key c.list.ensures.limits) in
    leaves-put c.list.new.leaves c.deref_mut.result.now c.put_row.new.self (leaves-alike _ _ _ c.deref_mut.ensures.value listed) c.put_row.result key (g.R.TableRow.row_of c.args.row) here e.rows e.points e.err
