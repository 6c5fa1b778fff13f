use Rattle.std.specs.Option.{option_map}
use Rattle.row_store.proofs.Listing.{leaves-alike, leaves-replaced}
use Rattle.row_store.proofs.pointed.PointedStore.put_row.Goals as goal

pub invariant_of-self : goal.invariant_of-self
invariant_of-self g c =
    let e = c.replace_row.ensures in
    leaves-replaced c.self.inside.leaves c.deref_mut.result.now c.replace_row.new.self (leaves-alike _ _ _ c.deref_mut.ensures.value c.self.invariant) c.replace_row.result (option_map g.R.TableRow.row_of) c.args.key.now (g.R.TableRow.row_of c.args.row) e.value e.points e.err

pub invariant_of-self-in-None : goal.invariant_of-self-in-None
invariant_of-self-in-None g c =
    let e = c.replace_row.ensures in
    leaves-replaced c.self.inside.leaves c.deref_mut.result.now c.replace_row.new.self (leaves-alike _ _ _ c.deref_mut.ensures.value c.self.invariant) c.replace_row.result (option_map g.R.TableRow.row_of) c.args.key.now (g.R.TableRow.row_of c.args.row) e.value e.points e.err
