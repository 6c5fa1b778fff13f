use Rattle.std.proofs.Common.{ap, subst, sym, ◌∙◌}
use Rattle.std.specs.FinMap.{entries}
use Rattle.std.specs.Prelude.{map as each}
use Rattle.tpcc_rows.specs.Leaves.{page_rows}
use Rattle.rollback.specs.Pointed.{Pointed}
use Rattle.row_store.specs.Leaves.{AreListed}
use Rattle.row_store.specs.Slots.{filled, slot}
use Rattle.row_store.proofs.Ranked.{page-is}
use Rattle.row_store.proofs.pointed.PointedStore.page.Goals as goal

pub returns : goal.returns
returns c =
    let rows = c.rows.result.now.rows in
    let leaves = c.self.inside.leaves in
    let same = ap (λ (p : Pointed). p.rows) c.self.view_is ∙ sym c.rows.ensures in
    ap (λ rs. filled (each (slot rows) rs)) c.ranks.ensures
    ∙ page-is leaves c.self.invariant.keys rows (subst (AreListed leaves) same c.self.invariant.present) c.args.leaf
    ∙ ap (λ rows. entries (page_rows rows c.args.leaf)) c.rows.ensures
