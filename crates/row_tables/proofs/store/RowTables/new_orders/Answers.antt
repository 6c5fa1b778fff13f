use Rattle.std.proofs.Common.{ap, subst, ◌∙◌}
use Rattle.tables.specs.Shelves.{place_of}
use Rattle.row_tables.specs.NewRows.{AreNewOrders}
use Rattle.row_tables.proofs.NewNumbers.{are-new-orders, place-district}
use Rattle.row_tables.proofs.store.RowTables.new_orders.Goals as goal

pub returns : goal.returns
returns c =
    let district = c.district_ytd_rank-rank.ensures.limits in
    let place = ap place_of c.district_ytd_rank-rank.ensures.value ∙ place-district c.args.warehouse c.args.district district in
    subst (λ rows. AreNewOrders rows c.args.warehouse c.args.district c.new_orders_at.result.now) c.self.view_is
    (are-new-orders c.args.warehouse c.args.district district _ c.self.invariant.are_kept (place_of c.district_ytd_rank-rank.result) place c.new_orders_at.result.now c.new_orders_at.ensures)
