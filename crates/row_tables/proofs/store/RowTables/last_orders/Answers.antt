use Rattle.std.proofs.Common.{ap, subst, ◌∙◌}
use Rattle.tables.specs.Shelves.{place_of}
use Rattle.row_tables.specs.LastOrders.{AreLatest}
use Rattle.row_tables.proofs.NewNumbers.{place-district}
use Rattle.row_tables.proofs.OrderNumbers.{are-latest}
use Rattle.row_tables.proofs.store.RowTables.last_orders.Goals as goal

pub returns : goal.returns
returns c =
    subst (λ rows. AreLatest rows c.args.warehouse c.args.district c.last_orders_at.result.now) c.self.view_is
    (are-latest c.args.warehouse c.args.district c.district_ytd_rank.ensures.limits _ c.self.invariant.are_kept (place_of c.district_ytd_rank.result)
    (ap place_of c.district_ytd_rank.ensures.value ∙ place-district c.args.warehouse c.args.district c.district_ytd_rank.ensures.limits) c.last_orders_at.result.now c.last_orders_at.ensures)
