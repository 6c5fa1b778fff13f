use Rattle.std.proofs.Common.{ap, ap₂, ◌∙◌}
use Rattle.std.specs.List.{filter_map}
use Rattle.tpcc_rows.specs.Picks.{greatest, larger_of, latest, order_pick, picked}
use Rattle.pointed_tables.specs.Aside.{Roomy}
use Rattle.pointed_tables.proofs.Picking.{greatest-both}
use Rattle.pointed_tables.proofs.roomy.RoomyTables.last_order.Goals as goal

pub returns : goal.returns
unfolding latest picked
returns c =
    c.greatest_order.ensures
    ∙ ap₂ (λ o es. larger_of o (greatest (filter_map (λ e. order_pick c.args.warehouse c.args.district c.args.customer e.0 e.1) es))) c.last_order-first.ensures c.as_slice.ensures
    ∙ greatest-both (order_pick c.args.warehouse c.args.district c.args.customer) c.self.inside.aside.rows c.self.inside.tables c.self.invariant
    ∙ ap (λ (s : Roomy). latest s.rows c.args.warehouse c.args.district c.args.customer) c.self.view_is
