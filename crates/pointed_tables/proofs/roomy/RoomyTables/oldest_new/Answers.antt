use Rattle.std.proofs.Common.{ap, ap₂, ◌∙◌}
use Rattle.std.specs.List.{filter_map}
use Rattle.tpcc_rows.specs.Picks.{least, lesser_of, new_pick, oldest, picked}
use Rattle.pointed_tables.specs.Aside.{Roomy}
use Rattle.pointed_tables.proofs.Picking.{least-both}
use Rattle.pointed_tables.proofs.roomy.RoomyTables.oldest_new.Goals as goal

pub returns : goal.returns
unfolding oldest picked
returns c =
    c.least_new.ensures
    ∙ ap₂ (λ o es. lesser_of o (least (filter_map (λ e. new_pick c.args.warehouse c.args.district e.0 e.1) es))) c.oldest_new-first.ensures c.as_slice.ensures
    ∙ least-both (new_pick c.args.warehouse c.args.district) c.self.inside.aside.rows c.self.inside.tables c.self.invariant
    ∙ ap (λ (s : Roomy). oldest s.rows c.args.warehouse c.args.district) c.self.view_is
