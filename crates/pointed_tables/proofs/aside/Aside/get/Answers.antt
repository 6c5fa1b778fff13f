use Rattle.std.proofs.Common.{Ok, Err, Some, sym, ap, ◌∙◌}
use Rattle.std.specs.FinMap as map
use Rattle.tpcc_rows.specs.RowMap.{row_key_cmp}
use Rattle.tpcc_rows.specs.Places.{are_in_order}
use Rattle.tpcc_rows.proofs.Keys.{row_key_cmp_total, exact_keys}
use Rattle.tpcc_rows.proofs.Places.{at-place, got, got-none}
use Rattle.pointed_tables.specs.Aside.{Roomy}
use Rattle.pointed_tables.proofs.aside.Aside.get.Goals as goal

pub place_of-requires : goal.place_of-requires
place_of-requires c = ap (are_in_order row_key_cmp) c.deref.ensures.value ∙ c.self.invariant.order

pub returns-in-Ok : goal.returns-in-Ok
returns-in-Ok c =
    let there = at-place row_key_cmp c.deref.result.now c.self.inside.rows.items c.args.key.now c.place_of.result (Ok c.in-Ok.place) c.deref.ensures.value c.in-Ok.is c.place_of.ensures in
    ap (λ e. Some e.1) c.index.ensures ∙ sym (got row_key_cmp_total exact_keys c.self.inside.rows.items c.args.key.now c.in-Ok.place c.self.invariant.order there c.index.result.now)
    ∙ ap (λ (s : Roomy). map.get s.rows c.args.key.now) c.self.view_is

pub returns-in-Err : goal.returns-in-Err
returns-in-Err c =
    let absent = at-place row_key_cmp c.deref.result.now c.self.inside.rows.items c.args.key.now c.place_of.result (Err c.in-Err.field-0) c.deref.ensures.value c.in-Err.is c.place_of.ensures in
    sym (got-none row_key_cmp_total exact_keys c.self.inside.rows.items c.args.key.now c.in-Err.field-0 c.self.invariant.order absent) ∙ ap (λ (s : Roomy). map.get s.rows c.args.key.now) c.self.view_is
