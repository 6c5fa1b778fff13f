use Rattle.std.proofs.Common.{Ok, Err, sym, ap, ◌∙◌}
use Rattle.tpcc_rows.specs.Places.{IsPlaceOf, are_in_order}
use Rattle.tpcc_rows.specs.RowMap.{row_key_cmp}
use Rattle.tpcc_rows.proofs.Places.{at-place}
use Rattle.pointed_tables.proofs.Placing.{held-removed, none-here, row-at, rows-kept, rows-removed}
use Rattle.pointed_tables.proofs.aside.Aside.remove.Goals.{In-Ok, In-Err}
use Rattle.pointed_tables.proofs.aside.Aside.remove.Goals as goal

pub place_of-requires : goal.place_of-requires
place_of-requires c = ap (are_in_order row_key_cmp) c.deref.ensures.value ∙ c.self.invariant.order

there : (c : In-Ok) → IsPlaceOf row_key_cmp c.args.key.now c.self.inside.rows.items (Ok c.in-Ok.place)
there c = at-place row_key_cmp c.deref.result.now c.self.inside.rows.items c.args.key.now c.place_of.result (Ok c.in-Ok.place) c.deref.ensures.value c.in-Ok.is c.place_of.ensures

absent : (c : In-Err) → IsPlaceOf row_key_cmp c.args.key.now c.self.inside.rows.items (Err c.in-Err.field-0)
absent c = at-place row_key_cmp c.deref.result.now c.self.inside.rows.items c.args.key.now c.place_of.result (Err c.in-Err.field-0) c.deref.ensures.value c.in-Err.is c.place_of.ensures

pub remove-requires : goal.remove-requires
remove-requires c = (there (goal.at.remove-requires c).In-Ok).0

pub invariant_of-self : goal.invariant_of-self
invariant_of-self c = held-removed _ _ _ _ _ c.self.invariant _ c.self.view_is (there (goal.at.invariant_of-self c).In-Ok) _ _ c.remove.ensures.after c.remove.ensures.capacity c.remove.ensures.fewer

pub returns-in-Ok-clause-value : goal.returns-in-Ok-clause-value
returns-in-Ok-clause-value c = row-at _ _ _ _ _ c.self.invariant _ c.self.view_is (there (goal.at.returns-in-Ok-clause-value c).In-Ok) c.remove.result c.remove.ensures.value

pub returns-in-Ok-clause-after : goal.returns-in-Ok-clause-after
returns-in-Ok-clause-after c = rows-removed _ _ _ _ _ c.self.invariant _ c.self.view_is (there (goal.at.returns-in-Ok-clause-after c).In-Ok) _ c.remove.ensures.after

pub returns-in-Err-clause-value : goal.returns-in-Err-clause-value
returns-in-Err-clause-value c = sym (none-here _ _ _ _ _ c.self.invariant _ c.self.view_is (absent (goal.at.returns-in-Err-clause-value c).In-Err))

pub returns-in-Err-clause-after : goal.returns-in-Err-clause-after
returns-in-Err-clause-after c = rows-kept _ _ _ _ _ c.self.invariant _ c.self.view_is (absent (goal.at.returns-in-Err-clause-after c).In-Err)
