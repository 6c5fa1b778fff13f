use Rattle.std.proofs.Common.{◌<◌, Ok, Err, sym, ap, ◌∙◌, arith}
use Rattle.tpcc_rows.specs.Places.{IsPlaceOf, are_in_order}
use Rattle.tpcc_rows.specs.RowMap.{row_key_cmp}
use Rattle.tpcc_rows.proofs.Places.{at-place}
use Rattle.pointed_tables.proofs.Placing.{held-inserted, held-set, none-here, room-inserted, room-left, room-set, row-at, rows-inserted, rows-set}
use Rattle.pointed_tables.proofs.aside.Aside.put.Goals.{In-Ok, In-Err}
use Rattle.pointed_tables.proofs.aside.Aside.put.Goals as goal

pub place_of-requires : goal.place_of-requires
place_of-requires c = ap (are_in_order row_key_cmp) c.deref.ensures.value ∙ c.self.invariant.order

there : (c : In-Ok) → IsPlaceOf row_key_cmp c.args.key c.self.inside.rows.items (Ok c.in-Ok.place)
there c = at-place row_key_cmp c.deref.result.now c.self.inside.rows.items c.args.key c.place_of.result (Ok c.in-Ok.place) c.deref.ensures.value c.in-Ok.is c.place_of.ensures

absent : (c : In-Err) → IsPlaceOf row_key_cmp c.args.key c.self.inside.rows.items (Err c.in-Err.place)
absent c = at-place row_key_cmp c.deref.result.now c.self.inside.rows.items c.args.key c.place_of.result (Err c.in-Err.place) c.deref.ensures.value c.in-Err.is c.place_of.ensures

room : (c : In-Err) → 0 < c.self.inside.room
room c = room-left _ _ _ _ _ c.self.invariant _ c.self.view_is (absent c) c.requires

pub replace-requires : goal.replace-requires
replace-requires c = (there (goal.at.replace-requires c).In-Ok).0

pub insert-requires-clause-place : goal.insert-requires-clause-place
insert-requires-clause-place c = (absent (goal.at.insert-requires-clause-place c).In-Err).0

pub insert-requires-clause-room : goal.insert-requires-clause-room
insert-requires-clause-room c = let some = room (goal.at.insert-requires-clause-room c).In-Err in let enough = c.self.invariant.enough in omega (arith, some, enough)

pub overflow_sub-self : goal.overflow_sub-self
overflow_sub-self c = let some = room (goal.at.overflow_sub-self c).In-Err in omega (arith, some)

pub invariant_of-self : goal.invariant_of-self
invariant_of-self c = held-set _ _ _ _ _ c.self.invariant _ c.self.view_is (there (goal.at.invariant_of-self c).In-Ok) _ _ c.args.row c.replace.ensures.after c.replace.ensures.capacity

pub invariant_of-self-in-Err : goal.invariant_of-self-in-Err
invariant_of-self-in-Err c =
    held-inserted _ _ _ _ _ c.self.invariant _ c.self.view_is (absent (goal.at.invariant_of-self-in-Err c).In-Err) _ _ c.args.row c.insert.ensures.items c.insert.ensures.capacity
    (room (goal.at.invariant_of-self-in-Err c).In-Err)

pub returns-in-Ok-clause-value : goal.returns-in-Ok-clause-value
returns-in-Ok-clause-value c = row-at _ _ _ _ _ c.self.invariant _ c.self.view_is (there (goal.at.returns-in-Ok-clause-value c).In-Ok) c.replace.result c.replace.ensures.value

pub returns-in-Ok-clause-rows : goal.returns-in-Ok-clause-rows
returns-in-Ok-clause-rows c = rows-set _ _ _ _ _ c.self.invariant _ c.self.view_is (there (goal.at.returns-in-Ok-clause-rows c).In-Ok) _ c.args.row c.replace.ensures.after

pub returns-in-Ok-clause-room : goal.returns-in-Ok-clause-room
returns-in-Ok-clause-room c = room-set _ _ _ _ _ c.self.invariant _ c.self.view_is (there (goal.at.returns-in-Ok-clause-room c).In-Ok) (c.args.key, c.args.row)

pub returns-in-Err-clause-value : goal.returns-in-Err-clause-value
returns-in-Err-clause-value c = sym (none-here _ _ _ _ _ c.self.invariant _ c.self.view_is (absent (goal.at.returns-in-Err-clause-value c).In-Err))

pub returns-in-Err-clause-rows : goal.returns-in-Err-clause-rows
returns-in-Err-clause-rows c = rows-inserted _ _ _ _ _ c.self.invariant _ c.self.view_is (absent (goal.at.returns-in-Err-clause-rows c).In-Err) _ c.args.row c.insert.ensures.items

pub returns-in-Err-clause-room : goal.returns-in-Err-clause-room
returns-in-Err-clause-room c = room-inserted _ _ _ _ _ c.self.invariant _ c.self.view_is (absent (goal.at.returns-in-Err-clause-room c).In-Err)
