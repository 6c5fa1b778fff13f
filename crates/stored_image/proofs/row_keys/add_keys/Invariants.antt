use Rattle.std.proofs.Common.{drop}
use Rattle.row_store.specs.Slots.{filled, slots}
use Rattle.stored_image.proofs.RowKeys.{IsAdding}
use Rattle.stored_image.proofs.row_keys.add_keys.Given as goal

abbrev pub invariant-loop-slot : goal.invariant-loop-slot
invariant-loop-slot l = IsAdding l.fn.keys (filled (slots l.page)) (filled (drop l.slot (slots l.page))) l.keys
