use Rattle.stored_image.proofs.RowKeys.{HasBelow}
use Rattle.stored_image.proofs.row_keys.keys_in_order.Given as goal

abbrev pub invariant-loop-leaf : goal.invariant-loop-leaf
invariant-loop-leaf l = HasBelow l.rows.rows l.leaf l.keys
