use Rattle.std.proofs.Common.{vec_len}
use Rattle.pointed_tables.proofs.Undoing.{IsRest, KeepsClean}
use Rattle.pointed_tables.proofs.log.undo_all.Given as goal

-- what is left of the log leads back to the same rows
abbrev pub invariant-loop-key : goal.invariant-loop-key
invariant-loop-key l = record {
  rest : IsRest l.fn.log.olds.items l.fn.store.rows l.fn.store.room l.olds.items l.store.rows l.store.room;
  clean : KeepsClean l.fn.dirty l.dirty l.fn.store.rows l.store.rows;
}

abbrev pub decreases-loop-key : goal.decreases-loop-key
decreases-loop-key l = vec_len l.olds
