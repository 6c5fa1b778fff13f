use Rattle.pointed_tables.proofs.Exchanging.{AreLowered, IsExchangedTo}
use Rattle.pointed_tables.proofs.log.exchange_all.Given as goal

-- n changes are made
abbrev pub invariant-loop-n : goal.invariant-loop-n
invariant-loop-n l = record {
  exchanged : IsExchangedTo l.fn.changes.items l.olds.items l.n l.removals l.fn.store.rows l.store.rows l.fn.dirty l.dirty l.fn.store.room l.store.room;
  lowered : AreLowered l.fn.bounds l.bounds l.olds.items l.n;
}
