use Rattle.std.proofs.Common.{length}
use Rattle.pointed_tables.specs.Logs.{points_of}
use Rattle.pointed_tables.proofs.Pointing.{IsBack}
use Rattle.pointed_tables.proofs.Undoing.{KeepsClean}
use Rattle.pointed_tables.proofs.pointed.PointedTables.go_back.Given as goal

abbrev pub invariant-loop-self : goal.invariant-loop-self
invariant-loop-self l = record {
  back :
      IsBack l.point (points_of l.initial.self-inside.points.items l.initial.self-inside.store.rows) l.initial.self-inside.store.rows l.self-inside.points.items l.self-inside.store.rows l.self-inside.store.room;
  clean : KeepsClean l.initial.self-inside.dirty l.self-inside.dirty l.initial.self-inside.store.rows l.self-inside.store.rows;
}

abbrev pub decreases-loop-self : goal.decreases-loop-self
decreases-loop-self l = length l.self-inside.points.items
