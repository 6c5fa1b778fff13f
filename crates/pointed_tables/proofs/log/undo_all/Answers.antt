use Rattle.pointed_tables.proofs.Undoing.{clean-more, next-popped, rest-popped}
use Rattle.pointed_tables.proofs.log.undo_all.Goals as goal

pub undo-requires-clause-fit : goal.undo-requires-clause-fit
undo-requires-clause-fit c =
    (next-popped c.args.log.olds.items c.loop-key.olds.items c.pop.new.self.items (c.in-Some.key, c.in-Some.row) c.args.store.now.rows c.loop-key.store.rows c.args.store.now.room c.loop-key.store.room
    c.in-Some.ensures.items c.loop-key.invariant.rest).fit

pub undo-requires-clause-room : goal.undo-requires-clause-room
undo-requires-clause-room c =
    (next-popped c.args.log.olds.items c.loop-key.olds.items c.pop.new.self.items (c.in-Some.key, c.in-Some.row) c.args.store.now.rows c.loop-key.store.rows c.args.store.now.room c.loop-key.store.room
    c.in-Some.ensures.items c.loop-key.invariant.rest).room

pub loop-key-preserved : goal.loop-key-preserved
loop-key-preserved c = record {
  rest =
      rest-popped c.args.log.olds.items c.loop-key.olds.items c.pop.new.self.items (c.in-Some.key, c.in-Some.row) c.args.store.now.rows c.loop-key.store.rows c.args.store.now.room c.loop-key.store.room
      c.in-Some.ensures.items c.loop-key.invariant.rest c.undo.new.self.rows c.undo.new.self.room c.undo.ensures.rows c.undo.ensures.room;
  clean =
      clean-more c.args.dirty.now c.loop-key.dirty c.add.new.self c.args.store.now.rows c.loop-key.store.rows c.undo.new.self.rows c.in-Some.key c.in-Some.row
      c.leaf.result c.leaf.ensures.value c.undo.ensures.rows c.add.ensures c.loop-key.invariant.clean;
}
