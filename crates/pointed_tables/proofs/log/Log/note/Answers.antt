use Rattle.std.proofs.Common.{◌∷◌, []}
use Rattle.pointed_tables.proofs.Bounding.{within-appended}
use Rattle.pointed_tables.proofs.log.Log.note.Goals as goal

pub returns-clause-bounded : goal.returns-clause-bounded
returns-clause-bounded c within =
    let log = c.args.self.now in
    within-appended log.bounds c.note.new.self log.olds.items (c.args.was ∷ []) c.push_reserved.new.self.items c.push_reserved.ensures.items c.note.ensures.lowered (c.note.ensures.noted, tt) within
