use Rattle.std.proofs.Common.{◌+◌, ◌∷◌, ◌++◌, [], ap, ◌∙◌}
use Rattle.pointed_tables.specs.Logs.{Olds}
use Rattle.pointed_tables.proofs.Exchanging.{step-appended}
use Rattle.pointed_tables.proofs.Undoing.{back-put}
use Rattle.pointed_tables.proofs.log.put_noting.Goals as goal

pub returns-clause-step : goal.returns-clause-step
returns-clause-step g c =
    let later : Olds = (c.args.key.now, c.in_ok-was.was') ∷ [] in
    step-appended c.args.log.now c.note.new.self later 0 c.args.store.now.rows c.put_row.new.self.rows
    (c.note.ensures.olds ∙ ap (λ (os : Olds). os ++ later) c.prepare.ensures.same.olds)
    (c.note.ensures.removals ∙ ap (λ n. n + 0) c.prepare.ensures.same.removals)
    (λ within. c.note.ensures.bounded (c.prepare.ensures.same.bounded within))
    (back-put c.args.store.now.rows c.put_row.new.self.rows c.args.key.now (g.R.TableRow.row_of c.args.row) c.in_ok-was.was' c.in_ok-was.ensures.value c.in_ok-was.ensures.kind c.in_ok-was.ensures.ok)
