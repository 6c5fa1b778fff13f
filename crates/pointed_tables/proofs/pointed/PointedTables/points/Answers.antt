use Rattle.std.proofs.Common.{length, sym, ap, ◌∙◌}
use Rattle.rollback.specs.Pointed.{Pointed}
use Rattle.pointed_tables.proofs.Pointing.{length-points}
use Rattle.pointed_tables.proofs.pointed.PointedTables.points.Goals as goal

pub returns-clause-value : goal.returns-clause-value
returns-clause-value c = c.len.ensures.value ∙ sym (length-points c.self.inside.points.items c.self.inside.store.rows) ∙ ap (λ (p : Pointed). length p.points) c.self.view_is
