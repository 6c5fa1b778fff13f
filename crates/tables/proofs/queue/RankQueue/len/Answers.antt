use Rattle.std.proofs.Common.{length, refl, ap, ◌∙◌}
use Rattle.tables.proofs.Parted.{entries-of}
use Rattle.tables.proofs.queue.RankQueue.len.Goals as goal

pub returns : goal.returns
returns c = c.len.ensures ∙ c.self.inside.entries.ok.0 ∙ ap length (entries-of _ c.self.inside.entries.items _ refl c.self.invariant c.self.view_is)
