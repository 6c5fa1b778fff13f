use Rattle.std.proofs.Common.{length, ap, ◌∙◌}
use Rattle.std.specs.FinMap as map
use Rattle.row_tables.proofs.Counting.{counted-rows}
use Rattle.row_tables.proofs.store.RowTables.len.Goals as goal

pub returns : goal.returns
returns c = c.self.invariant.counted ∙ counted-rows _ c.self.invariant.are_kept ∙ ap (λ m. length (map.entries m)) c.self.view_is
