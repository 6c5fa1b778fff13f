use Rattle.std.proofs.Common.{◌∙◌}
use Rattle.loader.proofs.Late.{apart-none, over-empty, rows-none}
use Rattle.loader.proofs.gathered.Gathered.new.Goals as goal

pub invariant_of-result : goal.invariant_of-result
invariant_of-result c = record { apart = apart-none _ _ c.new-2.ensures; fit = rows-none _ (c.in_ok-boxed.ensures ∙ c.in_ok-new.ensures) }

pub returns : goal.returns
returns c = over-empty _ _ c.new-2.ensures (c.in_ok-boxed.ensures ∙ c.in_ok-new.ensures)
