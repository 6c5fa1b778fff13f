use Rattle.std.proofs.Common.{◌≤◌, All, take}
use Rattle.tpcc_rows.specs.Texts.{IsText}
use Rattle.catalog.proofs.card.width_for.Given as goal

-- the texts so far are no longer
abbrev pub invariant-loop-text : goal.invariant-loop-text
invariant-loop-text l = record {
  bound : All (IsText l.width) (take l.text-index l.texts);
  fits : l.width ≤ 24;
}
