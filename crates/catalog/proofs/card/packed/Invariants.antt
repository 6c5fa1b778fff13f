use Rattle.std.proofs.Common.{◌≡◌, take}
use Rattle.std.specs.List.{flat_map}
use Rattle.catalog.specs.Infos.{padded}
use Rattle.catalog.proofs.card.packed.Given as goal

-- the texts so far, padded
abbrev pub invariant-loop-text : goal.invariant-loop-text
invariant-loop-text l = l.packed.items ≡ flat_map (padded l.width) (take l.text-index l.texts)
