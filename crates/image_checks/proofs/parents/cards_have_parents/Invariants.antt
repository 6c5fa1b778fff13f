use Rattle.std.proofs.Common.{◌≡◌, drop}
use Rattle.std.specs.List.{list_all}
use Rattle.std.specs.FinMap as map
use Rattle.image_checks.specs.Checks.{card_has_parents}
use Rattle.tpcc_model.specs.Database.{database}
use Rattle.image_checks.proofs.parents.cards_have_parents.Given as goal

-- the rest decides
abbrev pub invariant-loop-key : goal.invariant-loop-key
invariant-loop-key l = list_all (card_has_parents (database l.catalog l.rows)) (drop l.key-index l.key-items)
    ≡ list_all (card_has_parents (database l.catalog l.rows)) (map.entries l.catalog)
