use Rattle.std.proofs.Common.{ap, sym, ◌∙◌, List}
use Rattle.std.specs.FinMap as map
use Rattle.std.specs.List.{list_all}
use Rattle.std.specs.Prelude.{is_some}
use Rattle.loader.specs.LateRows.{listed}
use Rattle.loader.proofs.Listing.{no-keys}
use Rattle.loader.proofs.late_rows.LateRows.new.Goals as goal
use Rattle.tpcc_rows.specs.RowKinds.{fits}
use Rattle.tpcc_rows.specs.declared.key.RowKey.{RowKey}
use Rattle.tpcc_rows.specs.declared.row.Row.{Row}

pub invariant_of-result : goal.invariant_of-result
invariant_of-result c = record {
  fit = ap (list_all (λ (row : RowKey × Row). fits row.0 row.1)) c.new.ensures.items;
  all = λ k. no-keys c.new-2.result c.new-2.ensures.empty k ∙ ap (λ (es : List (RowKey × Row)). is_some (map.get (listed es) k)) (sym c.new.ensures.items);
}
