use Rattle.std.proofs.Common.{◌≡◌, Option, Some, None, refl, ap, ◌∙◌}
use Rattle.std.specs.Prelude.{option_and_then, option_map}
use Rattle.std.specs.FinMap as map
use Rattle.tpcc_rows.specs.declared.key.RowKey.TheVariants as key
use Rattle.tpcc_rows.specs.declared.row.Row.TheVariants as row
use Rattle.tpcc_rows.specs.declared.row.DistrictNextRow.{DistrictNextRow}
use Rattle.tpcc_rows.specs.RowKinds.{as_district_next}
use Rattle.row_tables.proofs.Keyed.{row-at, table-at}
use Rattle.row_tables.proofs.store.RowTables.district_next.Goals as goal

back : (o : Option DistrictNextRow) → o ≡ option_and_then as_district_next (option_map (λ r. row.DistrictNext r) o)
back None = refl
back (Some x) = refl

pub district_next-requires : goal.district_next-requires
district_next-requires c = table-at _ c.self.invariant.are_kept (key.DistrictNext c.args.warehouse c.args.district) c.district_next_rank.ensures.limits c.district_next_rank.result c.district_next_rank.ensures.value

pub returns : goal.returns
returns c =
    back _
    ∙ ap (option_and_then as_district_next) (c.district_next.ensures
    ∙ row-at _ c.self.invariant.are_kept (key.DistrictNext c.args.warehouse c.args.district) c.district_next_rank.ensures.limits c.district_next_rank.result c.district_next_rank.ensures.value
    ∙ ap (λ m. map.get m (key.DistrictNext c.args.warehouse c.args.district)) c.self.view_is)
