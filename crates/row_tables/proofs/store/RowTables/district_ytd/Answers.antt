use Rattle.std.proofs.Common.{◌≡◌, Option, Some, None, refl, ap, ◌∙◌}
use Rattle.std.specs.Prelude.{option_and_then, option_map}
use Rattle.std.specs.FinMap as map
use Rattle.tpcc_rows.specs.declared.key.RowKey.TheVariants as key
use Rattle.tpcc_rows.specs.declared.row.Row.TheVariants as row
use Rattle.tpcc_rows.specs.declared.row.DistrictYtdRow.{DistrictYtdRow}
use Rattle.tpcc_rows.specs.RowKinds.{as_district_ytd}
use Rattle.row_tables.proofs.Keyed.{row-at, table-at}
use Rattle.row_tables.proofs.store.RowTables.district_ytd.Goals as goal

back : (o : Option DistrictYtdRow) → o ≡ option_and_then as_district_ytd (option_map (λ r. row.DistrictYtd r) o)
back None = refl
back (Some x) = refl

pub district_ytd-requires : goal.district_ytd-requires
district_ytd-requires c = table-at _ c.self.invariant.are_kept (key.DistrictYtd c.args.warehouse c.args.district) c.district_ytd_rank.ensures.limits c.district_ytd_rank.result c.district_ytd_rank.ensures.value

pub returns : goal.returns
returns c =
    back _
    ∙ ap (option_and_then as_district_ytd) (c.district_ytd.ensures
    ∙ row-at _ c.self.invariant.are_kept (key.DistrictYtd c.args.warehouse c.args.district) c.district_ytd_rank.ensures.limits c.district_ytd_rank.result c.district_ytd_rank.ensures.value
    ∙ ap (λ m. map.get m (key.DistrictYtd c.args.warehouse c.args.district)) c.self.view_is)
