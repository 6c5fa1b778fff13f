use Rattle.std.proofs.Common.{◌≡◌, map, take}
use Rattle.catalog.specs.StockCards.{district_info}
use Rattle.records.specs.Spelling.{AddsFields}
use Rattle.tpcc_rows.specs.Limits.{ten}
use Rattle.stored_image.proofs.stored_record.push_district_infos.Given as goal

abbrev pub invariant-loop-district : goal.invariant-loop-district
invariant-loop-district l = (l.district-items ≡ ten)
    × AddsFields l.initial.fields l.fields (map (district_info l.card) (take l.district-index ten))
