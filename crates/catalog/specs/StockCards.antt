-- What a stock's card has for a district.
use Rattle.std.specs.Prelude.{ℕ, ◌-◌, List, [], slice_index_or}
use Rattle.catalog.specs.declared.card.StockCard.{StockCard}

-- the one of S_DIST_01 to S_DIST_10 that has the district's number
abbrev pub district_info : StockCard → ℕ → List ℕ
district_info card d = slice_index_or card.district_infos (d - 1) []
