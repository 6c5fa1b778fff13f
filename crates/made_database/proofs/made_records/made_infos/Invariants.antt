use Rattle.std.proofs.Common.{◌≡◌, ◌≤◌, length, map, take}
use Rattle.tpcc_rows.specs.Limits.{ten}
use Rattle.made_database.specs.Made.{made_info}
use Rattle.made_database.proofs.made_records.made_infos.Given as goal

-- the texts so far are those of the districts so far
abbrev pub invariant-loop-place : goal.invariant-loop-place
invariant-loop-place l = record {
  within : l.place ≤ 10;
  count : length l.infos ≡ 10;
  are : l.districts ≡ ten;
  made : take l.place l.infos ≡ map made_info (take l.place ten);
}
