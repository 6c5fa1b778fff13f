use Rattle.std.proofs.Common.{◌≡◌, ◌+◌, ◌-◌, ◌≤◌, length, take}
use Rattle.csv.specs.Records.{fields_of}
use Rattle.image_records.specs.Columns.{texts_at}
use Rattle.image_records.proofs.Texts.{texts_after}
use Rattle.image_records.proofs.columns.district_infos.Given as goal

-- the texts so far and those left are the ten texts
abbrev pub invariant-loop-place : goal.invariant-loop-place
invariant-loop-place l = record {
  within : l.place ≤ 10;
  ten : length l.infos ≡ 10;
  all : texts_at (fields_of l.fields) l.first 10 24 ≡ texts_after (take l.place l.infos) (fields_of l.fields) (l.first + l.place) (10 - l.place);
}
