use Rattle.std.proofs.Common.{◌≡◌, ◌≤◌, ◌++◌, ◌+◌, ◌*◌, drop, length}
use Rattle.std.specs.List.{flat_map}
use Rattle.tpcc_rows.specs.Encodings.{short_text}
use Rattle.catalog.proofs.digest.push_infos.Given as goal

-- what was pushed and the texts that are left are all
abbrev pub invariant-loop-place : goal.invariant-loop-place
invariant-loop-place l = record {
  within : l.place ≤ length l.infos;
  whole : l.out ++ flat_map short_text (drop l.place l.infos) ≡ l.initial.out ++ flat_map short_text l.infos;
  room : length l.out ≤ 286 + 25 * l.place;
}
