use Rattle.std.proofs.Common.{◌≡◌, ◌≤◌, ◌+◌, ◌*◌, drop, length}
use Rattle.std.specs.List.{flat_map}
use Rattle.tpcc_rows.specs.Encodings.{short_text}
use Rattle.catalog.proofs.digest.infos_len.Given as goal

-- the bytes so far and those of the texts that are left are all
abbrev pub invariant-loop-place : goal.invariant-loop-place
invariant-loop-place l = record {
  within : l.place ≤ length l.infos;
  whole : l.len + length (flat_map short_text (drop l.place l.infos)) ≡ length (flat_map short_text l.infos);
  few : l.len ≤ 25 * l.place;
}
