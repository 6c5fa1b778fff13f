use Rattle.std.proofs.Common.{◌≡◌, ℕ, ◌==◌, drop, get_or, map, vec_len}
use Rattle.std.specs.List.{list_any}
use Rattle.mixer.specs.Columns.{raised}
use Rattle.mixer.specs.Slots.{slot}
use Rattle.mixer.specs.declared.slots.TheConstants.{SLOTS}
use Rattle.mixer.proofs.columns.raise.Given as goal

abbrev pub invariant-loop-granule : goal.invariant-loop-granule
invariant-loop-granule l = record {
  len : vec_len l.column ≡ SLOTS;
  so_far : (place : ℕ) → raised (list_any (◌==◌ place) (map slot (drop l.granule-index l.granules))) l.to (get_or l.column.items place 0) ≡ raised (list_any (◌==◌ place) (map slot l.granules)) l.to (get_or l.fn.column.items place 0);
}
