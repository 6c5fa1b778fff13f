use Rattle.std.proofs.Common.{◌≡◌, [], map, replicate}
use Rattle.mixer.proofs.cut.empty_levels.Given as goal

abbrev pub invariant-loop : goal.invariant-loop
invariant-loop l = map (λ places. places.items) l.levels.items ≡ replicate l.counter []
