use Rattle.std.proofs.Common.{◌≡◌, ◌≤◌, ◌-◌, ◌++◌, vec_len}
use Rattle.std.specs.Io.KnownBytes.{Consumes}
use Rattle.telling.proofs.slurp.slurp_told.Given as goal

abbrev pub invariant-loop-count : goal.invariant-loop-count
invariant-loop-count g l = (g.S.TellingSource.failed l.source ≡ g.S.TellingSource.failed l.initial.source)
    × (vec_len l.text ≤ l.limit)
    × (g.S.TellingSource.given l.source ≡ g.S.TellingSource.given l.initial.source ++ l.text.items)
    × Consumes (g.S.TellingSource.left l.initial.source) (g.S.TellingSource.left l.source) l.text.items

abbrev pub decreases-loop-count : goal.decreases-loop-count
decreases-loop-count g l = l.limit - vec_len l.text
