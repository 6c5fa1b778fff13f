use Rattle.std.proofs.Common.{◌≡◌, length}
use Rattle.merkle.proofs.Texts.{AreTextsTo}
use Rattle.merkle.proofs.places.encode.Given as goal

abbrev pub invariant-loop-k : goal.invariant-loop-k
invariant-loop-k g l = (length l.texts ≡ length l.jobs) × AreTextsTo (g.P.Places.hash l.places) l.k l.jobs l.texts
