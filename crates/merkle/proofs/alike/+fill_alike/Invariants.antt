use Rattle.merkle.proofs.alike.+fill_alike.Given as goal

abbrev pub decreases-fill_alike : goal.decreases-fill_alike
decreases-fill_alike l = l.height
