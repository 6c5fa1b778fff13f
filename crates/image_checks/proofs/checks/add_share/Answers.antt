use Rattle.image_checks.proofs.Sums.{near_share}
use Rattle.image_checks.proofs.checks.add_share.Goals as goal

pub returns-in-Some-clause-near : goal.returns-in-Some-clause-near
returns-in-Some-clause-near c = λ w below. rw (c.in-Some.ensures.some w) (near_share _ w _ (rw c.amount.ensures.value at c.amount.ensures.range))
