use Rattle.merkle.proofs.Placing.{places-sorted}
use Rattle.merkle.proofs.leaves.sort.Goals as goal

pub returns : goal.returns
returns c = record {
  len = c.sort_unstable_by_key.ensures.len;
  places = λ n. places-sorted _ _ c.sort_unstable_by_key.ensures.permutation n;
}
