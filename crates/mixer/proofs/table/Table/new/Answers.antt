use Rattle.mixer.proofs.ColumnSteps.{low_zeros}
use Rattle.mixer.proofs.table.Table.new.Goals as goal

pub invariant_of-result-clause-written_low : goal.invariant_of-result-clause-written_low
invariant_of-result-clause-written_low c = low_zeros 262144 c.in_ok-written.written.items (c.in_ok-written.ensures.items_if_clones_equal (λ y same. same))

pub invariant_of-result-clause-touched_low : goal.invariant_of-result-clause-touched_low
invariant_of-result-clause-touched_low c = low_zeros 262144 c.in_ok-touched.touched.items (c.in_ok-touched.ensures.items_if_clones_equal (λ y same. same))
