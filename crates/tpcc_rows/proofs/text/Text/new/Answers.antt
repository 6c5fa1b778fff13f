use Rattle.tpcc_rows.proofs.Padding.{all_zeros, no_text}
use Rattle.tpcc_rows.proofs.text.Text.new.Goals as goal

pub invariant_of-result : goal.invariant_of-result
invariant_of-result g c = all_zeros g.row.N

pub returns : goal.returns
returns g c = no_text g.row.N
