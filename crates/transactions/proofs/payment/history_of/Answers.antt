use Rattle.tpcc_rows.proofs.Clips.{clip-clip}
use Rattle.tpcc_model.specs.Payments.{history_of}
use Rattle.transactions.proofs.payment.history_of.Goals as goal

pub returns : goal.returns
unfolding history_of
returns c = simp (
  c.push_clipped-3.ensures,
  c.as_bytes-2.ensures.value,
  c.push_clipped-2.ensures,
  c.push_clipped.ensures,
  c.as_bytes.ensures.value,
  c.new-text.ensures,
  c.amount_of.ensures,
  clip-clip,
)
