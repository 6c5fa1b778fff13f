use Rattle.tpcc_rows.proofs.Clips.{clip-clip}
use Rattle.tpcc_model.specs.Payments.{payment_note}
use Rattle.transactions.proofs.payment.payment_note.Goals as goal

pub returns : goal.returns
unfolding payment_note
returns c = simp (
  c.push_field-6.ensures,
  c.push_field-5.ensures,
  c.push_field-4.ensures,
  c.push_field-3.ensures,
  c.push_field-2.ensures,
  c.push_field.ensures,
  c.new-text.ensures,
  c.from.ensures,
  c.from-2.ensures,
  c.from-3.ensures,
  c.from-4.ensures,
  c.from-5.ensures,
  c.number.ensures.value,
  c.number-2.ensures.value,
  c.number-3.ensures.value,
  c.number-4.ensures.value,
  c.number-5.ensures.value,
  c.cents.ensures.value,
  clip-clip,
)
