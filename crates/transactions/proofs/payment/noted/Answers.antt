use Rattle.tpcc_rows.proofs.Clips.{clip-clip}
use Rattle.transactions.proofs.payment.noted.Goals as goal

pub returns : goal.returns
returns c = simp (c.push_clipped.ensures, c.as_bytes.ensures.value, c.payment_note-text.ensures, clip-clip)
