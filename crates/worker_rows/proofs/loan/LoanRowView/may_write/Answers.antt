use Rattle.std.proofs.Common.{sym, ◌∙◌}
use Rattle.worker_rows.proofs.Writing.{read_too}
use Rattle.worker_rows.proofs.loan.LoanRowView.may_write.Goals as goal

pub returns-clause-read : goal.returns-clause-read
returns-clause-read c = λ written. read_too c.args.self.now.footprint.now c.writes.ensures.read c.args.granule.now c.writes.result.now c.writes.ensures.value (sym c.is_among.ensures ∙ written)
