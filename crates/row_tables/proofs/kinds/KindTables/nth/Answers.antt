use Rattle.std.proofs.Common.{sym, ap, slice_get, arith}
use Rattle.row_tables.proofs.Parts.{past-parts}
use Rattle.row_tables.proofs.kinds.KindTables.nth.Goals as goal

pub returns-in_default : goal.returns-in_default
returns-in_default c = sym (ap (λ es. slice_get es c.args.n) (past-parts c.args.self.now c.args.part (omega arith)))
