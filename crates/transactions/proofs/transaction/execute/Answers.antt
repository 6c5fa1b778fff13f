use Rattle.transactions.proofs.Within.{executes_within}
use Rattle.transactions.proofs.transaction.execute.Goals as goal

pub returns : goal.returns
returns g c =
    rw c.concluded.ensures (rw c.kind.ensures
    (executes_within (g.V.RowView.sees c.args.view.now) c.args.catalog.now c.args.asked.now.request.now c.args.asked.now.number c.args.asked.now.moment _ c.executed-answer.ensures))
