use Rattle.std.proofs.Common.{refl}
use Rattle.std.specs.FinMap.{empty}
use Rattle.transactions.specs.NewOrderParts.{with_placed}
use Rattle.transactions.proofs.DecidedOutcomes.{placed_outcome}
use Rattle.transactions.proofs.InPlace.{keeps_same, unchanged}
use Rattle.transactions.proofs.new_order.execute_in_place.Goals as goal

pub returns-in_err-write-clause-kept : goal.returns-in_err-write-clause-kept
returns-in_err-write-clause-kept c = c.in_err-write.ensures.kept c.args.store.now (keeps_same c.prefetch_lists.ensures)

pub returns-clause-answer : goal.returns-clause-answer
returns-clause-answer c =
    let placed = c.in_ok-placed.placed in
    let changes = with_placed placed empty in (
      changes,
      (c.in_ok-placed.ensures.answer.0, placed_outcome _ placed changes c.in_ok-placed.ensures.answer.1 refl),
      c.in_ok-write.ensures.made c.args.store.now.rows empty (unchanged c.prefetch_lists.ensures),
    )

pub returns-clause-kept : goal.returns-clause-kept
returns-clause-kept c = c.in_ok-write.ensures.kept c.args.store.now (keeps_same c.prefetch_lists.ensures)
