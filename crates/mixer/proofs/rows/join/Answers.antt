use Rattle.std.proofs.Common.{refl, arith}
use Rattle.serializability.proofs.RowSteps.{row_joined, row_pushed}
use Rattle.mixer.proofs.rows.join.Goals as goal

pub returns-then-level-len-clause-row : goal.returns-then-level-len-clause-row
returns-then-level-len-clause-row c = λ bits done f h is sig.
    row_joined bits c.args.row.now.items _ c.args.own c.index.result.now c.union.result done f c.args.level (omega (arith, c.if-level-len.true, c.len.ensures)) c.index.ensures c.union.ensures refl is sig

pub returns-in_ok-push-clause-row : goal.returns-in_ok-push-clause-row
returns-in_ok-push-clause-row c = λ bits done f h is sig.
    row_pushed bits c.args.row.now.items _ c.args.own done f c.args.level (omega (arith, h, c.if-level-len.false, c.len.ensures)) c.in_ok-push.ensures.items is sig
