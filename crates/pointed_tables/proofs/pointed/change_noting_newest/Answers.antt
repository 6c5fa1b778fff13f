use Rattle.std.proofs.Common.{◌≡◌, ◌+◌, ◌-◌, length, arith}
use Rattle.pointed_tables.proofs.Pointing.{pointed-set, points-set}
use Rattle.pointed_tables.proofs.pointed.change_noting_newest.Goals as goal

pub returns-then-len-gt0-clause-points : goal.returns-then-len-gt0-clause-points
returns-then-len-gt0-clause-points c =
    let some = c.if-len-gt0.true in
    let e : length c.args.points.now - 1 + 1 ≡ length c.args.points.now = omega (arith, some) in
    points-set c.args.points.now c.change_noting.new.log c.index-points-len.result c.args.store.now.rows c.change_noting.new.store.rows _ e c.change_noting.ensures.step

pub returns-then-len-gt0-clause-pointed : goal.returns-then-len-gt0-clause-pointed
returns-then-len-gt0-clause-pointed c pointed =
    let some = c.if-len-gt0.true in
    let e : length c.args.points.now - 1 + 1 ≡ length c.args.points.now = omega (arith, some) in
    pointed-set c.args.points.now c.change_noting.new.log c.index-points-len.result c.args.store.now.rows c.change_noting.new.store.rows c.args.store.now.room c.change_noting.new.store.room _ e
    c.change_noting.ensures.step c.change_noting.ensures.room pointed
