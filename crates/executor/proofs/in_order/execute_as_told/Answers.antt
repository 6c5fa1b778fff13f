use Rattle.std.proofs.Common.{rules, ◌≡◌, ◌||◌, None, ap, option_copied}
use Rattle.executor.specs.InOrder.{place_strays, told_strays}
use Rattle.executor.proofs.InTurn.{on_ok, stays_so}
use Rattle.executor.proofs.in_order.execute_as_told.Goals as goal

pub returns-in-None-clause-strayed : goal.returns-in-None-clause-strayed
returns-in-None-clause-strayed g c =
    let told = c.args.told.now in
    let none : option_copied told.footprint ≡ None = search rules in
    let here = told_strays c.args.catalog.now c.args.store.now.rows told in
    on_ok c.execute_in_place.result (c.args.strayed.now ≡ (c.args.strayed.now || here))
    (stays_so c.args.strayed.now here (ap (place_strays c.args.catalog.now told.asked.moment c.args.store.now.rows told.asked.number told.asked.request.now) none))
