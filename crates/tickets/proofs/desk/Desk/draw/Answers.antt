use Rattle.std.proofs.Common.{ap, sym, subst, ◌∙◌, arith}
use mathlib.Core.Option.{none}
use Rattle.atomic_table.specs.Table.{step}
use Rattle.tickets.specs.declared.entry.Entry.{Entry}
use Rattle.tickets.specs.Entries.{acted, last_drawn, has_stopped, with_draw, with_end, with_place}
use Rattle.tickets.specs.Rule.{IsAlone, IsShown}
use Rattle.tickets.specs.Seats.{entry_of}
use Rattle.tickets.proofs.Dealing.{draw_leaves, goes_on, has_acted, room, same_level, seat_draws}
use Rattle.tickets.proofs.Steps.{ends, takes}
use Rattle.tickets.proofs.desk.Desk.draw.Goals as goal

pub fetch_add-requires : goal.fetch_add-requires
fetch_add-requires c =
    let desk = c.args.self.now in
    let seat = c.args.seat.now in
    let two = desk.two_words in
    let small = room desk.table.shared.key desk.size desk.sized desk.small in
    (c.requires.own.table, omega arith, seat_draws desk.table.shared.key small desk.table.shared.table_id.slots seat.inner.id seat.inner.me seat.one seat.bare (step desk.table.shared.table_id.slots 0 1 0 none) c.requires.going)

pub returns-clause-own : goal.returns-clause-own
returns-clause-own c =
    let seat = c.args.seat.now in
    let own = c.requires.own in
    let left = draw_leaves seat.inner.me _ seat.one _ c.fetch_add.result c.fetch_add.ensures.2 in
    let level = same_level c.fetch_add.result (entry_of seat) in
    record {
      table = c.fetch_add.ensures.0 ∙ own.table;
      places = ap (λ (e : Entry). e.places) left.0 ∙ (level.0 ∙ own.places);
      workers = ap (λ (e : Entry). e.workers) left.0 ∙ (level.1 ∙ own.workers);
      shown = subst IsShown (sym left.0) left.1.shown;
    }

pub returns-clause-taken : goal.returns-clause-taken
returns-clause-taken c lt =
    let seat = c.args.seat.now in
    let old = entry_of seat in
    let n = c.fetch_add.result in
    let history = c.fetch_add.ensures.2.history in
    let left = draw_leaves seat.inner.me _ seat.one _ n c.fetch_add.ensures.2 in
    let level = c.requires.own.places in
    let took = takes n old c.requires.going (omega arith) in
    let is = left.0 ∙ ap (acted history) took.0 in
    record { entry = has_acted _ (with_place n old) history is; last = ap last_drawn is ∙ took.1; going = ap has_stopped is ∙ took.2 }

pub returns-clause-past : goal.returns-clause-past
returns-clause-past c le =
    let seat = c.args.seat.now in
    let old = entry_of seat in
    let n = c.fetch_add.result in
    let history = c.fetch_add.ensures.2.history in
    let left = draw_leaves seat.inner.me _ seat.one _ n c.fetch_add.ensures.2 in
    let level = c.requires.own.places in
    let is = left.0 ∙ ap (acted history) (ends n old (omega arith)) in
    record { entry = has_acted _ (with_end old) history is; stopped = ap has_stopped is }

pub returns-clause-alone : goal.returns-clause-alone
returns-clause-alone c lt =
    let seat = c.args.seat.now in
    let n = c.fetch_add.result in
    let left = draw_leaves seat.inner.me _ seat.one _ n c.fetch_add.ensures.2 in
    let level = c.requires.own.places in
    subst (IsAlone n) (sym left.0) (left.1.alone (omega arith))

pub returns-clause-line : goal.returns-clause-line
returns-clause-line c =
    let seat = c.args.seat.now in
    let left = draw_leaves seat.inner.me _ seat.one _ c.fetch_add.result c.fetch_add.ensures.2 in
    goes_on _ (with_draw c.fetch_add.result (entry_of seat)) (entry_of seat).history c.fetch_add.ensures.2.history left.0 left.1.line

pub returns-clause-rising : goal.returns-clause-rising
returns-clause-rising c = let seat = c.args.seat.now in (draw_leaves seat.inner.me _ seat.one _ c.fetch_add.result c.fetch_add.ensures.2).1.above

pub returns-clause-count : goal.returns-clause-count
returns-clause-count c = let seat = c.args.seat.now in (draw_leaves seat.inner.me _ seat.one _ c.fetch_add.result c.fetch_add.ensures.2).1.count
