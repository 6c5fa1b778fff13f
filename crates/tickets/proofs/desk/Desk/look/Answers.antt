use Rattle.std.proofs.Common.{ap, sym, subst, ◌∙◌, ◌==◌, arith, eq-eqb}
use mathlib.Core.Option.{none}
use Rattle.atomic_table.specs.Table.{step}
use Rattle.tickets.specs.declared.entry.Entry.{Entry}
use Rattle.tickets.specs.Entries.{has_stopped, with_look}
use Rattle.tickets.specs.Once.{SomeRaised}
use Rattle.tickets.specs.Rule.{IsShown, last_world}
use Rattle.tickets.specs.Seats.{entry_of}
use Rattle.tickets.proofs.Dealing.{goes_on, has_acted, look_leaves, room, seat_looks}
use Rattle.tickets.proofs.Steps.{stays, stops}
use Rattle.tickets.proofs.desk.Desk.look.Goals as goal

pub load-requires : goal.load-requires
load-requires c =
    let desk = c.args.self.now in
    let seat = c.args.seat.now in
    let two = desk.two_words in
    let small = room desk.table.shared.key desk.size desk.sized desk.small in
    (c.requires.own.table, omega arith, seat_looks desk.table.shared.key small desk.table.shared.table_id.slots seat.inner.id seat.inner.me seat.one seat.bare (step desk.table.shared.table_id.slots 1 0 0 none) c.requires.own.shown)

pub returns-clause-own : goal.returns-clause-own
returns-clause-own c =
    let seat = c.args.seat.now in
    let own = c.requires.own in
    let left = look_leaves seat.inner.me _ seat.one _ c.load.result c.load.ensures.2 in
    record {
      table = c.load.ensures.0 ∙ own.table;
      places = ap (λ (e : Entry). e.places) left.0 ∙ own.places;
      workers = ap (λ (e : Entry). e.workers) left.0 ∙ own.workers;
      shown = subst IsShown (sym left.0) left.1.shown;
    }

pub returns-clause-entry : goal.returns-clause-entry
returns-clause-entry c = let seat = c.args.seat.now in has_acted _ (with_look (c.load.result == 1) (entry_of seat)) c.load.ensures.2.history (look_leaves seat.inner.me _ seat.one _ c.load.result c.load.ensures.2).0

pub returns-clause-line : goal.returns-clause-line
returns-clause-line c =
    let seat = c.args.seat.now in
    let left = look_leaves seat.inner.me _ seat.one _ c.load.result c.load.ensures.2 in
    goes_on _ (with_look (c.load.result == 1) (entry_of seat)) (entry_of seat).history c.load.ensures.2.history left.0 left.1.line

pub returns-clause-raised : goal.returns-clause-raised
returns-clause-raised c is =
    let seat = c.args.seat.now in
    let left = look_leaves seat.inner.me _ seat.one _ c.load.result c.load.ensures.2 in
    subst (λ (e : Entry). SomeRaised (last_world e)) (sym left.0) (left.1.seen is)

pub returns-clause-seen : goal.returns-clause-seen
returns-clause-seen c is =
    let seat = c.args.seat.now in
    ap has_stopped (look_leaves seat.inner.me _ seat.one _ c.load.result c.load.ensures.2).0 ∙ stops (c.load.result == 1) (entry_of seat) is

pub returns-clause-unseen : goal.returns-clause-unseen
returns-clause-unseen c is =
    let seat = c.args.seat.now in
    let left = look_leaves seat.inner.me _ seat.one _ c.load.result c.load.ensures.2 in
    left.0 ∙ stays (c.load.result == 1) c.load.ensures.2.history (entry_of seat) is (left.1.unseen is)

pub returns-clause-after_raise : goal.returns-clause-after_raise
returns-clause-after_raise c h =
    let seat = c.args.seat.now in
    eq-eqb c.load.result 1 ((look_leaves seat.inner.me _ seat.one _ c.load.result c.load.ensures.2).1.after_raise h)

pub returns-clause-after_look : goal.returns-clause-after_look
returns-clause-after_look c h =
    let seat = c.args.seat.now in
    eq-eqb c.load.result 1 ((look_leaves seat.inner.me _ seat.one _ c.load.result c.load.ensures.2).1.after_look h)
