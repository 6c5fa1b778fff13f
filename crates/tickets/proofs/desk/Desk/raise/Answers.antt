use Rattle.std.proofs.Common.{ap, sym, subst, ◌∙◌, arith}
use mathlib.Core.Option.{none}
use Rattle.atomic_table.specs.Table.{step}
use Rattle.tickets.specs.declared.entry.Entry.{Entry}
use Rattle.tickets.specs.Entries.{has_stopped, with_raise}
use Rattle.tickets.specs.Rule.{IsShown}
use Rattle.tickets.specs.Seats.{entry_of}
use Rattle.tickets.proofs.Dealing.{goes_on, has_acted, raise_leaves, room, seat_raises}
use Rattle.tickets.proofs.Steps.{raised_stops}
use Rattle.tickets.proofs.desk.Desk.raise.Goals as goal

pub fetch_or-requires : goal.fetch_or-requires
fetch_or-requires c =
    let desk = c.args.self.now in
    let seat = c.args.seat.now in
    let two = desk.two_words in
    let small = room desk.table.shared.key desk.size desk.sized desk.small in
    (c.requires.own.table, omega arith, seat_raises desk.table.shared.key small desk.table.shared.table_id.slots seat.inner.id seat.inner.me seat.one seat.bare (step desk.table.shared.table_id.slots 1 1 0 none) c.requires.going c.args.place c.requires.last)

pub returns-clause-own : goal.returns-clause-own
returns-clause-own c =
    let seat = c.args.seat.now in
    let own = c.requires.own in
    let left = raise_leaves seat.inner.me _ seat.one _ c.fetch_or.result c.fetch_or.ensures.2 in
    record {
      table = c.fetch_or.ensures.0 ∙ own.table;
      places = ap (λ (e : Entry). e.places) left.0 ∙ own.places;
      workers = ap (λ (e : Entry). e.workers) left.0 ∙ own.workers;
      shown = subst IsShown (sym left.0) left.1.shown;
    }

pub returns-clause-entry : goal.returns-clause-entry
returns-clause-entry c = let seat = c.args.seat.now in has_acted _ (with_raise (entry_of seat)) c.fetch_or.ensures.2.history (raise_leaves seat.inner.me _ seat.one _ c.fetch_or.result c.fetch_or.ensures.2).0

pub returns-clause-line : goal.returns-clause-line
returns-clause-line c =
    let seat = c.args.seat.now in
    let left = raise_leaves seat.inner.me _ seat.one _ c.fetch_or.result c.fetch_or.ensures.2 in
    goes_on _ (with_raise (entry_of seat)) (entry_of seat).history c.fetch_or.ensures.2.history left.0 left.1.line

pub returns-clause-raised : goal.returns-clause-raised
returns-clause-raised c =
    let seat = c.args.seat.now in
    ap (λ (e : Entry). e.raised) (raise_leaves seat.inner.me _ seat.one _ c.fetch_or.result c.fetch_or.ensures.2).0 ∙ c.requires.last

pub returns-clause-stopped : goal.returns-clause-stopped
returns-clause-stopped c =
    let seat = c.args.seat.now in
    ap has_stopped (raise_leaves seat.inner.me _ seat.one _ c.fetch_or.result c.fetch_or.ensures.2).0 ∙ raised_stops (entry_of seat) c.args.place c.requires.last
