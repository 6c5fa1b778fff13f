use Rattle.std.proofs.Common.{◌≡◌, [], ◌∷◌, ◌++◌, Some, map, reverse, length, List, sym, ap, ◌∙◌, arith, rules, append-nil}
use Rattle.std.proofs.lemmas.List.{length-map, nil_from_length}
use Rattle.std.proofs.lemmas.List.Elements.{All-pop}
use Rattle.tickets.specs.declared.seat.Seat.{Seat}
use Rattle.tickets.specs.Entries.{blank}
use Rattle.tickets.specs.Seats.{entry_of, IsSeatOf}
use Rattle.tickets.proofs.Dealing.{single, joins, joins_more}
use Rattle.tickets.proofs.Closing.{closes, drawn_by_seats, all_drawn_by_seats, halt_by_seats, line_by_seats, seen_by_seats}
use Rattle.tickets.specs.Rule.{FollowsRule}
use Rattle.std.specs.Slots.{slots_items}
use Rattle.tickets.proofs.desk.Desk.close.Goals as goal
use Rattle.tickets.proofs.desk.Desk.close.Goals.{After-drop-seats}

pub loop-seat-init : goal.loop-seat-init
loop-seat-init c =
    let own = All-pop (IsSeatOf c.args.self) c.args.seats.items c.pop.new.self.items (Some c.in-Some.last) c.in-Some.ensures.items c.requires.own in
    record {
      table = own.1.table;
      bare = c.in-Some.last.bare;
      own = own.0;
      so_far = joins_more entry_of [] c.in-Some.last.inner.me.0 c.args.seats.items c.pop.new.self.items c.in-Some.last c.in-Some.ensures.items (single c.in-Some.last.inner.me.0 c.in-Some.last.one (blank 0 0 0));
    }

pub join_seat-requires : goal.join_seat-requires
join_seat-requires c =
    let desk = c.args.self in
    let two = desk.two_words in
    let own = All-pop (IsSeatOf desk) c.loop-seat.seats.items c.pop-in-loop-seat.new.self.items (Some c.in-Some-pop.seat) c.in-Some-pop.ensures.items c.loop-seat.invariant.own in
    (c.loop-seat.invariant.table, own.1.table, c.in-Some-pop.seat.bare, omega arith, joins desk.table.shared.key c.loop-seat.joined.id c.loop-seat.joined.me.0 c.in-Some-pop.seat.inner.id c.in-Some-pop.seat.inner.me.0)

pub loop-seat-preserved : goal.loop-seat-preserved
loop-seat-preserved c =
    let desk = c.args.self in
    let own = All-pop (IsSeatOf desk) c.loop-seat.seats.items c.pop-in-loop-seat.new.self.items (Some c.in-Some-pop.seat) c.in-Some-pop.ensures.items c.loop-seat.invariant.own in
    let me = c.join_seat.ensures.2 in
    record {
      table = c.join_seat.ensures.0 ∙ c.loop-seat.invariant.table;
      bare = ap (λ m. m.1) me ∙ c.loop-seat.invariant.bare;
      own = own.0;
      so_far = ap (λ m. m.0 ++ reverse (map entry_of c.pop-in-loop-seat.new.self.items)) me
          ∙ (joins_more entry_of c.loop-seat.joined.me.0 c.in-Some-pop.seat.inner.me.0 c.loop-seat.seats.items c.pop-in-loop-seat.new.self.items c.in-Some-pop.seat c.in-Some-pop.ensures.items (single c.in-Some-pop.seat.inner.me.0 c.in-Some-pop.seat.one (blank 0 0 0))
          ∙ c.loop-seat.invariant.so_far);
    }

-- the seats that came back are all in the one that is left
all_joined : (c : After-drop-seats) → c.loop-seat.joined.me.0 ≡ reverse (map entry_of c.args.seats.items)
all_joined c =
    let len : length c.loop-seat.seats.items ≡ 0 = search rules in
    let none = nil_from_length c.loop-seat.seats.items len in
    sym (append-nil c.loop-seat.joined.me.0) ∙ (ap (λ (l : List Seat). c.loop-seat.joined.me.0 ++ reverse (map entry_of l)) (sym none) ∙ c.loop-seat.invariant.so_far)

all_back : (c : After-drop-seats) → length c.args.seats.items ≡ c.args.self.size.workers
all_back c = search rules

kept : (c : After-drop-seats) → FollowsRule c.args.self.size (c.word.result ∷ c.word-2.result ∷ []) (map entry_of c.args.seats.items ∷ [])
kept c =
    let desk = c.args.self in
    closes desk.table.shared.key desk.size c.loop-seat.joined.id c.loop-seat.joined.me.0 (map entry_of c.args.seats.items) c.word.result c.word-2.result (slots_items c.close_with-closed.result.words) (slots_items c.close_with-closed.result.slots) desk.sized (all_joined c)
    c.close_with-closed.ensures.values.2 (length-map c.args.seats.items entry_of ∙ all_back c) c.word.ensures c.word-2.ensures

pub returns-clause-rule : goal.returns-clause-rule
returns-clause-rule c = kept c

pub returns-clause-drawn : goal.returns-clause-drawn
returns-clause-drawn c = drawn_by_seats entry_of c.args.self.size c.word.result c.word-2.result c.args.seats.items (kept c)

pub returns-clause-all_drawn : goal.returns-clause-all_drawn
returns-clause-all_drawn c = all_drawn_by_seats entry_of c.args.self.size c.word.result c.word-2.result c.args.seats.items (kept c) (all_back c) c.args.self.small.2

pub returns-clause-halt : goal.returns-clause-halt
returns-clause-halt c = halt_by_seats entry_of c.args.self.size c.word.result c.word-2.result c.args.seats.items (kept c)

pub returns-clause-saw : goal.returns-clause-saw
returns-clause-saw c = seen_by_seats entry_of c.args.self.size c.word.result c.word-2.result c.args.seats.items (kept c)

pub returns-clause-line : goal.returns-clause-line
returns-clause-line c = line_by_seats entry_of c.args.self.size c.word.result c.word-2.result c.args.seats.items (kept c)
