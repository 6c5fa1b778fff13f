use Rattle.std.proofs.Common.{◌≡◌, false, get_or, List, [], length, ap, sym, subst, ◌∙◌, arith, rules}
use Rattle.std.proofs.lemmas.List.Elements.{All-push, All-same}
use Rattle.tickets.specs.declared.seat.Seat.{Seat}
use Rattle.tickets.specs.declared.entry.Entry.{Entry}
use Rattle.tickets.specs.Entries.{blank, has_stopped}
use Rattle.tickets.specs.Rule.{IsShown}
use Rattle.tickets.specs.Seats.{entry_of}
use Rattle.tickets.proofs.Dealing.{blank_shown, opens, deals, left_at, deals_more}
use Rattle.tickets.proofs.desk.Desk.new.Goals as goal

pub of_words-requires : goal.of_words-requires
of_words-requires c = opens c.args.places c.args.workers

pub split_seat-inner-requires : goal.split_seat-inner-requires
split_seat-inner-requires c =
    let made = c.in_ok-table.ensures in
    let two = made.0 in
    (c.loop.invariant.table, omega arith, deals c.in_ok-table.table.shared.key c.loop.rest.id c.loop.rest.me.0)

pub invariant_of-push : goal.invariant_of-push
invariant_of-push c =
    let me = c.split_seat-inner.ensures.4 in
    let left = left_at c.args.places c.args.workers c.loop.counter c.args.workers c.loop.rest.me.0 c.loop.invariant.rest c.loop-test.true in
    record {
      one = ap (λ m. length m.0) me ∙ ap length left.1;
      bare = ap (λ m. m.1) me;
    }

pub loop-preserved : goal.loop-preserved
loop-preserved c =
    let me = c.split_seat-inner.ensures.4 in
    let left = left_at c.args.places c.args.workers c.loop.counter c.args.workers c.loop.rest.me.0 c.loop.invariant.rest c.loop-test.true in
    let made = c.in_ok-table.ensures in
    let first = ap (λ m. get_or m.0 0 (blank 0 0 0)) me ∙ ap (λ (l : List Entry). get_or l 0 (blank 0 0 0)) left.1 in
    let is_new = λ (s : Seat). (s.inner.table_id ≡ c.in_ok-table.table.shared.table_id) × ((entry_of s).places ≡ c.args.places) × ((entry_of s).workers ≡ c.args.workers) × IsShown (entry_of s) × (has_stopped (entry_of s) ≡ false) × ((entry_of s).drawn ≡ []) in
    record {
      table = c.split_seat-inner.ensures.0 ∙ c.loop.invariant.table;
      len = search rules;
      rest = ap (λ m. m.0) c.split_seat-inner.ensures.2 ∙ left.0;
      dealt = deals_more entry_of c.args.places c.args.workers c.loop.counter c.loop.seats.items c.push.new.self.items _ c.in_ok-push.ensures.items c.loop.invariant.dealt first;
      own = All-same is_new c.push.new.self.items _ c.in_ok-push.ensures.items
          (All-push is_new c.loop.seats.items _ c.loop.invariant.own
          (c.split_seat-inner.ensures.3 ∙ c.loop.invariant.table, ap (λ (e : Entry). e.places) first, ap (λ (e : Entry). e.workers) first, subst IsShown (sym first) (blank_shown c.args.places c.args.workers c.loop.counter c.loop-test.true), ap has_stopped first, ap (λ (e : Entry). e.drawn) first));
    }
