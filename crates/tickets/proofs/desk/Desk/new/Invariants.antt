use Rattle.std.proofs.Common.{◌≡◌, false, [], ◌-◌, vec_len, map, All}
use Rattle.tickets.specs.Entries.{blanks, has_stopped}
use Rattle.tickets.specs.Rule.{IsShown}
use Rattle.tickets.specs.Seats.{entry_of}
use Rattle.tickets.proofs.desk.Desk.new.Given as goal

abbrev pub invariant-loop : goal.invariant-loop
invariant-loop l = record {
  table : l.rest.table_id ≡ l.table.shared.table_id;
  len : vec_len l.seats ≡ l.counter;
  rest : l.rest.me.0 ≡ blanks l.fn.places l.fn.workers l.counter (l.fn.workers - l.counter);
  dealt : map entry_of l.seats.items ≡ blanks l.fn.places l.fn.workers 0 l.counter;
  own : All (λ s. (s.inner.table_id ≡ l.table.shared.table_id) × ((entry_of s).places ≡ l.fn.places) × ((entry_of s).workers ≡ l.fn.workers) × IsShown (entry_of s) × (has_stopped (entry_of s) ≡ false) × ((entry_of s).drawn ≡ [])) l.seats.items;
}
