use Rattle.std.proofs.Common.{◌≡◌, ◌∙◌, None, arith, false, rules, true}
use Rattle.commands.proofs.CommandLemmas.{ended-gap, then-known, then-stops, then-turns, told-between, told-named, told-passed, turns-by}
use Rattle.commands.specs.CommandRecords.{names_command, opening_at}
use Rattle.commands.specs.Commands.{StopsBy, begun, commands_of, told}
use Rattle.commands.specs.Reader.{following, gap, hearing_of, rows_left}
use Rattle.csv.specs.Records.{fields_of}
use Rattle.commands.proofs.reading.next_opening.Goals as goal

pub returns-in_err-total-clause-err : goal.returns-in_err-total-clause-err
returns-in_err-total-clause-err g c =
    let (room, further, same, passed) = c.passing.invariant in
    let left = g.S.Source.left in
    let progress = gap c.args.is_behind in
    let stop : StopsBy c.in_err-total.field-0.0 (hearing_of (rows_left c.args.records.now (left c.args.source.now)) c.args.records.now.read 0 progress) =
    then-stops (λ old. commands_of old c.args.records.now.read 0 progress) (λ old. commands_of old c.passing.records.read 0 progress) (rows_left c.passing.records (left c.passing.source))
    (rows_left c.args.records.now (left c.args.source.now)) c.in_err-total.field-0.0 passed (c.in_err-total.ensures.err progress) in
    search (rules, stop)

pub returns-in_default-clause-end : goal.returns-in_default-clause-end
returns-in_default-clause-end g c =
    let (room, further, same, passed) = c.passing.invariant in
    let left = g.S.Source.left in
    let progress = gap c.args.is_behind in
    let none : c.in_ok-total.field-0 ≡ None = search rules in
    let all = rw none at c.in_ok-total.ensures.end in
    let end = rw (ended-gap c.passing.records.read c.args.is_behind) at (all progress) in
    then-known (λ old. commands_of old c.args.records.now.read 0 progress) (λ old. commands_of old c.passing.records.read 0 progress) (rows_left c.passing.records (left c.passing.source))
    (rows_left c.args.records.now (left c.args.source.now)) _ passed end

pub returns-then-not-is_behind-clause-opening : goal.returns-then-not-is_behind-clause-opening
returns-then-not-is_behind-clause-opening g c =
    let (room, further, same, passed) = c.passing.invariant in
    let left = g.S.Source.left in
    let progress = gap c.args.is_behind in
    let plain : c.args.is_behind ≡ false = search rules in
    let row = rw c.in-Some.is at c.in_ok-total.ensures.record in
    let f = fields_of c.next_record.new.self.fields in
    let n = c.next_record.new.self.read in
    turns-by (λ old. commands_of old c.args.records.now.read 0 progress) (λ new. told n progress f (following new n c.in-Some.total)) (λ new. begun n (opening_at f) (following new n c.in-Some.total))
    (rows_left c.args.records.now (left c.args.source.now)) (rows_left c.next_record.new.self (left c.next_record.new.source))
    (then-turns (λ old. commands_of old c.args.records.now.read 0 progress) (λ old. commands_of old c.passing.records.read 0 progress) (rows_left c.passing.records (left c.passing.source))
    (rows_left c.args.records.now (left c.args.source.now)) (rows_left c.next_record.new.self (left c.next_record.new.source)) (λ new. told n progress f (following new n c.in-Some.total)) passed (row progress))
    (λ new. told-between n f c.args.is_behind (following new n c.in-Some.total) plain)

pub returns-then-names_command-clause-opening : goal.returns-then-names_command-clause-opening
returns-then-names_command-clause-opening g c =
    let (room, further, same, passed) = c.passing.invariant in
    let left = g.S.Source.left in
    let progress = gap c.args.is_behind in
    let named : names_command (fields_of c.next_record.new.self.fields) ≡ true = search rules in
    let row = rw c.in-Some.is at c.in_ok-total.ensures.record in
    let f = fields_of c.next_record.new.self.fields in
    let n = c.next_record.new.self.read in
    turns-by (λ old. commands_of old c.args.records.now.read 0 progress) (λ new. told n progress f (following new n c.in-Some.total)) (λ new. begun n (opening_at f) (following new n c.in-Some.total))
    (rows_left c.args.records.now (left c.args.source.now)) (rows_left c.next_record.new.self (left c.next_record.new.source))
    (then-turns (λ old. commands_of old c.args.records.now.read 0 progress) (λ old. commands_of old c.passing.records.read 0 progress) (rows_left c.passing.records (left c.passing.source))
    (rows_left c.args.records.now (left c.args.source.now)) (rows_left c.next_record.new.self (left c.next_record.new.source)) (λ new. told n progress f (following new n c.in-Some.total)) passed (row progress))
    (λ new. told-named n f c.args.is_behind (following new n c.in-Some.total) named)

pub passing-preserved : goal.passing-preserved
passing-preserved g c =
    let (room, further, same, passed) = c.passing.invariant in
    let left = g.S.Source.left in
    let progress = gap c.args.is_behind in
    let behind : c.args.is_behind ≡ true = search rules in
    let other : names_command (fields_of c.next_record.new.self.fields) ≡ false = search rules in
    let row = rw c.in-Some.is at c.in_ok-total.ensures.record in
    let one = rw c.in-Some.is at c.in_ok-total.ensures.further in
    let f = fields_of c.next_record.new.self.fields in
    let n = c.next_record.new.self.read in
    let asked : g.S.Source.failed c.next_record.new.source ≡ g.S.Source.failed c.passing.source = search rules in (
      c.next_record.ensures.numbers,
      omega (arith, one, further),
      asked ∙ same,
      turns-by (λ old. commands_of old c.args.records.now.read 0 progress) (λ new. told n progress f (following new n c.in-Some.total)) (λ new. commands_of new n 0 progress)
          (rows_left c.args.records.now (left c.args.source.now)) (rows_left c.next_record.new.self (left c.next_record.new.source))
          (then-turns (λ old. commands_of old c.args.records.now.read 0 progress) (λ old. commands_of old c.passing.records.read 0 progress) (rows_left c.passing.records (left c.passing.source))
          (rows_left c.args.records.now (left c.args.source.now)) (rows_left c.next_record.new.self (left c.next_record.new.source)) (λ new. told n progress f (following new n c.in-Some.total)) passed (row progress))
          (λ new. told-passed n f c.args.is_behind new n c.in-Some.total behind other),
    )
