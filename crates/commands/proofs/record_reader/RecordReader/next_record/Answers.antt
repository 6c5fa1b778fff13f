use Rattle.std.proofs.Common.{◌≡◌, ◌∙◌, ◌+◌, ◌≤◌, [], arith, rules, sym, true, None}
use Rattle.std.specs.Io.KnownBytes.{Keeps}
use Rattle.csv.proofs.ReadFacts.{on-ok}
use Rattle.commands.proofs.CommandLemmas.{ends-scan, late-scan, stops-scan, told-scan}
use Rattle.commands.specs.Commands.{Progress, StopsBy}
use Rattle.commands.specs.Machine.{state_of}
use Rattle.commands.specs.Reader.{bytes_left, hearing_of, pulled, rows_left, rows_pulled}
use Rattle.commands.specs.Rows.{rows_from}
use Rattle.commands.specs.declared.record_reader.TheConstants.{LAST_RECORD, MOST_BYTES}
use Rattle.csv.specs.Records.{fields_of}
use Rattle.commands.proofs.record_reader.RecordReader.next_record.Goals as goal

pub returns-in_err-total-clause-err : goal.returns-in_err-total-clause-err
returns-in_err-total-clause-err g c =
    let left = g.S.Source.left in
    let keeps : Keeps (bytes_left c.args.self.now (left c.args.source.now)) (pulled c.begin.new.self.chunk (left c.begin.new.source)) = on-ok c.begin.result (sym c.is_err.ensures.value ∙ c.if-is_err.false) c.begin.ensures.keeps in
    let why = rw c.begin.ensures.state at c.in_err-total.ensures.err in
    let stop : (progress : Progress) → StopsBy c.in_err-total.field-0.0 (hearing_of (rows_left c.args.self.now (left c.args.source.now)) c.args.self.now.read c.args.spent progress) =
    λ progress. stops-scan (λ bytes. rows_from (state_of c.args.self.now.state) [] [] 0 bytes) (bytes_left c.args.self.now (left c.args.source.now)) (pulled c.begin.new.self.chunk (left c.begin.new.source)) keeps
    c.args.self.now.read c.args.spent c.requires.room progress c.in_err-total.field-0.0 why in
    search (rules, stop)

pub returns-in_default-clause-end : goal.returns-in_default-clause-end
returns-in_default-clause-end g c =
    let left = g.S.Source.left in
    let keeps : Keeps (bytes_left c.args.self.now (left c.args.source.now)) (pulled c.begin.new.self.chunk (left c.begin.new.source)) = on-ok c.begin.result (sym c.is_err.ensures.value ∙ c.if-is_err.false) c.begin.ensures.keeps in
    let none : c.in_ok-total.field-0 ≡ None = search rules in
    let end = rw (none, c.begin.ensures.state) at c.in_ok-total.ensures.end in
    λ progress. ends-scan (λ bytes. rows_from (state_of c.args.self.now.state) [] [] 0 bytes) (bytes_left c.args.self.now (left c.args.source.now)) (pulled c.begin.new.self.chunk (left c.begin.new.source)) keeps
    c.args.self.now.read c.args.spent c.requires.room progress end

pub returns-then-self-eq-LAST_RECORD-clause-err : goal.returns-then-self-eq-LAST_RECORD-clause-err
returns-then-self-eq-LAST_RECORD-clause-err g c =
    let left = g.S.Source.left in
    let keeps : Keeps (bytes_left c.args.self.now (left c.args.source.now)) (pulled c.begin.new.self.chunk (left c.begin.new.source)) = on-ok c.begin.result (sym c.is_err.ensures.value ∙ c.if-is_err.false) c.begin.ensures.keeps in
    let row = rw (c.in-Some.is, c.begin.ensures.state) at c.in_ok-total.ensures.row in
    let more : (c.args.spent ≤ c.in-Some.total) × (c.in-Some.total ≤ MOST_BYTES) = rw c.in-Some.is at c.in_ok-total.ensures.more in
    let same : c.scan.new.self.read ≡ c.args.self.now.read = c.scan.ensures.read ∙ c.begin.ensures.read in
    let late : c.args.self.now.read ≡ LAST_RECORD = sym same ∙ c.if-self-eq-LAST_RECORD.true in
    λ progress. late-scan (λ bytes. rows_from (state_of c.args.self.now.state) [] [] 0 bytes) (bytes_left c.args.self.now (left c.args.source.now)) (pulled c.begin.new.self.chunk (left c.begin.new.source)) keeps
    c.args.self.now.read c.args.spent c.requires.room progress (rows_pulled c.scan.new.self (left c.scan.new.source)) (fields_of c.scan.new.self.fields) c.in-Some.total row more.0 more.1 late

pub returns-clause-record : goal.returns-clause-record
returns-clause-record g c =
    let left = g.S.Source.left in
    let fine = sym c.is_err.ensures.value ∙ c.if-is_err.false in
    let keeps : Keeps (bytes_left c.args.self.now (left c.args.source.now)) (pulled c.begin.new.self.chunk (left c.begin.new.source)) = on-ok c.begin.result fine c.begin.ensures.keeps in
    let row = rw (c.in-Some.is, c.begin.ensures.state) at c.in_ok-total.ensures.row in
    let more : (c.args.spent ≤ c.in-Some.total) × (c.in-Some.total ≤ MOST_BYTES) = rw c.in-Some.is at c.in_ok-total.ensures.more in
    let same : c.scan.new.self.read ≡ c.args.self.now.read = c.scan.ensures.read ∙ c.begin.ensures.read in
    let begun : c.scan.new.self.has_begun ≡ true = c.scan.ensures.begun ∙ on-ok c.begin.result fine c.begin.ensures.begun in
    let numbers = c.requires.numbers in
    let other = c.if-self-eq-LAST_RECORD.false in
    let early : c.args.self.now.read + 1 ≤ LAST_RECORD = grind arith in
    λ progress. rw (begun, same) (told-scan (λ bytes. rows_from (state_of c.args.self.now.state) [] [] 0 bytes) (bytes_left c.args.self.now (left c.args.source.now)) (pulled c.begin.new.self.chunk (left c.begin.new.source)) keeps
    c.args.self.now.read c.args.spent c.requires.room progress (rows_pulled c.scan.new.self (left c.scan.new.source)) (fields_of c.scan.new.self.fields) c.in-Some.total row more.0 more.1 early)
