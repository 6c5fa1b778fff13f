use Rattle.std.proofs.Common.{◌≡◌, ◌∙◌, ◌+◌, ◌-◌, ◌≤◌, ◌∷◌, [], ap, arith, false, inr, refl, rules, sym, true}
use Rattle.std.specs.Io.KnownBytes.{Consumes, IsAtEnd, Keeps}
use Rattle.commands.proofs.RowLemmas.{ends, goes, last, no-record, too-long}
use Rattle.commands.specs.Machine.{state_of}
use Rattle.commands.specs.Reader.{pulled}
use Rattle.commands.specs.Rows.{rows_from}
use Rattle.commands.specs.declared.record_reader.RecordReader.{RecordReader}
use Rattle.commands.specs.declared.record_reader.TheConstants.{MOST_BYTES}
use Rattle.csv.specs.Machine.{ends_at_end, is_end, step}
use Rattle.csv.specs.Reading.{default_config}
use Rattle.csv.specs.Records.{fields_of}
use Rattle.commands.proofs.record_reader.RecordReader.scan.Goals as goal

pub returns-then-branch-clause-row : goal.returns-then-branch-clause-row
returns-then-branch-clause-row g c =
    let (few, room, partial, begun, read, same, is) = c.bytes.invariant in
    let e = c.in_ok-end-in-Ok-None.ensures in
    let left = g.S.Source.left in
    let ended : c.in_ok-end-in-Ok-None.field-0 ≡ true = search rules in
    let stop : ends_at_end (state_of c.bytes.self.state) ≡ true = sym e.ended ∙ ended in
    let none : IsAtEnd (pulled c.bytes.self.chunk (left c.bytes.source)) = rw c.in-Ok-None.field-0-is at c.in-Ok-None.ensures.end in
    let keeps : Keeps (pulled c.bytes.self.chunk (left c.bytes.source)) (pulled c.next_byte.new.self (left c.next_byte.new.source)) = rw c.in-Ok-None.field-0-is at c.in-Ok-None.ensures.over in
    let chunk : c.end.new.self.chunk ≡ c.next_byte.new.self = ap (λ (r : RecordReader). r.chunk) e.same in
    rw chunk (last (λ bytes. rows_from (state_of c.args.self.now.state) [] [] 0 bytes) (state_of c.bytes.self.state) (fields_of c.bytes.self.fields) c.bytes.self.field.items (c.bytes.total - c.args.spent)
    (state_of c.end.new.self.state) (fields_of c.end.new.self.fields) (c.bytes.total - c.args.spent)
    (pulled c.args.self.now.chunk (left c.args.source.now)) (pulled c.bytes.self.chunk (left c.bytes.source)) (pulled c.next_byte.new.self (left c.next_byte.new.source))
    stop (e.state ended) (e.fields ended) refl is none keeps)

pub returns-in-Ok-None-clause-end : goal.returns-in-Ok-None-clause-end
returns-in-Ok-None-clause-end g c =
    let (few, room, partial, begun, read, same, is) = c.bytes.invariant in
    let e = c.in_ok-end-in-Ok-None.ensures in
    let left = g.S.Source.left in
    let ended : c.in_ok-end-in-Ok-None.field-0 ≡ false = search rules in
    let goes_on : ends_at_end (state_of c.bytes.self.state) ≡ false = sym e.ended ∙ ended in
    let none : IsAtEnd (pulled c.bytes.self.chunk (left c.bytes.source)) = rw c.in-Ok-None.field-0-is at c.in-Ok-None.ensures.end in
    no-record (λ bytes. rows_from (state_of c.args.self.now.state) [] [] 0 bytes) (state_of c.bytes.self.state) (fields_of c.bytes.self.fields) c.bytes.self.field.items (c.bytes.total - c.args.spent)
    (pulled c.args.self.now.chunk (left c.args.source.now)) (pulled c.bytes.self.chunk (left c.bytes.source)) (MOST_BYTES - c.args.spent)
    goes_on (omega (arith, few, room)) is none

pub returns-then-total-eq-MOST_BYTES-clause-err : goal.returns-then-total-eq-MOST_BYTES-clause-err
returns-then-total-eq-MOST_BYTES-clause-err g c =
    let (few, room, partial, begun, read, same, is) = c.bytes.invariant in
    let left = g.S.Source.left in
    let full = c.if-total-eq-MOST_BYTES.true in
    let took : Consumes (pulled c.bytes.self.chunk (left c.bytes.source)) (pulled c.next_byte.new.self (left c.next_byte.new.source)) (c.in-Ok-Some.byte ∷ []) = rw c.in-Ok-Some.field-0-is at c.in-Ok-Some.ensures.byte in
    let all : MOST_BYTES - c.args.spent ≤ c.bytes.total - c.args.spent = rw full (omega arith) in
    inr (inr (
      refl,
      too-long (λ bytes. rows_from (state_of c.args.self.now.state) [] [] 0 bytes) (state_of c.bytes.self.state) (fields_of c.bytes.self.fields) c.bytes.self.field.items (c.bytes.total - c.args.spent)
          (pulled c.args.self.now.chunk (left c.args.source.now)) (pulled c.bytes.self.chunk (left c.bytes.source)) (pulled c.next_byte.new.self (left c.next_byte.new.source))
          c.in-Ok-Some.byte (MOST_BYTES - c.args.spent) all is took,
    ))

pub returns-then-branch-2-clause-row : goal.returns-then-branch-2-clause-row
returns-then-branch-2-clause-row g c =
    let (few, room, partial, begun, read, same, is) = c.bytes.invariant in
    let e = c.in_ok-take.ensures in
    let left = g.S.Source.left in
    let ended : c.in_ok-take.field-0 ≡ true = search rules in
    let stop : is_end (step default_config (state_of c.bytes.self.state) c.in-Ok-Some.byte).1 ≡ true = sym e.ended ∙ ended in
    let took : Consumes (pulled c.bytes.self.chunk (left c.bytes.source)) (pulled c.next_byte.new.self (left c.next_byte.new.source)) (c.in-Ok-Some.byte ∷ []) = rw c.in-Ok-Some.field-0-is at c.in-Ok-Some.ensures.byte in
    let chunk : c.take.new.self.chunk ≡ c.next_byte.new.self = ap (λ (r : RecordReader). r.chunk) e.same in
    let more : (c.bytes.total + 1) - c.args.spent ≡ (c.bytes.total - c.args.spent) + 1 = omega (arith, few) in
    rw chunk (ends (λ bytes. rows_from (state_of c.args.self.now.state) [] [] 0 bytes) (state_of c.bytes.self.state) (fields_of c.bytes.self.fields) c.bytes.self.field.items (c.bytes.total - c.args.spent)
    c.in-Ok-Some.byte (state_of c.take.new.self.state) (fields_of c.take.new.self.fields) ((c.bytes.total + 1) - c.args.spent) e.state more e.fields
    (pulled c.args.self.now.chunk (left c.args.source.now)) (pulled c.bytes.self.chunk (left c.bytes.source)) (pulled c.next_byte.new.self (left c.next_byte.new.source))
    stop is took)

pub bytes-preserved : goal.bytes-preserved
bytes-preserved g c =
    let (few, room, partial, begun, read, same, is) = c.bytes.invariant in
    let e = c.in_ok-take.ensures in
    let left = g.S.Source.left in
    let ended : c.in_ok-take.field-0 ≡ false = search rules in
    let on : is_end (step default_config (state_of c.bytes.self.state) c.in-Ok-Some.byte).1 ≡ false = sym e.ended ∙ ended in
    let took : Consumes (pulled c.bytes.self.chunk (left c.bytes.source)) (pulled c.next_byte.new.self (left c.next_byte.new.source)) (c.in-Ok-Some.byte ∷ []) = rw c.in-Ok-Some.field-0-is at c.in-Ok-Some.ensures.byte in
    let chunk : c.take.new.self.chunk ≡ c.next_byte.new.self = ap (λ (r : RecordReader). r.chunk) e.same in
    let more : (c.bytes.total + 1) - c.args.spent ≡ (c.bytes.total - c.args.spent) + 1 = omega (arith, few) in
    let free = c.if-total-eq-MOST_BYTES.false in
    let count : g.S.Source.failed c.next_byte.new.source ≡ g.S.Source.failed c.bytes.source = search rules in (
      omega (arith, few),
      grind arith,
      e.partial,
      ap (λ (r : RecordReader). r.has_begun) e.same ∙ begun,
      ap (λ (r : RecordReader). r.read) e.same ∙ read,
      count ∙ same,
      rw chunk (goes (λ bytes. rows_from (state_of c.args.self.now.state) [] [] 0 bytes) (state_of c.bytes.self.state) (fields_of c.bytes.self.fields) c.bytes.self.field.items (c.bytes.total - c.args.spent)
          c.in-Ok-Some.byte (state_of c.take.new.self.state) (fields_of c.take.new.self.fields) ((c.bytes.total + 1) - c.args.spent) e.state more e.fields c.take.new.self.field.items
          (pulled c.args.self.now.chunk (left c.args.source.now)) (pulled c.bytes.self.chunk (left c.bytes.source)) (pulled c.next_byte.new.self (left c.next_byte.new.source))
          on e.field is took),
    )
