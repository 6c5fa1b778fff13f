use Rattle.std.proofs.Common.{rules, ◌≡◌, ◌+◌, sym}
use Rattle.std.proofs.Common.{true}
use Rattle.records.specs.Fields.{is_numeral}
use Rattle.records.proofs.FieldLemmas.{number_in-above, value_more}
use Rattle.records.proofs.fields.number.Goals as goal

pub returns-then-number-high-clause-value : goal.returns-then-number-high-clause-value
returns-then-number-high-clause-value c =
    let numeral : is_numeral c.args.field.now ≡ true = search rules in
    let more = value_more c.args.field.now c.loop-byte.byte-index c.loop-byte.number numeral (search rules) c.loop-byte.invariant.1 in
    sym (number_in-above c.args.low c.args.high _ (c.loop-byte.byte-index + 1) c.args.field.now numeral more (rw c.from.ensures at c.if-number-high.true))

pub loop-byte-preserved : goal.loop-byte-preserved
loop-byte-preserved c =
    let numeral : is_numeral c.args.field.now ≡ true = search rules in
    let more = value_more c.args.field.now c.loop-byte.byte-index c.loop-byte.number numeral (search rules) c.loop-byte.invariant.1 in
    (c.if-number-high.false, rw c.from.ensures more)
