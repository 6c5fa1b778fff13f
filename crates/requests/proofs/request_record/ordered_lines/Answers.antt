use Rattle.std.proofs.Common.{◌≡◌, ◌∙◌, ◌+◌, ◌*◌, length, rules, arith, true}
use Rattle.std.proofs.lemmas.Bool.Decides.{nat_tests}
use Rattle.csv.specs.Records.{fields_of}
use Rattle.tpcc_rows.specs.Limits.{is_between}
use Rattle.requests.proofs.LineLemmas.{then_more-all, then_more-fault, then_more-line}
use Rattle.requests.proofs.request_record.ordered_lines.Goals as goal

pub returns-in_err-ordered_line : goal.returns-in_err-ordered_line
returns-in_err-ordered_line c =
    let (count, so_far) = c.loop-number.invariant in
    let fault = then_more-fault _ c.loop-number.number c.args.count c.loop-number-test.true c.loop-number.lines.items c.in_err-ordered_line.field-0.0 c.in_err-ordered_line.ensures in
    rw (so_far ∙ fault) (search rules)

pub loop-number-preserved : goal.loop-number-preserved
loop-number-preserved c =
    let (count, so_far) = c.loop-number.invariant in
    let more = then_more-line _ c.loop-number.number c.args.count c.loop-number-test.true c.loop-number.lines.items c.in_ok-ordered_line.field-0 c.in_ok-ordered_line.ensures in
    rw c.push.ensures.items (search rules, so_far ∙ more)

pub returns : goal.returns
returns c =
    let (count, so_far) = c.loop-number.invariant in
    let all = then_more-all (fields_of c.args.fields.now) (4 + 3 * c.loop-number.number) c.loop-number.number c.args.count c.loop-number.lines.items c.loop-number-test.false in
    let right : is_between 5 15 (length c.loop-number.lines.items) ≡ true = grind (arith, nat_tests) in
    rw (so_far ∙ all, c.ok_or.ensures.value, c.new.ensures, c.as_slice.ensures.value, right)
