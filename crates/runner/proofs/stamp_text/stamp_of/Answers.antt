use Rattle.std.proofs.Common.{◌≡◌, ◌∙◌, Some, ap, rules, sym}
use Rattle.std.proofs.lemmas.Option.{none-some}
use Rattle.runner.specs.StampText.{stamp_word}
use Rattle.runner.proofs.StampLemmas.{first-none, first-some, parts-same, same-stamp, second-none, second-some}
use Rattle.runner.proofs.stamp_text.stamp_of.Goals as goal

pub returns-in_default-clause-each : goal.returns-in_default-clause-each
returns-in_default-clause-each c = λ stamp tells. absurd (first-none c.args.word.now stamp c.split_once.result c.split_once.ensures.cases tells c.in_default.is)

pub returns-in_default-split_once-clause-each : goal.returns-in_default-split_once-clause-each
returns-in_default-split_once-clause-each c = λ stamp tells.
    let first = first-some c.args.word.now stamp c.split_once.result (c.in-Some.sequence, c.in-Some.rest) c.split_once.ensures.cases tells c.in-Some.is in
    absurd (second-none c.args.word.now c.in-Some.rest.now stamp c.split_once-2.result c.split_once-2.ensures.cases tells first.1 c.in_default-split_once.is)

pub returns-in_default-stamp_of_parts-clause-each : goal.returns-in_default-stamp_of_parts-clause-each
returns-in_default-stamp_of_parts-clause-each c = λ stamp tells.
    let first = first-some c.args.word.now stamp c.split_once.result (c.in-Some.sequence, c.in-Some.rest) c.split_once.ensures.cases tells c.in-Some.is in
    let second = second-some c.args.word.now c.in-Some.rest.now stamp c.split_once-2.result (c.in-Some-split_once.next, c.in-Some-split_once.token) c.split_once-2.ensures.cases tells first.1 c.in-Some-split_once.is in
    let read = parts-same c.args.word.now stamp c.as_bytes.result.now c.as_bytes-2.result.now c.as_bytes-3.result.now tells
    (c.as_bytes.ensures.value ∙ first.0) (c.as_bytes-2.ensures.value ∙ second.0) (c.as_bytes-3.ensures.value ∙ second.1) in
    absurd (none-some stamp (sym c.in_default-stamp_of_parts.is ∙ c.stamp_of_parts.ensures.read stamp read))

pub returns-then-eq-clause-each : goal.returns-then-eq-clause-each
returns-then-eq-clause-each c = λ stamp tells.
    let first = first-some c.args.word.now stamp c.split_once.result (c.in-Some.sequence, c.in-Some.rest) c.split_once.ensures.cases tells c.in-Some.is in
    let second = second-some c.args.word.now c.in-Some.rest.now stamp c.split_once-2.result (c.in-Some-split_once.next, c.in-Some-split_once.token) c.split_once-2.ensures.cases tells first.1 c.in-Some-split_once.is in
    let read = parts-same c.args.word.now stamp c.as_bytes.result.now c.as_bytes-2.result.now c.as_bytes-3.result.now tells
    (c.as_bytes.ensures.value ∙ first.0) (c.as_bytes-2.ensures.value ∙ second.0) (c.as_bytes-3.ensures.value ∙ second.1) in
    sym c.in-Some-stamp_of_parts.is ∙ c.stamp_of_parts.ensures.read stamp read

pub returns-else-eq-clause-each : goal.returns-else-eq-clause-each
returns-else-eq-clause-each c = λ stamp tells.
    let first = first-some c.args.word.now stamp c.split_once.result (c.in-Some.sequence, c.in-Some.rest) c.split_once.ensures.cases tells c.in-Some.is in
    let second = second-some c.args.word.now c.in-Some.rest.now stamp c.split_once-2.result (c.in-Some-split_once.next, c.in-Some-split_once.token) c.split_once-2.ensures.cases tells first.1 c.in-Some-split_once.is in
    let read = parts-same c.args.word.now stamp c.as_bytes.result.now c.as_bytes-2.result.now c.as_bytes-3.result.now tells
    (c.as_bytes.ensures.value ∙ first.0) (c.as_bytes-2.ensures.value ∙ second.0) (c.as_bytes-3.ensures.value ∙ second.1) in
    let found : Some c.in-Some-stamp_of_parts.stamp ≡ Some stamp = sym c.in-Some-stamp_of_parts.is ∙ c.stamp_of_parts.ensures.read stamp read in
    let word : c.word_of.result ≡ c.args.word.now = c.word_of.ensures ∙ ap stamp_word (same-stamp c.in-Some-stamp_of_parts.stamp stamp found) ∙ sym tells.2 in
    let equal : c.as_slice.result.now ≡ c.as_bytes-4.result.now = c.as_slice.ensures.value ∙ word ∙ sym c.as_bytes-4.ensures.value in
    absurd (search (rules, equal))
