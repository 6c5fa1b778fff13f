use Rattle.std.proofs.Common.{◌≡◌, ◌∙◌, ◌<◌, ◌++◌, ◌∷◌, [], length, length-append, option_map, arith, rules}
use Rattle.std.specs.Prelude.{Ok, Err}
use Rattle.commands.proofs.CommandLemmas.{few-settled, known-stops, then-stops, then-turns, turns-by}
use Rattle.commands.specs.Commands.{StopsBy, behind, commands_of, fault_at, settled, with_front, within}
use Rattle.commands.specs.Reader.{Turns, following, rows_left}
use Rattle.commands.specs.Rows.{Rows}
use Rattle.csv.specs.Records.{fields_of}
use Rattle.requests.specs.BatchRecords.{request_at}
use Rattle.commands.proofs.reading.read_batch.Goals as goal

pub returns-in_err-total-clause-err : goal.returns-in_err-total-clause-err
returns-in_err-total-clause-err g c =
    let (numbers, further, room, count, same, read) = c.loop.invariant in
    let left = g.S.Source.left in
    let few : length c.loop.requests < c.args.head.count = omega (arith, count, c.loop-test.true) in
    let progress = within c.args.head c.loop.requests in
    let X = λ (old : Rows). settled c.args.head [] (following old c.args.records.now.read c.args.spent) in
    let a = rows_left c.args.records.now (left c.args.source.now) in
    let b = rows_left c.loop.records (left c.loop.source) in
    let at : Turns a b (λ old new. settled c.args.head [] (following old c.args.records.now.read c.args.spent) ≡ commands_of new c.loop.records.read c.loop.total progress) =
    turns-by X (λ new. settled c.args.head c.loop.requests (following new c.loop.records.read c.loop.total)) (λ new. commands_of new c.loop.records.read c.loop.total progress) a b read
    (λ new. few-settled c.args.head c.loop.requests (following new c.loop.records.read c.loop.total) few) in
    let stop : StopsBy c.in_err-total.field-0.0 (option_map (λ old. settled c.args.head [] (following old c.args.records.now.read c.args.spent)) (rows_left c.args.records.now (left c.args.source.now))) =
    then-stops X (λ new. commands_of new c.loop.records.read c.loop.total progress) b a c.in_err-total.field-0.0 at (c.in_err-total.ensures.err progress) in
    search (rules, stop)

pub returns-in-None-clause-err : goal.returns-in-None-clause-err
returns-in-None-clause-err g c =
    let (numbers, further, room, count, same, read) = c.loop.invariant in
    let left = g.S.Source.left in
    let few : length c.loop.requests < c.args.head.count = omega (arith, count, c.loop-test.true) in
    let progress = within c.args.head c.loop.requests in
    let X = λ (old : Rows). settled c.args.head [] (following old c.args.records.now.read c.args.spent) in
    let a = rows_left c.args.records.now (left c.args.source.now) in
    let b = rows_left c.loop.records (left c.loop.source) in
    let at : Turns a b (λ old new. settled c.args.head [] (following old c.args.records.now.read c.args.spent) ≡ commands_of new c.loop.records.read c.loop.total progress) =
    turns-by X (λ new. settled c.args.head c.loop.requests (following new c.loop.records.read c.loop.total)) (λ new. commands_of new c.loop.records.read c.loop.total progress) a b read
    (λ new. few-settled c.args.head c.loop.requests (following new c.loop.records.read c.loop.total) few) in
    let end = rw c.in-None.is at c.in_ok-total.ensures.end in
    let none : c.next_record.new.self.read ≡ c.loop.records.read = rw c.in-None.is at c.in_ok-total.ensures.none in
    rw none (then-stops X (λ new. commands_of new c.loop.records.read c.loop.total progress) b a _ at (known-stops (λ new. commands_of new c.loop.records.read c.loop.total progress) b _ (end progress)))

pub returns-in-Err-clause-heard : goal.returns-in-Err-clause-heard
returns-in-Err-clause-heard g c =
    let (numbers, further, room, count, same, read) = c.loop.invariant in
    let left = g.S.Source.left in
    let few : length c.loop.requests < c.args.head.count = omega (arith, count, c.loop-test.true) in
    let progress = within c.args.head c.loop.requests in
    let X = λ (old : Rows). settled c.args.head [] (following old c.args.records.now.read c.args.spent) in
    let a = rows_left c.args.records.now (left c.args.source.now) in
    let b = rows_left c.loop.records (left c.loop.source) in
    let d = rows_left c.next_record.new.self (left c.next_record.new.source) in
    let at : Turns a b (λ old new. settled c.args.head [] (following old c.args.records.now.read c.args.spent) ≡ commands_of new c.loop.records.read c.loop.total progress) =
    turns-by X (λ new. settled c.args.head c.loop.requests (following new c.loop.records.read c.loop.total)) (λ new. commands_of new c.loop.records.read c.loop.total progress) a b read
    (λ new. few-settled c.args.head c.loop.requests (following new c.loop.records.read c.loop.total) few) in
    let n = c.next_record.new.self.read in
    let f = fields_of c.next_record.new.self.fields in
    let is : request_at f ≡ Err c.in-Err.kind = search rules in
    let row = rw c.in-Some.is at c.in_ok-total.ensures.record in
    let one = rw is at (row progress) in
    then-turns X (λ new. commands_of new c.loop.records.read c.loop.total progress) b a d (λ new. with_front (fault_at n c.in-Err.kind) (following new n c.in-Some.total behind)) at one

pub loop-preserved : goal.loop-preserved
loop-preserved g c =
    let (numbers, further, room, count, same, read) = c.loop.invariant in
    let left = g.S.Source.left in
    let few : length c.loop.requests < c.args.head.count = omega (arith, count, c.loop-test.true) in
    let progress = within c.args.head c.loop.requests in
    let X = λ (old : Rows). settled c.args.head [] (following old c.args.records.now.read c.args.spent) in
    let a = rows_left c.args.records.now (left c.args.source.now) in
    let b = rows_left c.loop.records (left c.loop.source) in
    let d = rows_left c.next_record.new.self (left c.next_record.new.source) in
    let at : Turns a b (λ old new. settled c.args.head [] (following old c.args.records.now.read c.args.spent) ≡ commands_of new c.loop.records.read c.loop.total progress) =
    turns-by X (λ new. settled c.args.head c.loop.requests (following new c.loop.records.read c.loop.total)) (λ new. commands_of new c.loop.records.read c.loop.total progress) a b read
    (λ new. few-settled c.args.head c.loop.requests (following new c.loop.records.read c.loop.total) few) in
    let n = c.next_record.new.self.read in
    let f = fields_of c.next_record.new.self.fields in
    let request = c.in-Ok.request in
    let is : request_at f ≡ Ok request = search rules in
    let row = rw c.in-Some.is at c.in_ok-total.ensures.record in
    let one = rw is at (row progress) in
    let more = rw c.in-Some.is at c.in_ok-total.ensures.further in
    let most = rw c.in-Some.is at c.in_ok-total.ensures.room in
    let asked : g.S.Source.failed c.next_record.new.source ≡ g.S.Source.failed c.loop.source = search rules in
    let pushed = c.in_ok-push-in-Ok.ensures.ok in
    let long = length-append c.loop.requests (request ∷ []) in (
      c.next_record.ensures.numbers,
      omega (arith, more, further),
      most,
      rw pushed (omega (arith, long, count)),
      asked ∙ same,
      rw pushed (then-turns X (λ new. commands_of new c.loop.records.read c.loop.total progress) b a d (λ new. settled c.args.head (c.loop.requests ++ request ∷ []) (following new n c.in-Some.total)) at one),
    )
