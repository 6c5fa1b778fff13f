use Rattle.std.proofs.Common.{rules, ◌++◌, ◌∷◌, []}
use Rattle.commands.specs.Commands.{Gives, IsOver, StopsBy}
use Rattle.commands.specs.Reader.{heard_from}
use Rattle.records.proofs.IoLemmas.{appends_twice}
use Rattle.session.proofs.NumberLemmas.{numbered-after}
use Rattle.session.proofs.SessionLemmas.{answers-more, given-more, served, unanswered, unread}
use Rattle.session.proofs.serving.serve_commands.Goals as goal

pub returns-in-Ok-None-clause-ok : goal.returns-in-Ok-None-clause-ok
returns-in-Ok-None-clause-ok g c =
    let (same, asked, numbered, sound, room, going, done, text, given, answered, written) = c.commands.invariant in
    let over : IsOver (heard_from c.commands.reader (g.C.Source.left c.commands.input)) = search rules in
    served c.args.executor.now c.commands.executor done text (g.S.Sink.taken c.args.sink.now) (g.S.Sink.taken c.commands.sink) c.requires.alone c.requires.sound answered written (heard_from c.args.reader.now (g.C.Source.left c.args.input.now)) (heard_from c.commands.reader (g.C.Source.left c.commands.input)) given over

pub returns-in-Err-clause-err : goal.returns-in-Err-clause-err
returns-in-Err-clause-err g c =
    let (same, asked, numbered, sound, room, going, done, text, given, answered, written) = c.commands.invariant in
    let stops : StopsBy c.in-Err.error (heard_from c.commands.reader (g.C.Source.left c.commands.input)) = search rules in
    unread c.args.executor.now c.commands.executor done text (g.S.Sink.taken c.args.sink.now) (g.S.Sink.taken c.commands.sink) c.requires.alone c.requires.sound answered written c.in-Err.error (heard_from c.args.reader.now (g.C.Source.left c.args.input.now)) (heard_from c.commands.reader (g.C.Source.left c.commands.input)) given stops

pub returns-in-Err-respond-clause-err : goal.returns-in-Err-respond-clause-err
returns-in-Err-respond-clause-err g c =
    let (same, asked, numbered, sound, room, going, done, text, given, answered, written) = c.commands.invariant in
    let gives : Gives c.in-Ok-Some.heard (heard_from c.commands.reader (g.C.Source.left c.commands.input)) (heard_from c.next_heard.new.self (g.C.Source.left c.next_heard.new.source)) = search rules in
    unanswered c.args.executor.now c.commands.executor done text (g.S.Sink.taken c.args.sink.now) (g.S.Sink.taken c.commands.sink) c.requires.alone c.requires.sound answered written
    c.in-Err-respond.fault c.in-Ok-Some.heard (g.S.Sink.taken c.respond.new.sink) (heard_from c.args.reader.now (g.C.Source.left c.args.input.now)) (heard_from c.commands.reader (g.C.Source.left c.commands.input)) (heard_from c.next_heard.new.self (g.C.Source.left c.next_heard.new.source)) given gives c.in-Err-respond.ensures.err

pub commands-preserved-in_default : goal.commands-preserved-in_default
commands-preserved-in_default g c =
    let (same, asked, numbered, sound, room, going, done, text, given, answered, written) = c.commands.invariant in
    let heard = c.in-Ok-Some.heard in
    let (more, one, still, took) = c.in_default.ensures.ok in
    let gives : Gives heard (heard_from c.commands.reader (g.C.Source.left c.commands.input)) (heard_from c.next_heard.new.self (g.C.Source.left c.next_heard.new.source)) = search rules in (
      search rules,
      search rules,
      numbered-after heard c.commands.executor c.respond.new.executor more numbered one,
      still,
      c.next_heard.ensures.within,
      search rules,
      done ++ heard ∷ [],
      text ++ more,
      given-more (heard_from c.args.reader.now (g.C.Source.left c.args.input.now)) (heard_from c.commands.reader (g.C.Source.left c.commands.input)) (heard_from c.next_heard.new.self (g.C.Source.left c.next_heard.new.source)) done heard given gives,
      answers-more done heard c.args.executor.now c.commands.executor c.respond.new.executor text more answered one still,
      appends_twice (g.S.Sink.taken c.args.sink.now) (g.S.Sink.taken c.commands.sink) (g.S.Sink.taken c.respond.new.sink) text more written took,
    )

pub commands-preserved-in_default-2 : goal.commands-preserved-in_default-2
commands-preserved-in_default-2 g c =
    let (same, asked, numbered, sound, room, going, done, text, given, answered, written) = c.commands.invariant in
    let heard = c.in-Ok-Some.heard in
    let (more, one, still, took) = c.in_default.ensures.ok in
    let gives : Gives heard (heard_from c.commands.reader (g.C.Source.left c.commands.input)) (heard_from c.next_heard.new.self (g.C.Source.left c.next_heard.new.source)) = search rules in (
      search rules,
      search rules,
      numbered-after heard c.commands.executor c.respond.new.executor more numbered one,
      still,
      c.next_heard.ensures.within,
      search rules,
      done ++ heard ∷ [],
      text ++ more,
      given-more (heard_from c.args.reader.now (g.C.Source.left c.args.input.now)) (heard_from c.commands.reader (g.C.Source.left c.commands.input)) (heard_from c.next_heard.new.self (g.C.Source.left c.next_heard.new.source)) done heard given gives,
      answers-more done heard c.args.executor.now c.commands.executor c.respond.new.executor text more answered one still,
      appends_twice (g.S.Sink.taken c.args.sink.now) (g.S.Sink.taken c.commands.sink) (g.S.Sink.taken c.respond.new.sink) text more written took,
    )

pub commands-preserved : goal.commands-preserved
commands-preserved g c =
    let (same, asked, numbered, sound, room, going, done, text, given, answered, written) = c.commands.invariant in
    let heard = c.in-Ok-Some.heard in
    let (more, one, still, took) = c.in_default.ensures.ok in
    let gives : Gives heard (heard_from c.commands.reader (g.C.Source.left c.commands.input)) (heard_from c.next_heard.new.self (g.C.Source.left c.next_heard.new.source)) = search rules in (
      search rules,
      search rules,
      numbered-after heard c.commands.executor c.respond.new.executor more numbered one,
      still,
      c.next_heard.ensures.within,
      search rules,
      done ++ heard ∷ [],
      text ++ more,
      given-more (heard_from c.args.reader.now (g.C.Source.left c.args.input.now)) (heard_from c.commands.reader (g.C.Source.left c.commands.input)) (heard_from c.next_heard.new.self (g.C.Source.left c.next_heard.new.source)) done heard given gives,
      answers-more done heard c.args.executor.now c.commands.executor c.respond.new.executor text more answered one still,
      appends_twice (g.S.Sink.taken c.args.sink.now) (g.S.Sink.taken c.commands.sink) (g.S.Sink.taken c.respond.new.sink) text more written took,
    )
