use Rattle.std.proofs.Common.{◌∙◌, subst, sym}
use Rattle.records.specs.Io.{AppendsFront}
use Rattle.runner.proofs.WholeLemmas.{where_failed}
use Rattle.session.proofs.serving.respond.Goals as goal

pub returns-then-is_err-clause-err : goal.returns-then-is_err-clause-err
returns-then-is_err-clause-err g c =
    let front : AppendsFront (g.S.Sink.taken c.args.sink.now) (g.S.Sink.taken c.send.new.sink) c.as_slice.result.now = where_failed c.send.result c.send.ensures.err (sym c.is_err.ensures.value ∙ c.if-is_err.true) in
    (c.answer.new.executor, c.in-Ok.text.items, c.in-Ok.ensures.text, c.answer.ensures.sound, subst (AppendsFront (g.S.Sink.taken c.args.sink.now) (g.S.Sink.taken c.send.new.sink)) c.as_slice.ensures.value front)
