use Rattle.std.proofs.Common.{◌≡◌, ◌∙◌, subst, sym}
use Rattle.std.specs.Io.KnownBytes.{Appends}
use Rattle.records.specs.Io.{AppendsFront}
use Rattle.runner.specs.CheckTexts.{check_text}
use Rattle.runner.proofs.RunLemmas.{then_kept}
use Rattle.runner.proofs.SourcedRuns.{checks_told, leaves_told, memory_told, unchecked_told}
use Rattle.runner.proofs.WholeLemmas.{appends_front, where_failed, where_fine}
use Rattle.runner.proofs.check.check_text.Goals as goal

pub returns-in-Err-clause-err : goal.returns-in-Err-clause-err
returns-in-Err-clause-err g c = unchecked_told (g.I.TellingSource.left c.args.image.now) (g.I.TellingSource.given c.args.image.now) (g.I.TellingSource.given c.load_told.new.image) c.in-Err.fault (g.S.Sink.taken c.args.sink.now) c.in-Err.ensures.err

pub returns-then-is_err-clause-err : goal.returns-then-is_err-clause-err
returns-then-is_err-clause-err g c =
    let executor = c.in-Ok.executor in
    let line : c.as_slice.result.now ≡ check_text executor.cards executor.present = c.as_slice.ensures.value ∙ c.in-Ok-line_of.ensures in
    let front : AppendsFront (g.S.Sink.taken c.args.sink.now) (g.S.Sink.taken c.push_all.new.sink) c.as_slice.result.now = where_failed c.push_all.result c.push_all.ensures.err (sym c.is_err.ensures.value ∙ c.if-is_err.true) in
    leaves_told (g.I.TellingSource.left c.args.image.now) (g.I.TellingSource.given c.args.image.now) (g.I.TellingSource.given c.load_told.new.image) executor _ _
    (subst (AppendsFront (g.S.Sink.taken c.args.sink.now) (g.S.Sink.taken c.push_all.new.sink)) line front) c.in-Ok.ensures.ok

pub returns-then-is_err-2-clause-err : goal.returns-then-is_err-2-clause-err
returns-then-is_err-2-clause-err g c =
    let executor = c.in-Ok.executor in
    let line : c.as_slice.result.now ≡ check_text executor.cards executor.present = c.as_slice.ensures.value ∙ c.in-Ok-line_of.ensures in
    let written : Appends (g.S.Sink.taken c.args.sink.now) (g.S.Sink.taken c.push_all.new.sink) c.as_slice.result.now = where_fine c.push_all.result c.push_all.ensures.ok (sym c.is_err.ensures.value ∙ c.if-is_err.false) in
    leaves_told (g.I.TellingSource.left c.args.image.now) (g.I.TellingSource.given c.args.image.now) (g.I.TellingSource.given c.load_told.new.image) executor _ _
    (appends_front _ _ _ (check_text executor.cards executor.present) (subst (Appends (g.S.Sink.taken c.args.sink.now) (g.S.Sink.taken c.push_all.new.sink)) line written) c.flush.ensures.bytes) c.in-Ok.ensures.ok

pub returns-clause-ok : goal.returns-clause-ok
returns-clause-ok g c =
    let executor = c.in-Ok.executor in
    let line : c.as_slice.result.now ≡ check_text executor.cards executor.present = c.as_slice.ensures.value ∙ c.in-Ok-line_of.ensures in
    let pushed : Appends (g.S.Sink.taken c.args.sink.now) (g.S.Sink.taken c.push_all.new.sink) c.as_slice.result.now = where_fine c.push_all.result c.push_all.ensures.ok (sym c.is_err.ensures.value ∙ c.if-is_err.false) in
    let written = then_kept (g.S.Sink.taken c.args.sink.now) (g.S.Sink.taken c.push_all.new.sink) (g.S.Sink.taken c.flush.new.self) c.as_slice.result.now pushed c.flush.ensures.bytes in
    checks_told (g.I.TellingSource.left c.args.image.now) (g.I.TellingSource.given c.args.image.now) (g.I.TellingSource.given c.load_told.new.image) executor _ _
    (subst (Appends (g.S.Sink.taken c.args.sink.now) (g.S.Sink.taken c.flush.new.self)) line written) c.in-Ok.ensures.ok

pub returns-in_default-clause-err : goal.returns-in_default-clause-err
returns-in_default-clause-err g c = memory_told (g.I.TellingSource.left c.args.image.now) (g.I.TellingSource.given c.args.image.now) (g.I.TellingSource.given c.load_told.new.image) c.in-Ok.executor (g.S.Sink.taken c.args.sink.now) c.in-Ok.ensures.ok
