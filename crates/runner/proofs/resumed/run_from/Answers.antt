use Rattle.std.proofs.Common.{◌≡◌, ◌+◌, arith, subst, true, IfErr, IfOk, OnOk, if◌then◌else◌}
use Rattle.std.proofs.lemmas.Result.{on_ok_weaker}
use Rattle.runner.proofs.ResumedLemmas.{left_resumed, ran_resumed, unopened_resumed}
use Rattle.runner.proofs.WholeLemmas.{counted_none}
use Rattle.runner.specs.Openings.{IsOpened, IsUnopened}
use Rattle.runner.specs.WholeRuns.{is_image_read}
use Rattle.runner.proofs.resumed.run_from.Goals as goal
use Rattle.telling.specs.Told.{OfSource}

pub returns-in-Ok-clause-ok : goal.returns-in-Ok-clause-ok
returns-in-Ok-clause-ok g c =
    let images = g.I.TellingSource.left c.args.image.now in
    let images_before = g.I.TellingSource.given c.args.image.now in
    let images_after = g.I.TellingSource.given c.load_told-loaded.new.image in
    ran_resumed images images_before images_after (g.B.TellingSource.left c.args.batches.now) (g.B.TellingSource.given c.args.batches.now) (g.B.TellingSource.given c.go_on.new.batches)
    c.go_on.result.ran c.in-Ok.executor c.args.from (g.S.Sink.taken c.args.sink.now) (g.S.Sink.taken c.go_on.new.sink) c.go_on.result.at
    (subst (λ r. IfOk r (λ chain. OfSource images images_before images_after (λ bytes. IsOpened bytes chain))) c.in-Ok.is c.load_told-loaded.ensures.ok) c.go_on.ensures.ok

pub returns-in-Ok-clause-err : goal.returns-in-Ok-clause-err
returns-in-Ok-clause-err g c =
    let images = g.I.TellingSource.left c.args.image.now in
    let images_before = g.I.TellingSource.given c.args.image.now in
    let images_after = g.I.TellingSource.given c.load_told-loaded.new.image in
    left_resumed images images_before images_after (g.B.TellingSource.left c.args.batches.now) (g.B.TellingSource.given c.args.batches.now) (g.B.TellingSource.given c.go_on.new.batches)
    c.go_on.result.ran c.in-Ok.executor c.args.from (g.S.Sink.taken c.args.sink.now) (g.S.Sink.taken c.go_on.new.sink) c.go_on.result.at
    (subst (λ r. IfOk r (λ chain. OfSource images images_before images_after (λ bytes. IsOpened bytes chain))) c.in-Ok.is c.load_told-loaded.ensures.ok) c.go_on.ensures.err

pub returns-in-Ok-clause-over : goal.returns-in-Ok-clause-over
returns-in-Ok-clause-over g c =
    let over = subst (λ r. OnOk r (g.I.TellingSource.ended c.load_told-loaded.new.image ≡ true)) c.in-Ok.is c.load_told-loaded.ensures.over in
    on_ok_weaker c.go_on.result.ran (λ too. (over, too)) c.go_on.ensures.over

pub returns-in-Ok-clause-image_failures : goal.returns-in-Ok-clause-image_failures
returns-in-Ok-clause-image_failures g c =
    let counted = subst (λ r. g.I.TellingSource.failed c.load_told-loaded.new.image ≡ g.I.TellingSource.failed c.args.image.now + (if is_image_read r then 1 else 0)) c.in-Ok.is c.load_told-loaded.ensures.image_failures in
    counted_none _ _ _ c.go_on.ensures.image_read (omega (arith, counted))

pub returns-clause-err : goal.returns-clause-err
returns-clause-err g c =
    let images = g.I.TellingSource.left c.args.image.now in
    let images_before = g.I.TellingSource.given c.args.image.now in
    let images_after = g.I.TellingSource.given c.load_told-loaded.new.image in
    unopened_resumed images images_before images_after (g.B.TellingSource.left c.args.batches.now) (g.B.TellingSource.given c.args.batches.now) c.in-Err.fault c.args.from (g.S.Sink.taken c.args.sink.now)
    (subst (λ r. IfErr r (λ e. OfSource images images_before images_after (IsUnopened e))) c.in-Err.is c.load_told-loaded.ensures.err)
