use Rattle.std.proofs.Common.{rules, [], sym, append-nil}
use Rattle.std.specs.Io.KnownBytes.{Appends}
use Rattle.made_database.specs.Made.{made}
use Rattle.stored_image.specs.StoredImage.{image_text}
use Rattle.runner.proofs.RunLemmas.{then_kept}
use Rattle.runner.proofs.make.make_text.Goals as goal

pub returns-then-is_err-2-clause-err : goal.returns-then-is_err-2-clause-err
returns-then-is_err-2-clause-err g c =
    let text = image_text (made c.args.warehouses c.args.customers c.args.items) in
    let written : Appends (g.S.Sink.taken c.args.sink.now) (g.S.Sink.taken c.push_all.new.sink) text = search rules in
    (text, [], sym (append-nil text), then_kept _ _ _ _ written c.flush.ensures.bytes)
