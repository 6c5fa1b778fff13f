use Rattle.std.proofs.Common.{◌≡◌, ◌∙◌, IfOk, ap, subst}
use Rattle.stored_image.specs.StoredRecords.{written_end}
use Rattle.image_records.specs.Databases.{loaded}
use Rattle.stored_image.proofs.StoredTexts.{image-whole}
use Rattle.stored_image.proofs.store.whole_text.Goals as goal

pub returns : goal.returns
returns c =
    let end = c.in_ok-end_record.ensures ∙ ap written_end c.in_ok-count.ensures.count in
    let whole = image-whole (loaded (c.args.catalog.now, c.args.rows.now)) _ _ _ _ _ _ c.record_writer-writer.ensures.none c.in_ok-first_record.ensures c.in_ok-write_record.ensures.text
    c.in_ok-count.ensures.text end c.in_ok-write_record-2.ensures.text in
    subst (λ t. IfOk c.written_text.result (λ text. text.items ≡ t)) whole c.written_text.ensures
