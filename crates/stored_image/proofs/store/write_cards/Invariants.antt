use Rattle.std.proofs.Common.{◌≡◌, ◌+◌, ◌<◌, ◌^◌, ◌++◌, length, map, drop}
use Rattle.std.specs.FinMap as finmap
use Rattle.records.specs.Spelling.{text_of_records}
use Rattle.records.specs.Writer.{IsWriting, written}
use Rattle.stored_image.specs.StoredImage.{part_said}
use Rattle.stored_image.specs.StoredRecords.{written_record}
use Rattle.stored_image.proofs.store.write_cards.Given as goal

-- what is written and what is left are the whole
abbrev pub invariant-loop-key : goal.invariant-loop-key
invariant-loop-key l = IsWriting l.writer
    × (written l.writer ++ text_of_records (map written_record (part_said l.part l.rows.rows (drop l.key-index l.key-items)))
    ≡ written l.fn.writer ++ text_of_records (map written_record (part_said l.part l.rows.rows (finmap.entries l.catalog))))
    × (l.count + length (part_said l.part l.rows.rows (drop l.key-index l.key-items)) ≡ length (part_said l.part l.rows.rows (finmap.entries l.catalog)))
    × (l.count + length (drop l.key-index l.key-items) < 2 ^ 63)
