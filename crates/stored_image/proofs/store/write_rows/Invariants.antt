use Rattle.std.proofs.Common.{◌≡◌, ◌+◌, ◌<◌, ◌^◌, ◌++◌, filter_map, length, map}
use Rattle.records.specs.Spelling.{text_of_records}
use Rattle.records.specs.Writer.{IsWriting, written}
use Rattle.stored_image.specs.StoredImage.{said_at}
use Rattle.stored_image.specs.StoredRecords.{written_record}
use Rattle.stored_image.proofs.store.write_rows.Given as goal

-- what is written and what is left are the whole
abbrev pub invariant-loop-key : goal.invariant-loop-key
invariant-loop-key l = IsWriting l.writer
    × (written l.writer ++ text_of_records (map written_record (filter_map (said_at l.part l.rows.rows) l.key-iterator))
    ≡ written l.fn.writer ++ text_of_records (map written_record (filter_map (said_at l.part l.rows.rows) l.keys.keys)))
    × (l.count + length (filter_map (said_at l.part l.rows.rows) l.key-iterator) ≡ length (filter_map (said_at l.part l.rows.rows) l.keys.keys))
    × (l.count + length l.key-iterator < 2 ^ 63)
