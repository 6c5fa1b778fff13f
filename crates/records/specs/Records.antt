-- The records of a text, and those that a reader has yet to give.
use Rattle.std.specs.Prelude.{◌≡◌, ◌+◌, ℕ, List, [], length, Option, Some, None, true}
use Rattle.std.specs.Borrow.{Bor}
use Rattle.csv.specs.Reading.{Ready, default_config, is_flexible, reader_config, reader_state, reader_trim, records, records_from, source_of, strip_bom}
use Rattle.csv.specs.declared.parser.State.{State}
use Rattle.csv.specs.declared.reader.Reader.{Reader}
use Rattle.csv.specs.declared.reader.Trim.TheVariants as trim
use Rattle.records.specs.Fields.{Fields}

-- the records of a text, as `csv` reads them by default, without a header row and with any numbers of fields: a byte order
-- mark at the start is skipped, and an empty line is no record
abbrev pub records_in : List ℕ → List Fields
records_in bytes = records default_config (strip_bom bytes)

-- the bytes that a slice has left
abbrev pub rest_of : Bor (List ℕ) → Option (List ℕ)
rest_of slice = Some slice.now

-- the records of these bytes, from this state of the parser on
abbrev pub records_after : State → Option (List ℕ) → List Fields
records_after state None = []
records_after state (Some bytes) = records_from default_config (length bytes + 1) state bytes

-- the records that a reader has yet to give
abbrev pub records_left : Reader (Bor (List ℕ)) → List Fields
records_left reader = records_after (reader_state reader) (source_of rest_of reader)

-- a reader with the defaults, no header row, any numbers of fields and known bytes
pub record IsGoing (reader : Reader (Bor (List ℕ))) : Type 0 where
  pub config : reader_config reader ≡ default_config
  pub trim : reader_trim reader ≡ trim.None
  pub flexible : is_flexible reader ≡ true
  pub ready : Ready reader
  pub bytes : List ℕ
  pub known : source_of rest_of reader ≡ Some bytes
