-- The text of records.
use Rattle.std.specs.Prelude.{◌≡◌, ◌++◌, ◌∷◌, [], ℕ, List, Option, Some, None, codes, decimal}
use Rattle.csv.specs.Records.{Row, fields_of, partial_of}
use Rattle.csv.specs.Writing.{default_writer, row_text}
use Rattle.records.specs.Fields.{Fields}

-- a record with these fields added
abbrev pub AddsFields : Row → Row → Fields → Type 0
AddsFields old new fields = (fields_of new ≡ fields_of old ++ fields) × (partial_of new ≡ [])

-- a number, or a dash for a null
abbrev pub number_or_dash : Option ℕ → List ℕ
number_or_dash None = codes "-"
number_or_dash (Some n) = decimal n

-- the text of a record with its line feed, as `csv` writes it by default: a field with a comma, a quote or a line break
-- is quoted
abbrev pub text_of_record : Fields → List ℕ
text_of_record fields = row_text default_writer fields

-- the text of records, concatenated
abbrev pub text_of_records : List Fields → List ℕ
text_of_records [] = []
text_of_records (fields ∷ more) = text_of_record fields ++ text_of_records more
