-- The records of a text, each with its length in bytes.
use Rattle.std.specs.Prelude.{◌+◌, ◌∷◌, ◌++◌, [], ◌<◌, ◌≤◌, ℕ, List, if◌then◌else◌}
use Rattle.csv.specs.Machine.{ends_at_end, field_after, fields_after, is_end, step}
use Rattle.csv.specs.Reading.{default_config, strip_bom}
use Rattle.csv.specs.declared.parser.State.{State}
use Rattle.csv.specs.declared.parser.State.TheVariants as at
use Rattle.records.specs.Fields.{Fields}

-- the fields of a record, and its length in bytes, with the empty lines before it
abbrev pub Row : Type 0
Row = Fields × ℕ

-- records, and the number of bytes behind the last
abbrev pub Rows : Type 0
Rows = List Row × ℕ

abbrev pub with_row : Row → Rows → Rows
with_row row rows = (row ∷ rows.0, rows.1)

-- the records of these bytes, as `csv` reads them by default, after this many bytes of the first, which led to this state, these
-- fields, and this part of a field
unfoldable pub rows_from : State → Fields → List ℕ → ℕ → List ℕ → Rows
rows_from s fields field size [] = if ends_at_end s then ((fields ++ field ∷ [], size) ∷ [], 0) else ([], size)
rows_from s fields field size (c ∷ rest) =
    if is_end (step default_config s c).1 then
    with_row (fields_after (step default_config s c).1 fields field, size + 1) (rows_from (step default_config s c).0 [] [] 0 rest)
    else
    rows_from (step default_config s c).0 (fields_after (step default_config s c).1 fields field) (field_after (step default_config s c).1 c field) (size + 1) rest

-- the records of a text; a byte order mark at its start is skipped
abbrev pub rows_in : List ℕ → Rows
rows_in bytes = rows_from at.StartRecord [] [] 0 (strip_bom bytes)

-- the first record, or if there is none the rest, has more bytes than this
abbrev pub IsLonger : ℕ → Rows → Type 0
IsLonger n ([], rest) = n < rest
IsLonger n (row ∷ rows, rest) = n < row.1

-- there is no record, and at most this many bytes
abbrev pub EndsWithin : ℕ → Rows → Type 0
EndsWithin n ([], rest) = rest ≤ n
EndsWithin n (row ∷ rows, rest) = ⊥
