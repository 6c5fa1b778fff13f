-- The version that an image's first record names.
use Rattle.std.specs.Prelude.{◌==◌, ◌&&◌, List, length, ℕ, codes, Option, Some, None, if◌then◌else◌}
use Rattle.csv.specs.Records.{field_at}
use Rattle.records.specs.Fields.{Fields, is_text}
use Rattle.image_records.specs.declared.version.Version.{Version}
use Rattle.image_records.specs.declared.version.Version.TheVariants as version

-- `1` or `2`
abbrev pub version_told : Option (List ℕ) → Option Version
version_told field =
    if is_text (codes "1") field then Some version.One
    else if is_text (codes "2") field then Some version.Two
    else None

-- `eve-tpcc,1` or `eve-tpcc,2`
abbrev pub version_of : Fields → Option Version
version_of fields =
    if (length fields == 2) && is_text (codes "eve-tpcc") (field_at fields 0) then version_told (field_at fields 1)
    else None
