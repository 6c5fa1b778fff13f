-- Which rows a log may bring back.
use Rattle.std.specs.Prelude.{Bool}
use Rattle.pointed_tables.specs.Bounds.{may_be_noted}
use Rattle.pointed_tables.specs.declared.log.Log.{Log}
use Rattle.tpcc_rows.specs.declared.key.RowKey.{RowKey}

-- whether the log may have noted a row of the key
abbrev pub may_bring_back : RowKey → Log → Bool
may_bring_back key log = may_be_noted log.bounds key
