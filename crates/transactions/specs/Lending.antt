-- The rows that a view lends.
use Rattle.std.specs.FinMap.{retain_keys}
use Rattle.tpcc_rows.specs.RowMap.{Rows}
use Rattle.worker_rows.specs.Views.{View, readable}

-- those that may be read
unfoldable pub lent : View → Rows
lent view = retain_keys view.rows (readable view)
