-- Tables: a column for writes, and one for reads and writes.
use Rattle.serializability.specs.LevelRows.{touched_bits, written_bits}
use Rattle.mixer.specs.Columns.{IsColumn}
use Rattle.mixer.specs.LevelRows.{Done}
use Rattle.mixer.specs.Slots.{slot}
use Rattle.mixer.specs.declared.table.Table.{Table}

-- the columns describe those placed so far
pub record AreColumns (table : Table) (done : Done) : Type 0 where
  pub written : IsColumn (written_bits slot) table.written.items done
  pub touched : IsColumn (touched_bits slot) table.touched.items done
