use Rattle.tpcc_rows.proofs.Keys.{row_key_cmp_total, exact_keys}
use Rattle.tpcc_rows.proofs.Places.{no-entries}
use Rattle.pointed_tables.proofs.aside.Aside.new.Goals as goal

pub returns-clause-rows : goal.returns-clause-rows
returns-clause-rows c = no-entries row_key_cmp_total exact_keys c.new.result.items c.new.ensures.items
