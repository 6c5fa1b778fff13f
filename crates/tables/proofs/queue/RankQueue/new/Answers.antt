use Rattle.tpcc_rows.proofs.Places.{no-entries}
use Rattle.tables.proofs.Tables.{rank_total, exact_ranks}
use Rattle.tables.proofs.queue.RankQueue.new.Goals as goal

pub returns : goal.returns
returns c = no-entries rank_total exact_ranks c.new.result.items c.new.ensures.items
