use Rattle.tpcc_model.proofs.RecentLines.{low_items_are_recent}
use Rattle.tpcc_model.proofs.laws.recent_items.Goals as goal

pub returns : goal.returns
returns c = low_items_are_recent
