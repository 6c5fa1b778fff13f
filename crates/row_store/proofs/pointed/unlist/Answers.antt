use Rattle.std.proofs.Common.{sym, ap, ◌∙◌}
use Rattle.tables.specs.Leaves.{leaf_of}
use Rattle.tables.proofs.RankKeys.{key_of-rank}
use Rattle.tpcc_rows.specs.Leaves.{leaf}
use Rattle.row_store.proofs.pointed.unlist.Goals as goal

pub remove-requires-clause-at : goal.remove-requires-clause-at
remove-requires-clause-at c =
    let e = c.place_of-leaf.ensures in
    e.leaf ∙ ap (λ k. leaf k) (sym (key_of-rank c.args.key.now e.limits)) ∙ ap (λ r. leaf_of r) (sym e.rank)
