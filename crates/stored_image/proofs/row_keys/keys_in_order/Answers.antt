use Rattle.std.proofs.Common.{arith, subst}
use Rattle.stored_image.specs.StoredImage.{HasAlsoAlone}
use Rattle.stored_image.proofs.RowKeys.{below-all, below-more, said-in_order}
use Rattle.stored_image.proofs.row_keys.keys_in_order.Goals as goal

pub loop-leaf-preserved : goal.loop-leaf-preserved
loop-leaf-preserved c =
    below-more c.args.rows.now.rows c.loop-leaf.leaf c.loop-leaf.keys c.add_keys.new.keys c.loop-leaf.invariant
    (subst (λ es. HasAlsoAlone c.loop-leaf.keys es c.add_keys.new.keys) c.page.ensures c.in_ok-add_keys.ensures)

pub returns-clause-said : goal.returns-clause-said
returns-clause-said c = λ p. said-in_order p c.args.rows.now.rows c.loop-leaf.keys c.len-count.ensures.ordered (below-all c.args.rows.now.rows c.loop-leaf.leaf c.loop-leaf.keys (omega arith) c.loop-leaf.invariant)
