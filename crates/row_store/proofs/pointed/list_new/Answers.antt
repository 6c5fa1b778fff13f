use Rattle.std.proofs.lemmas.Result.{on_ok_weaker}
use Rattle.row_store.proofs.Listing.{leaves-listed, now-listed, others-listed}
use Rattle.row_store.proofs.pointed.list_new.Goals as goal

pub returns-clause-kept : goal.returns-clause-kept
returns-clause-kept c h = leaves-listed c.args.leaves.now c.list.new.leaves c.args.key.now c.list.ensures.limits c.args.tables.now h c.list.result c.list.ensures.ok c.list.ensures.err

pub returns-clause-ok : goal.returns-clause-ok
returns-clause-ok c = on_ok_weaker c.list.result (λ is h some. is) (now-listed c.args.leaves.now c.list.new.leaves c.args.key.now c.list.ensures.limits c.list.result c.list.ensures.ok)

pub returns-clause-others : goal.returns-clause-others
returns-clause-others c = others-listed c.list.result c.args.leaves.now c.list.new.leaves c.args.key.now c.list.ensures.limits c.list.ensures.ok c.list.ensures.err
