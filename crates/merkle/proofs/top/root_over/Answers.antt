use Rattle.std.proofs.Common.{arith}
use Rattle.merkle.proofs.Joins.{joined-level}
use Rattle.merkle.proofs.top.root_over.Goals as goal

pub returns : goal.returns
returns c =
    let nodes = c.args.nodes.now in
    let eight = joined-level nodes c.roots-top.result c.join_level.new.top 8 0 (omega arith) c.roots-top.ensures c.join_level.ensures.joins in
    let four = joined-level nodes c.join_level.new.top c.join_level-2.new.top 4 1 (omega arith) eight c.join_level-2.ensures.joins in
    let two = joined-level nodes c.join_level-2.new.top c.join_level-3.new.top 2 2 (omega arith) four c.join_level-3.ensures.joins in
    joined-level nodes c.join_level-3.new.top c.join_level-4.new.top 1 3 (omega arith) two c.join_level-4.ensures.joins 0 (omega arith)
