use Rattle.std.proofs.Common.{◌<◌, arith, length}
use Rattle.bit_sets.specs.BitSets.{has_bit}
use Rattle.merkle.specs.Nodes.{join_at}
use Rattle.merkle.proofs.Joins.{leaves-same, some-joined}
use Rattle.merkle.proofs.Placing.{done-put, done-there}
use Rattle.merkle.proofs.levels.rejoin_some.Goals as goal

pub put_hashes-requires : goal.put_hashes-requires
put_hashes-requires c =
    let gather = c.gather_nodes-count.ensures in
    done-there (join_at c.args.nodes.now) _ c.do_nodes.new.jobs c.do_nodes.ensures (λ n. n < length c.args.nodes.now) (λ k d h. omega (arith, (gather.gathered.range k d h).1, gather.on.1))

pub returns-clause-to : goal.returns-clause-to
returns-clause-to c =
    let gather = c.gather_nodes-count.ensures in
    let put = done-put (join_at c.args.nodes.now) _ c.do_nodes.new.jobs c.do_nodes.ensures c.args.nodes.now c.put_hashes.new.hashes (c.put_hashes.ensures.each (join_at c.args.nodes.now)) in
    some-joined c.args.nodes.now c.put_hashes.new.hashes (has_bit c.args.marks.now.words) (has_bit c.gather_nodes-count.new.marks.words) _ c.args.level.low c.args.level.high c.args.from c.gather_nodes-count.result.1
    c.args.level.some c.args.level.rising c.args.level.apart c.args.level.inside gather.gathered gather.marks put c.requires.to c.put_hashes.ensures.len

pub returns-clause-leaves : goal.returns-clause-leaves
returns-clause-leaves c =
    let gather = c.gather_nodes-count.ensures in
    let put = done-put (join_at c.args.nodes.now) _ c.do_nodes.new.jobs c.do_nodes.ensures c.args.nodes.now c.put_hashes.new.hashes (c.put_hashes.ensures.each (join_at c.args.nodes.now)) in
    leaves-same c.args.nodes.now c.put_hashes.new.hashes (has_bit c.args.marks.now.words) (has_bit c.gather_nodes-count.new.marks.words) _ c.args.level.low c.args.level.high c.args.from c.gather_nodes-count.result.1
    c.args.level.some c.args.level.rising c.args.level.apart c.args.level.inside gather.gathered gather.marks put c.requires.to
