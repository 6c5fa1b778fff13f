use Rattle.std.proofs.Common.{rules}
use Rattle.std.proofs.lemmas.List.{take_rest}
use Rattle.records.proofs.IoLemmas.{push_more}
use Rattle.records.proofs.slurp.push_all.Goals as goal

pub loop-rest-preserved : goal.loop-rest-preserved
loop-rest-preserved g c =
    let (same, front, e, a) = c.loop-rest.invariant in
    let h = push_more _ _ _ c.args.text.now front c.loop-rest.rest.now c.in_ok-count.count e a c.in_ok-count.ensures.bytes in
    rw (take_rest c.loop-rest.rest.now c.in_ok-count.count) (search rules, h.0, h.1, h.2)
