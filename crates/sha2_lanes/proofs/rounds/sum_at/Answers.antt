use Rattle.std.proofs.Common.{[], ap, arith, slice_index, sym}
use Rattle.std.proofs.lemmas.List.{get_or-map}
use Rattle.sha2_lanes.proofs.Bits.{below_four}
use Rattle.sha2_lanes.proofs.rounds.sum_at.Goals as goal

pub returns : goal.returns
returns c =
    let rows = c.args.rows.now in
    let t = c.args.t in
    below_four _
    (ap (λ words. slice_index words t) (sym (get_or-map (λ row. row.now) rows 0 _ [] (omega arith))))
    (ap (λ words. slice_index words t) (sym (get_or-map (λ row. row.now) rows 1 _ [] (omega arith))))
    (ap (λ words. slice_index words t) (sym (get_or-map (λ row. row.now) rows 2 _ [] (omega arith))))
    (ap (λ words. slice_index words t) (sym (get_or-map (λ row. row.now) rows 3 _ [] (omega arith))))
