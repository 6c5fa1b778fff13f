use Rattle.std.proofs.Common.{◌+◌, ◌*◌, ◌≤◌, arith}
use Rattle.std.proofs.lemmas.List.{get_or-replicate}
use Rattle.profiles.proofs.earlier.Counts.new.Goals as goal

pub returns : goal.returns
returns c = record {
  deliveries = λ w range. (let high : w ≤ 100 = range.1 in get_or-replicate 101 w 0 0 (omega (arith, high)));
  orders = λ w d w_range d_range. (let w_high : w ≤ 100 = w_range.1 in let d_high : d ≤ 10 = d_range.1 in get_or-replicate 1011 (w * 10 + d) 0 0 (omega (arith, w_high, d_high)));
}
