use Rattle.std.proofs.Common.{◌≡◌, ℕ, ◌<◌, ◌≤◌, length}
use Rattle.merkle.specs.Nodes.{at}
use Rattle.merkle.proofs.alike.fill.Given as goal

-- the nodes before this one have the hash
abbrev pub invariant-loop-i : goal.invariant-loop-i
invariant-loop-i l = record {
  len : length l.nodes ≡ length l.fn.nodes;
  inside : (k : ℕ) → l.low ≤ k → k < l.i → at l.nodes k ≡ l.hash;
  above : (k : ℕ) → l.high ≤ k → at l.nodes k ≡ at l.fn.nodes k;
}
