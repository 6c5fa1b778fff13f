use Rattle.std.proofs.Common.{◌≡◌, ◌<◌, ◌+◌, ◌*◌, ℕ, length}
use Rattle.merkle.specs.Nodes.{at, node_over}
use Rattle.merkle.specs.declared.marks.TheConstants.{BRANCHES}
use Rattle.merkle.proofs.top.roots.Given as goal

abbrev pub invariant-loop-n : goal.invariant-loop-n
invariant-loop-n l = record {
  long : length l.top ≡ 2 * BRANCHES;
  roots : (k : ℕ) → k < l.n → at l.top (BRANCHES + k) ≡ node_over l.nodes 0 k;
}
