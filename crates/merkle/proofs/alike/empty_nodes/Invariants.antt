use Rattle.std.proofs.Common.{◌≡◌, ◌≤◌, ◌*◌, length, take}
use Rattle.merkle.specs.Nodes.{AreEmpty}
use Rattle.merkle.specs.declared.marks.TheConstants.{BRANCH_NODES}
use Rattle.merkle.proofs.alike.empty_nodes.Given as goal

abbrev pub invariant-loop-branch : goal.invariant-loop-branch
invariant-loop-branch l = record {
  some : 1 ≤ l._branch;
  empty : AreEmpty l.nodes.items;
  first : AreEmpty (take BRANCH_NODES l.nodes.items);
  len : length l.nodes.items ≡ BRANCH_NODES * l._branch;
}
