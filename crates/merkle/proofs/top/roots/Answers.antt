use Rattle.std.proofs.Common.{◌≢◌, ◌+◌, ◌*◌, [], arith, ap, inl, inr, refl, set, sym, ◌∙◌}
use Rattle.std.proofs.lemmas.Bool.{cases_eq}
use Rattle.std.proofs.lemmas.List.{get_or-set_other, get_or-set_same, length-set}
use Rattle.merkle.specs.Nodes.{at, node_over}
use Rattle.merkle.specs.declared.marks.TheConstants.{BRANCHES, BRANCH_NODES}
use Rattle.merkle.proofs.Joins.{over-zero}
use Rattle.merkle.proofs.top.roots.Goals as goal

pub loop-n-preserved : goal.loop-n-preserved
loop-n-preserved c =
    let nodes = c.args.nodes.now in
    let top = c.loop-n.top in
    let n = c.loop-n.n in
    let hash = at nodes (BRANCH_NODES * n + 1) in
    let before = c.loop-n.invariant in
    record {
      long = length-set top (BRANCHES + n) hash ∙ before.long;
      roots = λ k small. elim (cases_eq k n) [
        | inl e ↦
            ap (λ i. at (set top (BRANCHES + n) hash) (BRANCHES + i)) e ∙ get_or-set_same top (BRANCHES + n) hash [] (omega (arith, before.long, c.loop-n-test.true))
            ∙ over-zero nodes 0 n refl ∙ ap (node_over nodes 0) (sym e)
        | inr ne ↦ let other : BRANCHES + k ≢ BRANCHES + n = λ e. ne (omega (arith, e)) in get_or-set_other top (BRANCHES + n) (BRANCHES + k) hash [] other ∙ before.roots k (omega (arith, small, ne))
      ];
    }
