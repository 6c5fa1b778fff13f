use Rattle.std.proofs.Common.{sym, subst, ◌∙◌}
use Rattle.merkle.specs.Nodes.{IsOf}
use Rattle.merkle.proofs.Joins.{over-root}
use Rattle.merkle.proofs.tree.Tree.root.Goals as goal

pub returns : goal.returns
returns c = λ rows h.
    let tree = c.self.invariant in
    tree.2 ∙ over-root c.self.inside.nodes.items tree.0 tree.1 rows (subst (λ leaves. IsOf leaves rows) (sym c.self.view_is) h)
