use Rattle.std.proofs.Common.{◌≡◌, ◌+◌, ap, arith, length, sym, ◌∙◌}
use Rattle.std.proofs.lemmas.List.{with_items_is}
use Rattle.merkle.specs.Nodes.{at, leaf_place, leaves_of, rehashed}
use Rattle.merkle.proofs.Joins.{at-leaf}
use Rattle.merkle.proofs.Refreshing.{of-all}
use Rattle.merkle.proofs.tree.Tree.refresh_beside.Goals as goal

pub returns-clause-leaves : goal.returns-clause-leaves
returns-clause-leaves g c = λ n small.
    let rows = c.args.store.now.rows in
    let dirty = c.args.dirty.now in
    let old = c.self.inside.nodes.items in
    let full = ap length c.deref_mut.ensures.value ∙ c.self.invariant.1 in
    let number : 0 + n ≡ n = omega arith in
    ap (λ nodes. at (leaves_of nodes) n) (with_items_is c.self.inside.nodes c.refresh_nodes-result.new.nodes (c.refresh_nodes-result.ensures.nodes.len ∙ full ∙ sym c.self.invariant.1 ∙ sym c.self.inside.nodes.ok.0))
    ∙ at-leaf c.refresh_nodes-result.new.nodes n small ∙ c.refresh_nodes-result.ensures.nodes.leaves n (omega (arith, small, full))
    ∙ ap (rehashed dirty rows (at c.deref_mut.result.now (leaf_place n))) number
    ∙ ap (λ leaf. rehashed dirty rows leaf n) (ap (λ nodes. at nodes (leaf_place n)) c.deref_mut.ensures.value ∙ sym (at-leaf old n small) ∙ ap (λ leaves. at leaves n) c.self.view_is)

pub returns-clause-rows : goal.returns-clause-rows
returns-clause-rows g c = of-all _ _ c.args.dirty.now c.args.store.now.rows (returns-clause-leaves g c)
