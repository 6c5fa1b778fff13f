use Rattle.std.proofs.Common.{◌≡◌, ◌+◌, ap, arith, length, sym, ◌∙◌}
use Rattle.std.proofs.lemmas.List.{with_items_is}
use Rattle.rollback.specs.Marks.{is_dirty}
use Rattle.merkle.specs.Nodes.{at, leaf_place, leaves_of, rehashed}
use Rattle.merkle.proofs.Joins.{at-leaf}
use Rattle.merkle.proofs.Refreshing.{filled-leaf}
use Rattle.merkle.proofs.tree.Tree.build.Goals as goal

pub returns : goal.returns
returns g c =
    let rows = c.args.store.now.rows in
    let dirty = c.filled_leaves-dirty.result in
    let old = c.deref_mut.result.now in
    let full = ap length c.deref_mut.ensures.value ∙ c.in_ok-nodes.ensures.1 in
    let nodes = with_items_is c.in_ok-nodes.nodes c.refresh_all.new.nodes (c.refresh_all.ensures.len ∙ full ∙ sym c.in_ok-nodes.ensures.1 ∙ sym c.in_ok-nodes.nodes.ok.0) in
    record {
      each = λ n small.
          let number : 0 + n ≡ n = omega arith in
          ap (λ all. at (leaves_of all) n) nodes ∙ at-leaf c.refresh_all.new.nodes n small ∙ c.refresh_all.ensures.leaves n (omega (arith, small, full))
          ∙ ap (rehashed dirty rows (at old (leaf_place n))) number
          ∙ filled-leaf rows n (is_dirty dirty n) (at old (leaf_place n)) (ap (λ all. at all (leaf_place n)) c.deref_mut.ensures.value ∙ c.in_ok-nodes.ensures.0.leaves n (omega (arith, small, c.in_ok-nodes.ensures.1))) (c.filled_leaves-dirty.ensures n small);
    }
