use Rattle.std.proofs.Common.{◌+◌, ◌/◌, ◌++◌, ◌%◌, length, ap, refl, sym, subst, ◌∙◌}
use Rattle.merkle.specs.Nodes.{AreRefreshed}
use Rattle.merkle.specs.declared.marks.TheConstants.{BRANCH_NODES}
use Rattle.merkle.proofs.Refreshing.{both-refreshed}
use Rattle.merkle.proofs.parts.+parts.Goals as goal

pub refresh_by-returns-clause-nodes : goal.refresh_by-returns-clause-nodes
refresh_by-returns-clause-nodes g t c =
    let dirty = c.args.change.now.dirty.now in
    let rows = c.args.change.now.leaves.store.now.rows in
    let a = c.split_at_mut-front.result.0.now in
    let b = c.split_at_mut-front.result.1.now in
    let new = c.do_parts.new.front ++ c.do_parts.new.back in
    subst (λ old. AreRefreshed dirty rows c.args.first old new) (sym c.split_at_mut-front.ensures.value)
    (both-refreshed dirty rows c.args.first (c.args.first + length a / 2) a b c.do_parts.new.front c.do_parts.new.back refl
    (ap (λ n. n % BRANCH_NODES) c.split_at_mut-front.ensures.front_len ∙ c.args.sharing.now.whole) c.do_parts.ensures.front c.do_parts.ensures.back)
