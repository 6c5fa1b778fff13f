use Rattle.std.proofs.Common.{◌≡◌, ◌≤◌, ◌++◌, arith, ap, length, sym, subst, take, ◌∙◌, length-append}
use Rattle.std.proofs.lemmas.List.{length-take-le, take_all, take-append-le, with_items_is}
use Rattle.merkle.specs.Nodes.{AreEmpty}
use Rattle.merkle.specs.declared.marks.TheConstants.{BRANCH_NODES}
use Rattle.merkle.proofs.Refreshing.{alike-branch, both-empty}
use Rattle.merkle.proofs.alike.empty_nodes.Goals as goal

pub loop-branch-init : goal.loop-branch-init
loop-branch-init c =
    let filled = c.fill_alike.ensures in
    let new = c.fill_alike.new.nodes in
    let is = with_items_is c.resize.new.self new (filled.full ∙ sym c.in_ok-resize.ensures.len) in
    let empty : AreEmpty new = alike-branch new c.hash_no_rows.result filled.full filled.joins filled.leaves c.hash_no_rows.ensures in
    record {
      some = omega arith;
      empty = subst AreEmpty (sym is) empty;
      first = subst AreEmpty (sym (ap (take BRANCH_NODES) is ∙ take_all BRANCH_NODES new (omega (arith, filled.full)))) empty;
      len = ap length is ∙ filled.full;
    }

pub loop-branch-preserved : goal.loop-branch-preserved
loop-branch-preserved c =
    let old = c.loop-branch.nodes.items in
    let first = take BRANCH_NODES old in
    let before = c.loop-branch.invariant in
    let large : BRANCH_NODES ≤ length old = omega (arith, before.some, before.len) in
    let items : c.extend_from_within.new.self.items ≡ old ++ first = c.in_ok-extend_from_within.ensures.items in
    record {
      some = omega arith;
      empty = subst AreEmpty (sym items) (both-empty old first before.empty before.first);
      first = subst AreEmpty (sym (ap (take BRANCH_NODES) items ∙ take-append-le BRANCH_NODES old first large)) before.first;
      len = ap length items ∙ omega (arith, length-append old first, length-take-le BRANCH_NODES old large, before.len);
    }
