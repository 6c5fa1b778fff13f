use Rattle.std.proofs.Common.{◌<◌, ◌≤◌, ◌+◌, ◌*◌, ℕ, cond, inl, inr, arith, ap, sym, length, ◌∙◌}
use Rattle.std.proofs.lemmas.Bool.{cases_lt, cond-false}
use Rattle.rollback.specs.Marks.{is_dirty}
use Rattle.tpcc_model.specs.Roots.{leaf_hash}
use Rattle.tpcc_rows.specs.declared.codes.TheConstants.{LEAVES}
use Rattle.merkle.specs.Nodes.{at, leaf_place}
use Rattle.merkle.proofs.Placing.{at-past, done-there, gathered-before, gathered-past, put-at}
use Rattle.merkle.proofs.leaves.rehash_some.Goals as goal

pub put_leaves-requires-clause-there : goal.put_leaves-requires-clause-there
put_leaves-requires-clause-there c =
    let gather = c.gather_leaves-count.ensures in
    done-there (leaf_hash c.args.change.now.leaves.store.now.rows) _ c.do_leaves.new.jobs c.do_leaves.ensures
    (λ n. (c.args.first ≤ n) × (2 * n < 2 * c.args.first + length c.args.nodes.now))
    (λ k d h. let r = gather.gathered.range k d h in (omega (arith, r.0, c.requires.from.0), omega (arith, r.1, gather.on.1)))

pub returns-clause-done : goal.returns-clause-done
returns-clause-done c = λ m low high.
    let gather = c.gather_leaves-count.ensures in
    let value = leaf_hash c.args.change.now.leaves.store.now.rows in
    let old = at c.args.nodes.now (leaf_place m) in
    let n : ℕ = c.args.first + m in
    put-at value _ c.do_leaves.new.jobs c.do_leaves.ensures n old (at c.put_leaves.new.nodes (leaf_place m)) (λ hashed. c.put_leaves.ensures.each value hashed m (omega (arith, high, gather.on.1)))
    ∙ ap (λ b. cond b (value n) old) (gather.gathered.found n low high (omega (arith, high, gather.on.1, c.requires.small)))

pub returns-clause-before : goal.returns-clause-before
returns-clause-before c = λ m early.
    let gather = c.gather_leaves-count.ensures in
    let value = leaf_hash c.args.change.now.leaves.store.now.rows in
    let old = at c.args.nodes.now (leaf_place m) in
    let n : ℕ = c.args.first + m in
    put-at value _ c.do_leaves.new.jobs c.do_leaves.ensures n old (at c.put_leaves.new.nodes (leaf_place m)) (λ hashed. c.put_leaves.ensures.each value hashed m (omega (arith, early, c.requires.from.1)))
    ∙ cond-false _ (value n) old (gathered-before (λ n. n < LEAVES) (is_dirty c.args.change.now.dirty.now) c.args.from c.gather_leaves-count.result.1 _ gather.gathered n early)

pub returns-clause-behind : goal.returns-clause-behind
returns-clause-behind c = λ m late. elim (cases_lt (2 * m) (length c.args.nodes.now)) [
  | inl small ↦
      let gather = c.gather_leaves-count.ensures in
      let value = leaf_hash c.args.change.now.leaves.store.now.rows in
      let old = at c.args.nodes.now (leaf_place m) in
      let n : ℕ = c.args.first + m in
      put-at value _ c.do_leaves.new.jobs c.do_leaves.ensures n old (at c.put_leaves.new.nodes (leaf_place m)) (λ hashed. c.put_leaves.ensures.each value hashed m small)
      ∙ cond-false _ (value n) old (gathered-past (λ n. n < LEAVES) (is_dirty c.args.change.now.dirty.now) c.args.from c.gather_leaves-count.result.1 _ gather.gathered n late)
  | inr large ↦
      at-past c.put_leaves.new.nodes (leaf_place m) (omega (arith, large, c.put_leaves.ensures.len, c.requires.whole)) ∙ sym (at-past c.args.nodes.now (leaf_place m) (omega (arith, large, c.requires.whole)))
]
