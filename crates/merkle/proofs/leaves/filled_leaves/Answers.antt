use Rattle.std.proofs.Common.{arith, ap, inl, inr, sym, subst, ◌∙◌, ◌≡◌, ◌∷◌, [], false}
use Rattle.std.proofs.lemmas.Bool.{cases_eq}
use Rattle.sha2.specs.Sha256.{sha256}
use Rattle.tpcc_model.specs.Roots.{leaf_hash}
use Rattle.rollback.specs.Marks.{is_dirty}
use Rattle.row_store.specs.Slots.{filled}
use Rattle.merkle.proofs.Refreshing.{no-rows}
use Rattle.merkle.proofs.leaves.filled_leaves.Goals as goal

pub loop-n-preserved : goal.loop-n-preserved
loop-n-preserved c = λ k small clear. elim (cases_eq k c.loop-n.n) [
  | inl e ↦ subst (λ n. leaf_hash c.args.store.now.rows n ≡ sha256 (0 ∷ [])) (sym e)
      (no-rows c.args.store.now.rows c.loop-n.n (sym c.page.ensures ∙ ap (λ ss. filled ss) (c.add_if_filled.ensures.empty (subst (λ n. is_dirty c.add_if_filled.new.filled n ≡ false) e clear))))
  | inr ne ↦ c.loop-n.invariant k (omega (arith, small, ne)) (c.add_if_filled.ensures.kept k clear)
]
