use Rattle.std.proofs.Common.{◌+◌, ◌*◌, ◌∷◌, ◌∙◌, [], List, ℕ, ap, arith, slice_index}
use Rattle.std.proofs.lemmas.List.{length-set}
use Rattle.sha2.specs.Sha256.{word_at}
use Rattle.sha2_lanes.proofs.Schedules.{first_words, four_more}
use Rattle.sha2_lanes.proofs.block.lay_words.Goals as goal

pub quarters-preserved : goal.quarters-preserved
quarters-preserved c =
    let q = c.quarters.quarter in
    let words = c.quarters.words in
    let at : ℕ → List ℕ = λ n. word_at c.args.first.now n ∷ word_at c.args.second.now n ∷ word_at c.args.third.now n ∷ word_at c.args.fourth.now n ∷ [] in
    let first = c.four_words_at.ensures in
    let second = c.four_words_at-in-quarters.ensures in
    let third = c.four_words_at-in-quarters-2.ensures in
    let fourth = c.four_words_at-in-quarters-3.ensures in
    let column = c.transposed-columns.ensures in
    record {
      long = length-set _ (4 * q + 3) _ ∙ length-set _ (4 * q + 2) _ ∙ length-set _ (4 * q + 1) _ ∙ length-set words (4 * q) _ ∙ c.quarters.invariant.long;
      words = λ k lt. four_more [] (λ k. at (4 * k)) words (4 * q) _ _ _ _ (omega (arith, c.quarters.invariant.long))
          (rw (first, second, third, fourth) at (column 0 (omega arith)) ∙ ap at (omega arith))
          (rw (first, second, third, fourth) at (column 1 (omega arith)) ∙ ap at (omega arith))
          (rw (first, second, third, fourth) at (column 2 (omega arith)) ∙ ap at (omega arith))
          (rw (first, second, third, fourth) at (column 3 (omega arith)) ∙ ap at (omega arith))
          c.quarters.invariant.words k (omega arith);
    }

pub returns-clause-first : goal.returns-clause-first
returns-clause-first c =
    first_words 0 c.quarters.words c.args.first.now c.quarters.invariant.long
    (λ t lt. ap (λ (x : List ℕ). slice_index x 0) (c.quarters.invariant.words t (omega arith)))

pub returns-clause-second : goal.returns-clause-second
returns-clause-second c =
    first_words 1 c.quarters.words c.args.second.now c.quarters.invariant.long
    (λ t lt. ap (λ (x : List ℕ). slice_index x 1) (c.quarters.invariant.words t (omega arith)))

pub returns-clause-third : goal.returns-clause-third
returns-clause-third c =
    first_words 2 c.quarters.words c.args.third.now c.quarters.invariant.long
    (λ t lt. ap (λ (x : List ℕ). slice_index x 2) (c.quarters.invariant.words t (omega arith)))

pub returns-clause-fourth : goal.returns-clause-fourth
returns-clause-fourth c =
    first_words 3 c.quarters.words c.args.fourth.now c.quarters.invariant.long
    (λ t lt. ap (λ (x : List ℕ). slice_index x 3) (c.quarters.invariant.words t (omega arith)))
