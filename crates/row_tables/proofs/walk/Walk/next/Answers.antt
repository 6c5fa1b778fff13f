use Rattle.std.proofs.Common.{◌≡◌, ◌+◌, ◌∷◌, ◌++◌, [], cond, drop, true, sym, ap, ◌∙◌, arith}
use Rattle.std.proofs.lemmas.Bool.Decides.{nat_tests}
use Rattle.std.specs.Prelude.{nat_lt}
use Rattle.row_tables.specs.Parts.{lent, part_rows, rows_between}
use Rattle.row_tables.proofs.Parts.{drop-at, drop-past, left-from}
use Rattle.row_tables.proofs.walk.Walk.next.Goals as goal

pub returns-in-Some-clause-some : goal.returns-in-Some-clause-some
returns-in-Some-clause-some c =
    let s = c.loop-self.self in
    let more = rows_between s.rows.now (s.part + 1) s.end in
    let less = c.loop-self-test.true in
    let end = c.loop-self.invariant.1 in
    let within : nat_lt s.part s.end ≡ true = grind (arith, nat_tests) in
    sym c.loop-self.invariant.0
    ∙ ap (λ b. cond b (drop s.next (part_rows s.rows.now s.part) ++ more) []) within
    ∙ ap (λ es. es ++ more) (drop-at (part_rows s.rows.now s.part) s.next (lent c.in-Some.entry) c.in-Some.ensures.value)
    ∙ ap (λ b. lent c.in-Some.entry ∷ cond b (drop (s.next + 1) (part_rows s.rows.now s.part) ++ more) []) (sym within)

pub loop-self-preserved : goal.loop-self-preserved
loop-self-preserved c =
    let s = c.loop-self.self in
    let more = rows_between s.rows.now (s.part + 1) s.end in
    let less = c.loop-self-test.true in
    let end = c.loop-self.invariant.1 in
    let within : nat_lt s.part s.end ≡ true = grind (arith, nat_tests) in (
      sym (
          ap (λ b. cond b (drop s.next (part_rows s.rows.now s.part) ++ more) []) within
          ∙ ap (λ es. es ++ more) (drop-past (part_rows s.rows.now s.part) s.next c.in_default.ensures.value)
          ∙ left-from s.rows.now c.in_default.ensures.parts (s.part + 1) s.end
          ) ∙ c.loop-self.invariant.0,
      c.loop-self.invariant.1,
    )
