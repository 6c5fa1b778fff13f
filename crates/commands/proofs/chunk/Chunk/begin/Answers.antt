use Rattle.std.proofs.Common.{◌≡◌, ◌∙◌, sym, arith, rules, true, false, length}
use Rattle.csv.proofs.ReadFacts.{first-three, keeps-from, keeps-trans, no-mark, not-first, not-second, prepend-nil, short-known, short-part, strip-keep, the-mark}
use Rattle.std.proofs.lemmas.Bool.{ne_eqb}
use Rattle.std.specs.Io.KnownBytes.{Keeps}
use Rattle.commands.specs.Reader.{pulled}
use Rattle.commands.proofs.chunk.Chunk.begin.Goals as goal

pub returns-then-not-branch-clause-keeps : goal.returns-then-not-branch-clause-keeps
returns-then-not-branch-clause-keeps g c =
    let e = c.in_ok-pull_one.ensures in
    let left = g.S.Source.left in
    let none : c.in_ok-pull_one.field-0 ≡ false = search rules in
    let f : c.pull_one.new.self.filled ≡ 0 = rw none at e.filled in
    let start : Keeps (left c.args.source.now) (pulled c.pull_one.new.self (left c.pull_one.new.source)) = keeps-from _ _ _ (sym (prepend-nil (left c.args.source.now))) e.keeps in
    strip-keep _ _ start (short-known _ _ (e.end none) (short-part c.pull_one.new.self.at c.pull_one.new.self.filled c.pull_one.new.self.buffer (rw f (omega arith))))

pub returns-then-self-ne239-clause-keeps : goal.returns-then-self-ne239-clause-keeps
returns-then-self-ne239-clause-keeps g c =
    let e = c.in_ok-pull_one.ensures in
    let left = g.S.Source.left in
    let some : c.in_ok-pull_one.field-0 ≡ true = search rules in
    let f1 : c.pull_one.new.self.filled ≡ 1 = rw some at e.filled in
    let size : length c.pull_one.new.self.buffer ≡ 8192 = search rules in
    let start : Keeps (left c.args.source.now) (pulled c.pull_one.new.self (left c.pull_one.new.source)) = keeps-from _ _ _ (sym (prepend-nil (left c.args.source.now))) e.keeps in
    strip-keep _ _ start (rw (e.at, f1) (not-first c.pull_one.new.self.buffer _ (omega arith) (ne_eqb _ _ c.if-self-ne239.true)))

pub returns-then-not-branch-2-clause-keeps : goal.returns-then-not-branch-2-clause-keeps
returns-then-not-branch-2-clause-keeps g c =
    let e = c.in_ok-pull_one.ensures in
    let e2 = c.in_ok-pull_one-2.ensures in
    let left = g.S.Source.left in
    let some : c.in_ok-pull_one.field-0 ≡ true = search rules in
    let none : c.in_ok-pull_one-2.field-0 ≡ false = search rules in
    let f1 : c.pull_one.new.self.filled ≡ 1 = rw some at e.filled in
    let f : c.pull_one-2.new.self.filled ≡ 1 = rw (none, f1) at e2.filled in
    let start : Keeps (left c.args.source.now) (pulled c.pull_one.new.self (left c.pull_one.new.source)) = keeps-from _ _ _ (sym (prepend-nil (left c.args.source.now))) e.keeps in
    let two = keeps-trans _ _ _ start e2.keeps in
    strip-keep _ _ two (short-known _ _ (e2.end none) (short-part c.pull_one-2.new.self.at c.pull_one-2.new.self.filled c.pull_one-2.new.self.buffer (rw f (omega arith))))

pub returns-then-self-ne187-clause-keeps : goal.returns-then-self-ne187-clause-keeps
returns-then-self-ne187-clause-keeps g c =
    let e = c.in_ok-pull_one.ensures in
    let e2 = c.in_ok-pull_one-2.ensures in
    let left = g.S.Source.left in
    let some : c.in_ok-pull_one.field-0 ≡ true = search rules in
    let some2 : c.in_ok-pull_one-2.field-0 ≡ true = search rules in
    let f1 : c.pull_one.new.self.filled ≡ 1 = rw some at e.filled in
    let f2 : c.pull_one-2.new.self.filled ≡ 2 = rw (some2, f1) at e2.filled in
    let size : length c.pull_one-2.new.self.buffer ≡ 8192 = search rules in
    let start : Keeps (left c.args.source.now) (pulled c.pull_one.new.self (left c.pull_one.new.source)) = keeps-from _ _ _ (sym (prepend-nil (left c.args.source.now))) e.keeps in
    strip-keep _ _ (keeps-trans _ _ _ start e2.keeps)
    (rw (e2.at, f2) (not-second c.pull_one-2.new.self.buffer _ (omega arith) (ne_eqb _ _ c.if-self-ne187.true)))

pub returns-then-not-branch-3-clause-keeps : goal.returns-then-not-branch-3-clause-keeps
returns-then-not-branch-3-clause-keeps g c =
    let e = c.in_ok-pull_one.ensures in
    let e2 = c.in_ok-pull_one-2.ensures in
    let e3 = c.in_ok-pull_one-3.ensures in
    let left = g.S.Source.left in
    let some : c.in_ok-pull_one.field-0 ≡ true = search rules in
    let some2 : c.in_ok-pull_one-2.field-0 ≡ true = search rules in
    let none : c.in_ok-pull_one-3.field-0 ≡ false = search rules in
    let f1 : c.pull_one.new.self.filled ≡ 1 = rw some at e.filled in
    let f2 : c.pull_one-2.new.self.filled ≡ 2 = rw (some2, f1) at e2.filled in
    let f : c.pull_one-3.new.self.filled ≡ 2 = rw (none, f2) at e3.filled in
    let start : Keeps (left c.args.source.now) (pulled c.pull_one.new.self (left c.pull_one.new.source)) = keeps-from _ _ _ (sym (prepend-nil (left c.args.source.now))) e.keeps in
    let three = keeps-trans _ _ _ (keeps-trans _ _ _ start e2.keeps) e3.keeps in
    strip-keep _ _ three (short-known _ _ (e3.end none) (short-part c.pull_one-3.new.self.at c.pull_one-3.new.self.filled c.pull_one-3.new.self.buffer (rw f (omega arith))))

pub returns-then-is_mark-clause-keeps : goal.returns-then-is_mark-clause-keeps
returns-then-is_mark-clause-keeps g c =
    let e = c.in_ok-pull_one.ensures in
    let e2 = c.in_ok-pull_one-2.ensures in
    let e3 = c.in_ok-pull_one-3.ensures in
    let left = g.S.Source.left in
    let some : c.in_ok-pull_one.field-0 ≡ true = search rules in
    let some2 : c.in_ok-pull_one-2.field-0 ≡ true = search rules in
    let some3 : c.in_ok-pull_one-3.field-0 ≡ true = search rules in
    let f1 : c.pull_one.new.self.filled ≡ 1 = rw some at e.filled in
    let f2 : c.pull_one-2.new.self.filled ≡ 2 = rw (some2, f1) at e2.filled in
    let f3 : c.pull_one-3.new.self.filled ≡ 3 = rw (some3, f2) at e3.filled in
    let size : length c.pull_one-3.new.self.buffer ≡ 8192 = search rules in
    let start : Keeps (left c.args.source.now) (pulled c.pull_one.new.self (left c.pull_one.new.source)) = keeps-from _ _ _ (sym (prepend-nil (left c.args.source.now))) e.keeps in
    let three = keeps-trans _ _ _ (keeps-trans _ _ _ start e2.keeps) e3.keeps in
    let known = rw (e3.at, f3, first-three c.pull_one-3.new.self.buffer (omega arith)) at three in
    let test = sym c.is_mark.ensures ∙ c.if-is_mark.true in
    rw (f3, first-three c.pull_one-3.new.self.buffer (omega arith)) (the-mark _ _ _ _ _ test known)

pub returns-else-is_mark-clause-keeps : goal.returns-else-is_mark-clause-keeps
returns-else-is_mark-clause-keeps g c =
    let e = c.in_ok-pull_one.ensures in
    let e2 = c.in_ok-pull_one-2.ensures in
    let e3 = c.in_ok-pull_one-3.ensures in
    let left = g.S.Source.left in
    let some : c.in_ok-pull_one.field-0 ≡ true = search rules in
    let some2 : c.in_ok-pull_one-2.field-0 ≡ true = search rules in
    let some3 : c.in_ok-pull_one-3.field-0 ≡ true = search rules in
    let f1 : c.pull_one.new.self.filled ≡ 1 = rw some at e.filled in
    let f2 : c.pull_one-2.new.self.filled ≡ 2 = rw (some2, f1) at e2.filled in
    let f3 : c.pull_one-3.new.self.filled ≡ 3 = rw (some3, f2) at e3.filled in
    let size : length c.pull_one-3.new.self.buffer ≡ 8192 = search rules in
    let start : Keeps (left c.args.source.now) (pulled c.pull_one.new.self (left c.pull_one.new.source)) = keeps-from _ _ _ (sym (prepend-nil (left c.args.source.now))) e.keeps in
    let three = keeps-trans _ _ _ (keeps-trans _ _ _ start e2.keeps) e3.keeps in
    let known = rw (e3.at, f3, first-three c.pull_one-3.new.self.buffer (omega arith)) at three in
    let test = sym c.is_mark.ensures ∙ c.if-is_mark.false in
    rw (e3.at, f3, first-three c.pull_one-3.new.self.buffer (omega arith)) (strip-keep _ _ known (no-mark _ _ _ _ test))
