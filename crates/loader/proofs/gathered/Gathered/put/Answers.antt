use Rattle.std.proofs.Common.{ap, refl, subst, sym, ◌∙◌}
use Rattle.std.specs.FinMap as map
use Rattle.std.specs.Prelude.{is_some}
use Rattle.loader.specs.LateRows.{AreApart, over}
use Rattle.loader.proofs.Late.{apart-late, apart-rows, has-late, has-none, has-row, no-some, over-late, over-rows}
use Rattle.loader.proofs.gathered.Gathered.put.Goals as goal
use Rattle.tpcc_rows.specs.Changing.{AreRows}
use Rattle.tpcc_rows.specs.RowMap.{Rows}
use Rattle.tpcc_rows.proofs.Fitting.{rows-insert}

pub invariant_of-self-then-has : goal.invariant_of-self-then-has
invariant_of-self-then-has c =
    let rows = c.self.inside.tables.value in
    let none = c.self.invariant.apart c.args.key (sym c.if-has.ensures) in
    record {
      apart = subst (λ (late : Rows). AreApart late rows) (sym c.in_ok-put.ensures.ok) (apart-late c.self.inside.late rows c.args.key c.args.row c.self.invariant.apart none);
      fit = c.self.invariant.fit;
    }

pub returns-then-has-clause-value : goal.returns-then-has-clause-value
returns-then-has-clause-value c =
    has-late c.self.inside.late c.self.inside.tables.value c.args.key c.if-has.ensures ∙ ap (λ (rows : Rows). is_some (map.get rows c.args.key)) c.self.view_is

pub returns-then-has-clause-rows : goal.returns-then-has-clause-rows
returns-then-has-clause-rows c =
    ap (λ (late : Rows). over late c.self.inside.tables.value) c.in_ok-put.ensures.ok ∙ over-late c.self.inside.late c.self.inside.tables.value c.args.key c.args.row
    ∙ ap (λ (rows : Rows). map.insert rows c.args.key c.args.row) c.self.view_is

pub invariant_of-self-then-has_to_wait : goal.invariant_of-self-then-has_to_wait
invariant_of-self-then-has_to_wait c =
    let rows = c.self.inside.tables.value in
    let none = ap (λ (m : Rows). map.get m c.args.key) (sym c.deref.ensures) ∙ c.if-has_to_wait.ensures refl in
    record {
      apart = subst (λ (late : Rows). AreApart late rows) (sym c.in_ok-put-2.ensures.ok) (apart-late c.self.inside.late rows c.args.key c.args.row c.self.invariant.apart none);
      fit = c.self.invariant.fit;
    }

pub returns-then-has_to_wait-clause-value : goal.returns-then-has_to_wait-clause-value
returns-then-has_to_wait-clause-value c =
    let none = ap (λ (m : Rows). map.get m c.args.key) (sym c.deref.ensures) ∙ c.if-has_to_wait.ensures refl in
    has-none c.self.inside.late c.self.inside.tables.value c.args.key c.if-has.ensures none ∙ ap (λ (rows : Rows). is_some (map.get rows c.args.key)) c.self.view_is

pub returns-then-has_to_wait-clause-rows : goal.returns-then-has_to_wait-clause-rows
returns-then-has_to_wait-clause-rows c =
    ap (λ (late : Rows). over late c.self.inside.tables.value) c.in_ok-put-2.ensures.ok ∙ over-late c.self.inside.late c.self.inside.tables.value c.args.key c.args.row
    ∙ ap (λ (rows : Rows). map.insert rows c.args.key c.args.row) c.self.view_is

pub invariant_of-self-2 : goal.invariant_of-self-2
invariant_of-self-2 c =
    let rows = c.self.inside.tables.value in
    let put = c.in_ok-was.ensures.ok ∙ ap (λ (m : Rows). map.insert m c.args.key c.args.row) c.deref_mut.ensures.value in
    let none = no-some (map.get c.self.inside.late c.args.key) (sym c.if-has.ensures) in
    record {
      apart = subst (λ (m : Rows). AreApart c.self.inside.late m) (sym put) (apart-rows c.self.inside.late rows c.args.key c.args.row c.self.invariant.apart none);
      fit = subst (λ (m : Rows). AreRows m) (sym put) (rows-insert rows c.args.key c.args.row c.self.invariant.fit c.requires);
    }

pub returns-clause-value : goal.returns-clause-value
returns-clause-value c =
    c.is_some.ensures ∙ ap is_some (c.in_ok-was.ensures.value ∙ ap (λ (m : Rows). map.get m c.args.key) c.deref_mut.ensures.value)
    ∙ has-row c.self.inside.late c.self.inside.tables.value c.args.key c.if-has.ensures ∙ ap (λ (rows : Rows). is_some (map.get rows c.args.key)) c.self.view_is

pub returns-clause-rows : goal.returns-clause-rows
returns-clause-rows c =
    let put = c.in_ok-was.ensures.ok ∙ ap (λ (m : Rows). map.insert m c.args.key c.args.row) c.deref_mut.ensures.value in
    let none = no-some (map.get c.self.inside.late c.args.key) (sym c.if-has.ensures) in
    ap (λ (m : Rows). over c.self.inside.late m) put ∙ over-rows c.self.inside.late c.self.inside.tables.value c.args.key c.args.row none
    ∙ ap (λ (rows : Rows). map.insert rows c.args.key c.args.row) c.self.view_is
