use Rattle.std.proofs.Common.{◌≡◌, ◌-◌, Some, cond, is_some, sym, ap, subst, ◌∙◌, arith}
use Rattle.std.specs.FinMap.{insert}
use Rattle.tpcc_rows.specs.RowMap.{Rows}
use Rattle.pointed_tables.specs.Aside.{IsBeside, Roomy, both}
use Rattle.pointed_tables.proofs.Besides.{beside-aside, beside-tables, both-aside, both-tables, nowhere, seen-changed}
use Rattle.pointed_tables.proofs.roomy.RoomyTables.insert.Goals as goal

pub invariant_of-self : goal.invariant_of-self
invariant_of-self c =
    let none = nowhere _ _ _ c.args.self.now c.self.view_is c.args.key c.requires.new in
    subst (λ (a : Rows). IsBeside a c.put_copy.new.tables) (sym c.release.ensures.rows)
    (subst (λ (m : Rows). IsBeside c.self.inside.aside.rows m) (sym c.in-Ok.ensures.ok) (beside-tables c.self.inside.aside.rows c.self.inside.tables c.args.key (Some c.args.row) c.self.invariant none.0))

pub invariant_of-self-in-Err : goal.invariant_of-self-in-Err
invariant_of-self-in-Err c =
    let none = nowhere _ _ _ c.args.self.now c.self.view_is c.args.key c.requires.new in
    subst (λ (a : Rows). IsBeside a c.put_copy.new.tables) (sym c.put.ensures.rows)
    (subst (λ (m : Rows). IsBeside (insert c.self.inside.aside.rows c.args.key c.args.row) m) (sym c.in-Err.ensures.err) (beside-aside c.self.inside.aside.rows c.self.inside.tables c.args.key (Some c.args.row) c.self.invariant none.1 c.requires.fit))

pub returns-in-Ok-clause-rows : goal.returns-in-Ok-clause-rows
returns-in-Ok-clause-rows c =
    let none = nowhere _ _ _ c.args.self.now c.self.view_is c.args.key c.requires.new in
    ap (λ (a : Rows). both a c.put_copy.new.tables) c.release.ensures.rows ∙ ap (λ (m : Rows). both c.self.inside.aside.rows m) c.in-Ok.ensures.ok
    ∙ both-tables c.self.inside.aside.rows c.self.inside.tables c.args.key (Some c.args.row) none.0 ∙ seen-changed _ _ _ c.args.self.now c.self.view_is c.args.key (Some c.args.row)

pub returns-in-Err-clause-rows : goal.returns-in-Err-clause-rows
returns-in-Err-clause-rows c =
    let none = nowhere _ _ _ c.args.self.now c.self.view_is c.args.key c.requires.new in
    ap (λ (a : Rows). both a c.put_copy.new.tables) c.put.ensures.rows ∙ ap (λ (m : Rows). both (insert c.self.inside.aside.rows c.args.key c.args.row) m) c.in-Err.ensures.err
    ∙ both-aside c.self.inside.aside.rows c.self.inside.tables c.args.key (Some c.args.row) none.1 ∙ seen-changed _ _ _ c.args.self.now c.self.view_is c.args.key (Some c.args.row)

pub returns-in-Err-clause-room : goal.returns-in-Err-clause-room
returns-in-Err-clause-room c =
    let none = nowhere _ _ _ c.args.self.now c.self.view_is c.args.key c.requires.new in
    let room = c.self.inside.aside.room in
    let less : c.put.new.self.room ≡ room - 1 = c.put.ensures.room ∙ ap (λ o. cond (is_some o) room (room - 1)) none.0 in
    let same : room ≡ c.args.self.now.room = ap (λ (s : Roomy). s.room) c.self.view_is in
    let some = c.requires.room in
    omega (arith, less, same, some)
