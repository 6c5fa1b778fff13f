use Rattle.std.proofs.Common.{◌≡◌, ◌++◌, ◌∙◌, [], IfOk, ap, length, rules, subst, sym}
use Rattle.std.proofs.lemmas.List.{nil_from_length}
use Rattle.std.specs.FinMap.{entries}
use Rattle.loader.specs.LateRows.{listed}
use Rattle.loader.proofs.Late.{joined-all, joined-fit, over-none}
use Rattle.loader.proofs.joining.joined.Goals as goal
use Rattle.tpcc_rows.specs.RowMap.{Rows}

pub returns-then-is_empty : goal.returns-then-is_empty
returns-then-is_empty c =
    let len : length c.args.late.items ≡ 0 = search rules in
    let none : c.args.late.items ≡ [] = nil_from_length c.args.late.items len in
    sym (over-none (listed c.args.late.items) c.args.tables.value (ap listed none))

pub sorted-requires : goal.sorted-requires
sorted-requires c =
    let all = c.in_ok-append_copies.ensures.all ∙ ap (λ (rows : Rows). c.args.late.items ++ entries rows) c.deref.ensures in
    joined-fit c.args.late.items c.append_copies.new.rows.items c.args.tables.value all c.requires.fit c.requires.gathered.fit

pub returns : goal.returns
returns c =
    let all = c.in_ok-append_copies.ensures.all ∙ ap (λ (rows : Rows). c.args.late.items ++ entries rows) c.deref.ensures in
    subst (λ (rows : Rows). IfOk c.sorted.result (λ joined. joined.value ≡ rows)) (joined-all c.args.late.items c.args.tables.value c.append_copies.new.rows.items all c.requires.gathered.apart) c.sorted.ensures
