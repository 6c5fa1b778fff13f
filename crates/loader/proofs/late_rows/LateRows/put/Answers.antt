use Rattle.std.proofs.Common.{◌≡◌, ◌++◌, ◌∷◌, ◌∙◌, [], List, ap, sym}
use Rattle.std.specs.FinMap as map
use Rattle.std.specs.List.{list_all}
use Rattle.std.specs.Prelude.{is_some}
use Rattle.loader.specs.LateRows.{listed}
use Rattle.loader.proofs.Listing.{pushed-fits, pushed-keys}
use Rattle.loader.proofs.late_rows.LateRows.put.Goals as goal
use Rattle.tpcc_rows.specs.RowKinds.{fits}
use Rattle.tpcc_rows.specs.RowMap.{Rows}
use Rattle.tpcc_rows.specs.declared.key.RowKey.{RowKey}
use Rattle.tpcc_rows.specs.declared.row.Row.{Row}
use Rattle.tpcc_rows.proofs.Puts.{with_each-push}

pub invariant_of-self-2 : goal.invariant_of-self-2
invariant_of-self-2 c =
    let es = c.self.inside.rows.items in
    let e : RowKey × Row = (c.args.key.now, c.args.row) in
    let pushed : c.push.new.rows.items ≡ es ++ e ∷ [] = c.push.ensures ∙ ap (λ (fs : List (RowKey × Row)). fs ++ e ∷ []) c.reserve.ensures.items in
    record {
      fit = ap (list_all (λ (row : RowKey × Row). fits row.0 row.1)) pushed ∙ pushed-fits es e c.self.invariant.fit c.requires;
      all = λ k. pushed-keys es e c.self.inside.keys c.insert.new.self c.self.invariant.all c.in_ok-insert.ensures.updates k
          ∙ ap (λ (fs : List (RowKey × Row)). is_some (map.get (listed fs) k)) (sym pushed);
    }

pub returns-clause-ok : goal.returns-clause-ok
returns-clause-ok c =
    let es = c.self.inside.rows.items in
    let e : RowKey × Row = (c.args.key.now, c.args.row) in
    let pushed : c.push.new.rows.items ≡ es ++ e ∷ [] = c.push.ensures ∙ ap (λ (fs : List (RowKey × Row)). fs ++ e ∷ []) c.reserve.ensures.items in
    ap listed pushed ∙ with_each-push es e map.empty ∙ ap (λ (rows : Rows). map.insert rows e.0 e.1) c.self.view_is
