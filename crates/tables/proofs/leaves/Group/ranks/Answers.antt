use Rattle.std.proofs.Common.{rules, sym, ap, ◌∙◌}
use Rattle.std.proofs.lemmas.List.{get_or_default}
use Rattle.std.specs.FinMap as map
use Rattle.tables.specs.Leaves.{in_group}
use Rattle.tables.specs.Shelves.{rows_at}
use Rattle.tables.proofs.Shelved.{table-union}
use Rattle.tables.proofs.Grouped.{past-rows, no-rows}
use Rattle.tables.proofs.leaves.Group.ranks.Goals as goal

pub returns-then-leaf-len : goal.returns-then-leaf-len
returns-then-leaf-len c =
    c.as_slice.ensures
    ∙ ap (λ t. map.entries t) (c.index.ensures ∙ get_or_default c.self.inside.leaves.items c.args.leaf c.index.result.now map.empty (search rules)
    ∙ table-union in_group c.self.inside.leaves.items c.self.invariant c.args.leaf)
    ∙ ap (λ m. map.entries (rows_at in_group m c.args.leaf)) c.self.view_is

pub returns-else-leaf-len : goal.returns-else-leaf-len
returns-else-leaf-len c =
    no-rows ∙ ap (λ t. map.entries t) (sym (past-rows in_group c.self.inside.leaves.items c.args.leaf (search rules))
    ∙ table-union in_group c.self.inside.leaves.items c.self.invariant c.args.leaf)
    ∙ ap (λ m. map.entries (rows_at in_group m c.args.leaf)) c.self.view_is
