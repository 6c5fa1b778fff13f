use Rattle.std.proofs.Common.{ap, ◌<◌, ◌/◌, ◌%◌, length, ◌∙◌}
use Rattle.std.proofs.lemmas.List.{get_or_default}
use Rattle.std.specs.FinMap as map
use Rattle.tables.specs.Leaves.{group_of, in_group}
use Rattle.tables.specs.Shelves.{rows_at}
use Rattle.tables.proofs.Grouped.{group-below, leaf-rows}
use Rattle.tables.proofs.Shelved.{table-union}
use Rattle.tables.proofs.leaves.Leaves.ranks.Goals as goal

pub returns : goal.returns
returns c =
    let gs = c.self.inside.groups.items in
    let small : c.args.leaf / 16 < length gs = rw c.self.invariant.full (group-below c.args.leaf c.requires) in
    c.ranks.ensures
    ∙ ap (λ t. map.entries (rows_at in_group t (c.args.leaf % 16))) (c.index.ensures ∙ get_or_default gs (c.args.leaf / 16) c.index.result.now map.empty small
    ∙ table-union group_of gs c.self.invariant.fits (c.args.leaf / 16) ∙ ap (λ m. rows_at group_of m (c.args.leaf / 16)) c.self.view_is)
    ∙ ap (λ m. map.entries m) (leaf-rows c.args.self.now c.args.leaf)
