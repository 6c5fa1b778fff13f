use Rattle.std.proofs.Common.{◌≡◌, cond, is_some, unwrap_or, ap, ◌∙◌}
use Rattle.std.specs.FinMap as map
use Rattle.tables.specs.Shelves.{place_of}
use Rattle.tables.proofs.Shelved.{get-at, shelf-swapped, union-swapped}
use Rattle.tables.proofs.shelf.Shelf.swap_near.Goals as goal

pub invariant_of-self : goal.invariant_of-self
invariant_of-self g c = shelf-swapped place_of _ 2048 c.self.invariant _ _ _ c.args.rank _ c.place_of-n.ensures.value c.place_of-n.ensures.below c.index_mut.ensures.value _ c.swap_near.ensures.after

pub returns-clause-after : goal.returns-clause-after
returns-clause-after g c =
    union-swapped place_of _ 2048 c.self.invariant _ _ _ c.args.rank _ c.place_of-n.ensures.value c.place_of-n.ensures.below c.index_mut.ensures.value _ c.swap_near.ensures.after
    ∙ ap (λ m. cond c.swap_near.result (map.insert m c.args.rank c.args.row.now) m) c.self.view_is

-- what the table has at the rank
was : (g : _) (c : goal.After-self-1 g) → map.get c.index_mut.result.now c.args.rank ≡ map.get c.args.self.now c.args.rank
was g c =
    get-at place_of c.self.inside.tables.items 2048 c.self.invariant c.place_of-n.result c.args.rank c.index_mut.result.now c.place_of-n.ensures.value c.place_of-n.ensures.below c.index_mut.ensures.value
    ∙ ap (λ m. map.get m c.args.rank) c.self.view_is

pub returns-clause-found : goal.returns-clause-found
returns-clause-found g c = c.swap_near.ensures.found ∙ ap is_some (was g c)

pub returns-clause-row : goal.returns-clause-row
returns-clause-row g c = c.swap_near.ensures.row ∙ ap (λ o. unwrap_or o c.args.row.now) (was g c)
