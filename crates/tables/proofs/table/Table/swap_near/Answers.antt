use Rattle.std.proofs.Common.{◌≡◌, Ok, Err, None, is_some, unwrap_or, sym, ap, ◌∙◌}
use Rattle.std.specs.FinMap as map
use Rattle.std.specs.Ordering.{nat_cmp}
use Rattle.tpcc_rows.specs.Places.{IsPlaceOf, are_in_order}
use Rattle.tpcc_rows.proofs.Places.{got-none, in_order-set, map_of-set}
use Rattle.tables.proofs.Tables.{rank_total, exact_ranks, at, row-at, table_of}
use Rattle.tables.proofs.table.Table.swap_near.Goals.{In-Ok, In-Err}
use Rattle.tables.proofs.table.Table.swap_near.Goals as goal

pub place_of-requires : goal.place_of-requires
place_of-requires g c = ap (are_in_order nat_cmp) c.deref.ensures.value ∙ c.self.invariant

there : (g : _) (c : In-Ok g) → IsPlaceOf nat_cmp c.args.rank c.self.inside.entries.items (Ok c.in-Ok.place)
there g c = at c.self.inside.entries.items c.args.rank c.self.invariant (Ok c.in-Ok.place) c.deref.result.now c.place_of.result c.deref.ensures.value c.in-Ok.is c.place_of.ensures

pub swap-requires : goal.swap-requires
swap-requires g c = there g (goal.at.swap-requires g c).In-Ok

pub invariant_of-self : goal.invariant_of-self
invariant_of-self g c = ap (are_in_order nat_cmp) c.swap.ensures.after ∙ in_order-set rank_total exact_ranks c.self.inside.entries.items c.args.rank c.in-Ok.place c.self.invariant (there g (goal.at.invariant_of-self g c).In-Ok) c.args.row.now

pub returns-in-Ok-clause-after : goal.returns-in-Ok-clause-after
returns-in-Ok-clause-after g c =
    ap (λ xs. table_of xs) c.swap.ensures.after
    ∙ map_of-set rank_total exact_ranks c.self.inside.entries.items c.args.rank c.in-Ok.place c.self.invariant (there g (goal.at.returns-in-Ok-clause-after g c).In-Ok) c.args.row.now
    ∙ ap (λ m. map.insert m c.args.rank c.args.row.now) c.self.view_is

pub returns-in-Ok-clause-found : goal.returns-in-Ok-clause-found
returns-in-Ok-clause-found g c =
    ap is_some (row-at c.self.inside.entries.items c.args.rank c.in-Ok.place c.self.invariant (there g (goal.at.returns-in-Ok-clause-found g c).In-Ok) c.swap.new.row c.swap.ensures.value
    ∙ ap (λ m. map.get m c.args.rank) c.self.view_is)

pub returns-in-Ok-clause-row : goal.returns-in-Ok-clause-row
returns-in-Ok-clause-row g c =
    ap (λ o. unwrap_or o c.args.row.now) (row-at c.self.inside.entries.items c.args.rank c.in-Ok.place c.self.invariant (there g (goal.at.returns-in-Ok-clause-row g c).In-Ok) c.swap.new.row c.swap.ensures.value
    ∙ ap (λ m. map.get m c.args.rank) c.self.view_is)

-- the rank has no row
none : (g : _) (c : In-Err g) → map.get c.args.self.now c.args.rank ≡ None
none g c =
    let absent = at c.self.inside.entries.items c.args.rank c.self.invariant (Err c.in-Err.field-0) c.deref.result.now c.place_of.result c.deref.ensures.value c.in-Err.is c.place_of.ensures in
    ap (λ m. map.get m c.args.rank) (sym c.self.view_is) ∙ got-none rank_total exact_ranks c.self.inside.entries.items c.args.rank c.in-Err.field-0 c.self.invariant absent

pub returns-in-Err-clause-found : goal.returns-in-Err-clause-found
returns-in-Err-clause-found g c = sym (ap is_some (none g (goal.at.returns-in-Err-clause-found g c).In-Err))

pub returns-in-Err-clause-row : goal.returns-in-Err-clause-row
returns-in-Err-clause-row g c = sym (ap (λ o. unwrap_or o c.args.row.now) (none g (goal.at.returns-in-Err-clause-row g c).In-Err))
