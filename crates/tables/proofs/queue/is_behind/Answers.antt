use Rattle.std.proofs.Common.{◌-◌, slice_index_or, sym, ap, ◌∙◌}
use Rattle.std.proofs.lemmas.Bool.{ltb-true}
use Rattle.std.specs.Cmp.{nat_cmp_is}
use Rattle.std.specs.declared.cmp.Ordering.TheVariants.{Less}
use Rattle.tpcc_rows.proofs.Places.{placed-behind}
use Rattle.tables.proofs.Tables.{rank_total, exact_ranks}
use Rattle.tables.proofs.queue.is_behind.Goals as goal

pub returns-in-Some : goal.returns-in-Some
returns-in-Some c = λ less.
    let last = c.in-Some.field-0.now in
    let queue = c.args.entries.now in
    placed-behind rank_total exact_ranks queue.items c.args.rank last c.requires
    (λ d. ap (λ n. slice_index_or queue.items (n - 1) d) (sym queue.ok.0) ∙ sym (c.in-Some.ensures.item.3.1 d))
    (sym (nat_cmp_is last.0 c.args.rank Less (ltb-true last.0 c.args.rank less)))
