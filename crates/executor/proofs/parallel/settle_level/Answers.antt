use Rattle.std.proofs.Common.{◌∙◌, ◌+◌, ◌<◌, ap, length, map, subst, sym}
use Rattle.std.proofs.lemmas.List.Kept.{AllPairs-from_increasing}
use Rattle.std.specs.List.{AllPairs}
use Rattle.gather.specs.Merged.{after_each}
use Rattle.workers.proofs.Ends.{rows_after_level}
use Rattle.executor.specs.Slots.{Awaits, HaveAlso}
use Rattle.executor.proofs.Settling.{after_outcomes, of_places}
use Rattle.executor.proofs.Slots.{awaits_others, have_each}
use Rattle.executor.proofs.parallel.settle_level.Goals as goal

pub put_replies-requires : goal.put_replies-requires
put_replies-requires g c =
    of_places (λ place. place < length c.args.replies.now) c.in_ok-outcomes.outcomes.items c.args.level.now.places.now c.in_ok-outcomes.ensures.in_order
    (λ k d below. (c.requires.awaited k d below).0)

pub returns-clause-replies : goal.returns-clause-replies
returns-clause-replies g c =
    let level = c.args.level.now in
    let outcomes = c.in_ok-outcomes.outcomes.items in
    let slots = c.args.replies.now in
    let rise = subst (AllPairs (λ place later. place < later)) (sym c.in_ok-outcomes.ensures.in_order) (AllPairs-from_increasing level.places.now level.rising) in
    let awaited = of_places (Awaits slots) outcomes level.places.now c.in_ok-outcomes.ensures.in_order c.requires.awaited in
    subst (λ told. HaveAlso level.plan.first told slots c.put_replies.new.replies) c.in_ok-outcomes.ensures.replies
    (subst (HaveAlso level.plan.first (map (λ done. (level.plan.first + done.place, done.reply)) outcomes) slots) (sym c.in_ok-deltas.ensures.replies)
    (have_each level.plan.first outcomes slots rise awaited))

pub returns-clause-rows : goal.returns-clause-rows
returns-clause-rows g c =
    let rows = c.args.store.now.rows in
    let outcomes = c.in_ok-outcomes.outcomes.items in
    c.in_ok-apply_each.ensures.rows
    ∙ ap (after_each rows) c.in_ok-deltas.ensures.changes
    ∙ after_outcomes outcomes rows
    ∙ rows_after_level c.args.catalog.now rows c.args.level.now outcomes c.in_ok-outcomes.ensures

pub returns-clause-others : goal.returns-clause-others
returns-clause-others g c =
    let level = c.args.level.now in
    let outcomes = c.in_ok-outcomes.outcomes.items in
    awaits_others level.plan.first level.places.now outcomes c.args.replies.now c.put_replies.new.replies c.in_ok-outcomes.ensures.in_order
    (subst (λ told. HaveAlso level.plan.first told c.args.replies.now c.put_replies.new.replies) (sym c.in_ok-outcomes.ensures.replies) (returns-clause-replies g c))
