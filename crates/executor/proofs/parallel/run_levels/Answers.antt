use Rattle.std.proofs.Common.{◌≡◌, ◌∙◌, ◌<◌, ◌+◌, ℕ, List, [], None, Some, ap, get_or, length, replicate, slice_get, subst, sym, arith}
use Rattle.std.proofs.lemmas.Option.{slice_get-get_or}
use Rattle.std.specs.List.{list_any}
use Rattle.std.specs.Option.{option_copied}
use Rattle.serializability.specs.Levels.{job_strays, jobs, jobs_at, level_replies, run_replies}
use Rattle.tpcc_model.specs.Machine.{tpcc}
use Rattle.executor.specs.PlannedLevels.{plan_levels}
use Rattle.executor.specs.Slots.{Awaits, Slots}
use Rattle.executor.proofs.CleanLeaves.{kept_twice}
use Rattle.executor.proofs.LevelSteps.{replies_on, rows_on, strays_here, strays_on, levels_from}
use Rattle.executor.proofs.LevelResults.{each_place, lent_at, stray_up}
use Rattle.executor.proofs.Slots.{ComeToHave, some_more}
use Rattle.executor.proofs.parallel.run_levels.Goals as goal

pub unwrap-places-requires : goal.unwrap-places-requires
unwrap-places-requires g c =
    let depth = c.depth-index-end.ensures in
    let before = c.loop-index-test.true in
    let below : c.loop-index.index < length c.args.cut.now = omega (arith, depth, before) in
    lent_at c.level.result (get_or c.args.cut.now c.loop-index.index (let none : List ℕ = [] in none)) (c.level.ensures ∙ slice_get-get_or c.args.cut.now c.loop-index.index (let none : List ℕ = [] in none) below)

pub invariant_of-level-clause-short : goal.invariant_of-level-clause-short
invariant_of-level-clause-short g c =
    let at : slice_get c.args.cut.now c.loop-index.index ≡ Some c.unwrap-places.result.now = sym c.level.ensures ∙ ap option_copied c.unwrap-places.ensures in
    let short = c.requires.short c.loop-index.index c.unwrap-places.result.now at in
    let few = c.args.plan.now.few in
    let each = c.args.plan.now.each in
    omega (arith, short, few, each)

pub invariant_of-level-clause-rising : goal.invariant_of-level-clause-rising
invariant_of-level-clause-rising g c =
    let at : slice_get c.args.cut.now c.loop-index.index ≡ Some c.unwrap-places.result.now = sym c.level.ensures ∙ ap option_copied c.unwrap-places.ensures in
    c.requires.rising c.loop-index.index c.unwrap-places.result.now at

pub invariant_of-level-clause-there : goal.invariant_of-level-clause-there
invariant_of-level-clause-there g c =
    let at : slice_get c.args.cut.now c.loop-index.index ≡ Some c.unwrap-places.result.now = sym c.level.ensures ∙ ap option_copied c.unwrap-places.ensures in
    each_place (λ place. place < length c.args.plan.now.batch.now.requests) c.unwrap-places.result.now
    (λ place has. subst (λ (n : ℕ). place < n) c.args.plan.now.each (c.requires.below c.loop-index.index place c.unwrap-places.result.now at has))

pub settle_level-requires-clause-awaited : goal.settle_level-requires-clause-awaited
settle_level-requires-clause-awaited g c κs lives =
    let at : slice_get c.args.cut.now c.loop-index.index ≡ Some c.unwrap-places.result.now = sym c.level.ensures ∙ ap option_copied c.unwrap-places.ensures in
    each_place (Awaits c.loop-index.replies) c.unwrap-places.result.now
    (λ place has. c.loop-index.invariant.awaited c.loop-index.index place c.unwrap-places.result.now (omega arith) at has)

pub returns-in_err-settle_level-clause-err : goal.returns-in_err-settle_level-clause-err
returns-in_err-settle_level-clause-err g c =
    let machine = tpcc c.args.catalog.now c.args.plan.now.batch.now.moment in
    let cut = c.args.cut.now in
    let places = c.unwrap-places.result.now in
    let all = jobs c.args.plan.now.first c.args.plan.now.batch.now.requests c.args.plan.now.footprints.now in
    let rows = c.loop-index.store.rows in
    let at : slice_get cut c.loop-index.index ≡ Some places = sym c.level.ensures ∙ ap option_copied c.unwrap-places.ensures in
    stray_up (list_any (job_strays machine rows) (jobs_at all places)) _ c.in_err-settle_level.field-0.0 c.from_residual-in_err-settle_level.result
    (λ strayed. sym c.loop-index.invariant.within ∙ strays_here machine rows all cut c.loop-index.index places at strayed)
    c.in_err-settle_level.ensures.err c.from_residual-in_err-settle_level.ensures.1

pub loop-index-preserved : goal.loop-index-preserved
loop-index-preserved g c =
    let machine = tpcc c.args.catalog.now c.args.plan.now.batch.now.moment in
    let cut = c.args.cut.now in
    let i = c.loop-index.index in
    let places = c.unwrap-places.result.now in
    let all = jobs c.args.plan.now.first c.args.plan.now.batch.now.requests c.args.plan.now.footprints.now in
    let first = c.args.plan.now.first in
    let none : Slots = replicate (length c.args.plan.now.batch.now.requests) None in
    let told = run_replies machine c.args.store.now.rows (plan_levels c.args.plan.now cut) in
    let rows = c.loop-index.store.rows in
    let left = c.settle_level.new.store.rows in
    let at : slice_get cut i ≡ Some places = sym c.level.ensures ∙ ap option_copied c.unwrap-places.ensures in
    let after = c.in_ok-settle_level.ensures.rows in
    record {
      within = strays_on machine rows all cut i places at left after c.in_ok-settle_level.ensures.within ∙ c.loop-index.invariant.within;
      rows = rows_on machine rows all cut i places at left after ∙ c.loop-index.invariant.rows;
      replies =
          some_more first told (level_replies machine rows (jobs_at all places)) (run_replies machine left (levels_from machine rows all cut i places at (i + 1))) none c.loop-index.replies c.settle_level.new.replies c.in_ok-settle_level.ensures.replies
          (subst (λ replies. ComeToHave first told replies none c.loop-index.replies) (replies_on machine rows all cut i places at left after) c.loop-index.invariant.replies);
      awaited = λ level place others low there has.
          c.in_ok-settle_level.ensures.others place
          (λ here. let same = c.requires.once i level place places others at there here has in absurd (omega (arith, same, low)))
          (c.loop-index.invariant.awaited level place others (omega (arith, low)) there has);
      points = c.in_ok-settle_level.ensures.points ∙ c.loop-index.invariant.points;
      clean = kept_twice c.args.store.now c.loop-index.store c.settle_level.new.store c.loop-index.invariant.clean c.in_ok-settle_level.ensures.clean;
    }
