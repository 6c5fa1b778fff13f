use Rattle.std.proofs.Common.{◌≤◌, rules, length, sym, subst, arith}
use Rattle.std.specs.List.{zip}
use Rattle.serializability.specs.Signatures.{meets_by}
use Rattle.mixer.specs.Slots.{slot}
use Rattle.mixer.specs.Tables.{AreColumns}
use Rattle.mixer.proofs.LevelSteps.{levels_step, done_step}
use Rattle.mixer.proofs.Lists.{below_push}
use Rattle.mixer.proofs.levels.exact_levels_of.Goals as goal

pub loop-footprint-preserved : goal.loop-footprint-preserved
loop-footprint-preserved c =
    let levels = c.loop-footprint.levels.items in
    let footprints = c.args.footprints.now in
    let level = c.place.result in
    let low : level ≤ length levels = omega (arith, c.place.ensures.bound, c.loop-footprint.invariant.count, c.loop-footprint.invariant.placed) in
    let done = zip levels footprints in
    record {
      told = levels_step (meets_by slot) levels _ footprints c.footprint-item.result level c.loop-footprint.footprint-index _ c.loop-footprint-test.true c.loop-footprint.invariant.count c.footprint-item.is (c.place.ensures.level done c.loop-footprint.invariant.columns) c.in_ok-push.ensures.items c.loop-footprint.invariant.told;
      columns = subst (AreColumns c.place.new.self) (sym (done_step levels c.push.new.self.items footprints c.footprint-item.result level c.loop-footprint.footprint-index c.loop-footprint-test.true c.loop-footprint.invariant.count c.footprint-item.is c.in_ok-push.ensures.items)) (c.place.ensures.columns done c.loop-footprint.invariant.columns);
      count = search rules;
      placed = omega (arith, c.place.ensures.placed, c.loop-footprint.invariant.placed);
      below = below_push levels c.push.new.self.items level low c.in_ok-push.ensures.items c.loop-footprint.invariant.below;
    }
