use Rattle.std.proofs.Common.{◌≤◌, rules, length, sym, subst, arith}
use Rattle.std.specs.List.{zip}
use Rattle.serializability.specs.Signatures.{meets_by}
use Rattle.signatures_simd.specs.Bits.{bit}
use Rattle.mixer.specs.LevelRows.{AreRows}
use Rattle.mixer.proofs.LevelSteps.{levels_step, done_step}
use Rattle.mixer.proofs.Lists.{below_push}
use Rattle.mixer.proofs.levels.levels_of.Goals as goal

pub loop-footprint-preserved : goal.loop-footprint-preserved
loop-footprint-preserved c =
    let low : c.in_ok-level.level ≤ length c.loop-footprint.levels.items = omega (arith, c.in_ok-level.ensures.bound, c.loop-footprint.invariant.count, c.loop-footprint.invariant.reads, c.loop-footprint.invariant.writes) in
    let done = zip c.loop-footprint.levels.items c.args.footprints.now in
    record {
      told = levels_step (meets_by bit) c.loop-footprint.levels.items _ c.args.footprints.now c.footprint-item.result c.in_ok-level.level c.loop-footprint.footprint-index _ c.loop-footprint-test.true c.loop-footprint.invariant.count c.footprint-item.is (c.in_ok-level.ensures.level done c.loop-footprint.invariant.rows) c.in_ok-push.ensures.items c.loop-footprint.invariant.told;
      rows = subst (AreRows c.place.new.self) (sym (done_step c.loop-footprint.levels.items c.push.new.self.items c.args.footprints.now c.footprint-item.result c.in_ok-level.level c.loop-footprint.footprint-index c.loop-footprint-test.true c.loop-footprint.invariant.count c.footprint-item.is c.in_ok-push.ensures.items)) (c.in_ok-level.ensures.rows done c.loop-footprint.invariant.rows);
      count = search rules;
      reads = omega (arith, c.in_ok-level.ensures.reads, c.loop-footprint.invariant.reads);
      writes = omega (arith, c.in_ok-level.ensures.writes, c.loop-footprint.invariant.writes);
      below = below_push c.loop-footprint.levels.items c.push.new.self.items c.in_ok-level.level low c.in_ok-push.ensures.items c.loop-footprint.invariant.below;
    }
