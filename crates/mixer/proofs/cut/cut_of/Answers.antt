use Rattle.std.proofs.Common.{◌∙◌, [], replicate, sym, ap, refl, arith}
use Rattle.serializability.specs.Levels.{depth}
use Rattle.mixer.proofs.CutSteps.{below_depth, cut_none, filled_length, filled_more}
use Rattle.mixer.proofs.cut.cut_of.Goals as goal

-- src/cut.rt:62:5
pub loop-place-init : goal.loop-place-init
loop-place-init c = c.in_ok-cut.ensures ∙ ap (λ count. replicate count []) c.depth_of.ensures ∙ sym (cut_none 0 (depth c.args.levels.now))

-- src/cut.rt:63:9
pub index_mut-requires : goal.index_mut-requires
index_mut-requires c =
    omega (arith, filled_length (λ places. places.items) c.loop-place.cut.items _ _ c.loop-place.invariant, below_depth c.args.levels.now c.loop-place.place 0 c.loop-place-test.true)

-- src/cut.rt:62:5
pub loop-place-preserved : goal.loop-place-preserved
loop-place-preserved c =
    filled_more (λ places. places.items) c.loop-place.cut.items _ c.index_mut.result.now c.push.new.self c.args.levels.now c.loop-place.place 0 _ c.loop-place-test.true
    (below_depth c.args.levels.now c.loop-place.place 0 c.loop-place-test.true) c.index_mut.ensures.value refl c.in_ok-push.ensures.items c.loop-place.invariant
