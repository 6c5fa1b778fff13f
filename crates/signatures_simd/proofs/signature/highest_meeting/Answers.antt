use Rattle.std.proofs.Common.{◌-◌, sym, ◌∙◌, arith}
use Rattle.serializability.specs.BitSets.{meet}
use Rattle.signatures_simd.proofs.Lasts.{last_at, none_more, none_at_end}
use Rattle.signatures_simd.proofs.signature.highest_meeting.Goals as goal

pub loop-place-init : goal.loop-place-init
loop-place-init c = none_at_end (meet c.args.other.now) c.args.signatures.now _ _ (omega arith)

pub loop-place-preserved : goal.loop-place-preserved
loop-place-preserved c =
    none_more (meet c.args.other.now) c.args.signatures.now (c.loop-place.place - 1) c.loop-place.place c.index-signatures-place.result (omega arith) (omega arith)
    c.index-signatures-place.is (sym c.meets.ensures ∙ c.if-meets.false) c.loop-place.invariant

pub returns-then-meets : goal.returns-then-meets
returns-then-meets c =
    last_at (meet c.args.other.now) c.args.signatures.now (c.loop-place.place - 1) c.loop-place.place c.index-signatures-place.result (omega arith) (omega arith)
    c.index-signatures-place.is (sym c.meets.ensures ∙ c.if-meets.true) c.loop-place.invariant
