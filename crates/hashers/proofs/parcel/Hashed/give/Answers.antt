use Rattle.std.proofs.Common.{arith, ap, sym, ◌∙◌}
use Rattle.std.proofs.lemmas.List.{length-set}
use Rattle.sha2.specs.Sha256.{sha256}
use Rattle.hashers.proofs.Turns.{one_more}
use Rattle.hashers.proofs.parcel.Hashed.give.Goals as goal

pub loop-k-preserved : goal.loop-k-preserved
loop-k-preserved g c = (
  length-set c.loop-k.digests c.loop-k.k c.index-in-loop-k.result.now ∙ c.loop-k.invariant.0,
  one_more _ _ c.args.messages.now _ _ _ c.args.self.now.parcel.len c.loop-k.k c.index.result.now _ c.index-in-loop-k.result.now c.args.self.now.are_of_texts (omega arith) (omega arith) (omega arith) (omega arith) c.index.ensures c.index-in-loop-k.ensures (ap sha256 (sym c.as_slice.ensures.value ∙ c.if-not-is_same.ensures)) c.loop-k.invariant.1,
)
