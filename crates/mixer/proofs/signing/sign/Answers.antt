use Rattle.std.proofs.Common.{List, ◌==◌, map, ap, ◌∙◌, ℕ, Bool}
use Rattle.std.specs.List.{list_any}
use Rattle.serializability.proofs.BitSets.{all_bits}
use Rattle.tpcc_rows.specs.declared.granule.Granule.{Granule}
use Rattle.signatures_simd.specs.Bits.{bit}
use Rattle.mixer.proofs.signing.sign.Goals as goal

-- src/signing.rt:18:1
pub returns : goal.returns
returns c =
    let numbered : ℕ → List Granule → Bool = λ b granules. list_any (◌==◌ b) (map bit granules) in
    record {
      touched = λ b. c.of.ensures b ∙ (ap (numbered b) c.reads.ensures ∙ all_bits bit c.args.footprint.now b c.writes.ensures.read);
      written = λ b. c.of-2.ensures b ∙ ap (numbered b) c.writes.ensures.value;
    }
