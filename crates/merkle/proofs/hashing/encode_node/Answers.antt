use Rattle.std.proofs.Common.{◌∷◌, ap, refl}
use Rattle.merkle.proofs.NodeTexts.{both_laid}
use Rattle.merkle.proofs.hashing.encode_node.Goals as goal

pub returns : goal.returns
returns c =
    ap (λ rest. 1 ∷ rest)
    (both_laid c.args.left.now c.args.right.now _ _ _ _ c.copy_from_slice.ensures.after c.copy_from_slice-2.ensures.after c.told-left refl)
