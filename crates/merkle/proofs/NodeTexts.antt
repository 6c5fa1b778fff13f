-- The text of a node, laid out part by part.
use Rattle.std.proofs.Common.{◌≡◌, ℕ, List, [], ◌∷◌, ◌++◌, length, take, drop, length-append, length-drop, ap, refl, ◌∙◌, arith}
use Rattle.std.proofs.lemmas.List.{append-nil, drop_all, take_at}
use borrow.Rule.Slice.PartMut.{post_of}

-- two hashes laid over 64 bytes
pub both_laid : (left right before first second rest : List ℕ) → first ≡ left → second ≡ right → length left ≡ 32 → length rest ≡ 32
    → take 32 (first ++ before) ++ (second ++ post_of 33 32 (1 ∷ (first ++ rest))) ≡ left ++ right
both_laid left right before first second rest is also long short =
    let whole : length (first ++ rest) ≡ 64 = length-append first rest ∙ omega (arith, ap length is, long, short) in
    let end : post_of 33 32 (1 ∷ (first ++ rest)) ≡ [] = drop_all 32 (drop 33 (1 ∷ (first ++ rest))) (omega (arith, length-drop 32 (first ++ rest), whole)) in
    rw (take_at first before 32 (ap length is ∙ long), end, append-nil second, is, also) refl
