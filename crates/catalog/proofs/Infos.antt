-- The texts of a stock's card, one after another.
use Rattle.std.proofs.Common.{◌≡◌, ◌<◌, ◌+◌, ℕ, suc, List, [], ◌∷◌, ◌++◌, drop, length, slice_index_or, ap, ◌∙◌, sym, add-one}
use Rattle.std.proofs.Math.Seq.{drop-cons}
use Rattle.std.specs.List.{flat_map}
use Rattle.tpcc_rows.specs.Encodings.{short_text}

-- the first of the texts that are left, and the others
pub one_less : (texts : List (List ℕ)) (i : ℕ) (text : List ℕ) → i < length texts → text ≡ slice_index_or texts i []
    → flat_map short_text (drop i texts) ≡ short_text text ++ flat_map short_text (drop (i + 1) texts)
one_less texts i text below is =
    let here : drop i texts ≡ text ∷ drop (suc i) texts = drop-cons texts i [] below ∙ ap (λ (t : List ℕ). t ∷ drop (suc i) texts) (sym is) in
    ap (flat_map short_text) here ∙ ap (λ k. short_text text ++ flat_map short_text (drop k texts)) (sym (add-one i))
