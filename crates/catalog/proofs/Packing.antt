-- Texts of one width, with zeros up to it, one after another.
use Rattle.std.proofs.Common.{◌≡◌, ◌+◌, ◌*◌, ◌-◌, ◌/◌, ◌<◌, ◌≤◌, ℕ, zero, suc, All, List, [], ◌∷◌, ◌++◌, take, drop, length, length-append, get_or, refl, ap, sym, subst, ◌∙◌, arith}
use Rattle.std.specs.Prelude.{replicate}
use Rattle.std.specs.List.{flat_map}
use Rattle.std.proofs.Math.Nat.{mul-le-mul_right}
use Rattle.std.proofs.Math.Seq.{drop-append_seam, take-append_seam}
use Rattle.std.proofs.lemmas.List.{drop-drop, length-drop, length-replicate, length-take}
use Rattle.std.proofs.lemmas.List.Elements.{All-head, All-more, All-tail}
use Rattle.catalog.specs.Infos.{ArePacked, AreTexts, AreTextsWithin, padded, texts_of, texts_within, width_of}
use Rattle.tpcc_rows.specs.Texts.{IsPadded, IsText, before_zeros}
use Rattle.tpcc_rows.proofs.Padding as padding

pub wider : (low high : ℕ) (text : List ℕ) → low ≤ high → IsText low text → IsText high text
wider low high text up is = let fits = is.fits in record { fits = omega (arith, fits, up); printable = is.printable }

-- one text more, and no less room for each
pub one_more : (low high i : ℕ) (texts : List (List ℕ)) (text : List ℕ) → i < length texts → All (IsText low) (take i texts) → low ≤ high
    → text ≡ get_or texts i text → IsText high text → All (IsText high) (take (i + 1) texts)
one_more low high i texts text below are up here is =
    All-more (IsText high) texts i text below (λ k d few. wider low high (get_or (take i texts) k d) up (are k d few)) (subst (IsText high) here is)

pub length-texts_within : (count width : ℕ) (bytes : List ℕ) → length (texts_within count width bytes) ≡ count
unfolding texts_within
length-texts_within zero width bytes = refl
length-texts_within (suc count) width bytes = ap suc (length-texts_within count width (drop width bytes))

-- the first place
at_start : (width : ℕ) (bytes : List ℕ) → drop (0 * width) bytes ≡ bytes
at_start width bytes = let none : 0 * width ≡ 0 = omega arith in ap (λ n. drop n bytes) none

-- one place further
further : (width place : ℕ) (bytes : List ℕ) → drop (place * width) (drop width bytes) ≡ drop (suc place * width) bytes
further width place bytes =
    let same : width + place * width ≡ suc place * width = omega arith in
    drop-drop (place * width) width bytes ∙ ap (λ n. drop n bytes) same

text_within : (count width place : ℕ) (bytes : List ℕ) → place < count → before_zeros (take width (drop (place * width) bytes)) ≡ get_or (texts_within count width bytes) place []
unfolding texts_within
text_within zero width place bytes below = absurd (omega arith)
text_within (suc count) width zero bytes below = ap (λ rest. before_zeros (take width rest)) (at_start width bytes)
text_within (suc count) width (suc place) bytes below =
    ap (λ rest. before_zeros (take width rest)) (sym (further width place bytes)) ∙ text_within count width place (drop width bytes) (omega arith)

padded_within : (count width place : ℕ) (bytes : List ℕ) → AreTextsWithin count width bytes → place < count → IsPadded width (take width (drop (place * width) bytes))
unfolding AreTextsWithin
padded_within zero width place bytes are below = absurd (omega arith)
padded_within (suc count) width zero bytes are below = subst (λ rest. IsPadded width (take width rest)) (sym (at_start width bytes)) are.0
padded_within (suc count) width (suc place) bytes are below =
    subst (λ rest. IsPadded width (take width rest)) (further width place bytes) (padded_within count width place (drop width bytes) are.1 (omega arith))

-- each of ten places lies within the bytes
place_within : (place all : ℕ) → place < 10 → place * (all / 10) + all / 10 ≤ all
place_within place all below =
    let few : suc place * (all / 10) ≤ 10 * (all / 10) = mul-le-mul_right (all / 10) below in
    omega (arith, few)

-- the part of a place is its text, padded
pub record IsPlaced (texts : List (List ℕ)) (place : ℕ) (part : List ℕ) : Type 0 where
  pub value : before_zeros part ≡ get_or texts place []
  pub padded : IsPadded (length part) part
  pub fits : length part ≤ 24

pub placed : (bytes : List ℕ) (texts : List (List ℕ)) (place width : ℕ) → AreTexts bytes → texts_of bytes ≡ texts → width ≡ width_of bytes → place < 10
    → IsPlaced texts place (take (place * width + width - place * width) (drop (place * width) bytes))
placed bytes texts place width are value is below =
    let end = place * width_of bytes + width_of bytes in
    let behind = drop (place * width_of bytes) bytes in
    let part = take (width_of bytes) behind in
    let within : end ≤ length bytes = place_within place (length bytes) below in
    let left : length behind ≡ length bytes - place * width_of bytes = length-drop (place * width_of bytes) bytes in
    let same : width_of bytes ≡ length part = omega (arith, length-take (width_of bytes) behind, left, within) in
    let count : width_of bytes ≡ end - place * width_of bytes = omega arith in
    let here : IsPlaced texts place part = record {
      value = text_within 10 (width_of bytes) place bytes below ∙ ap (λ ts. get_or ts place []) value;
      padded = subst (λ n. IsPadded n part) same (padded_within 10 (width_of bytes) place bytes are.texts below);
      fits = subst (λ n. n ≤ 24) same are.fits;
    } in
    subst (λ w. IsPlaced texts place (take (place * w + w - place * w) (drop (place * w) bytes))) (sym is) (subst (λ n. IsPlaced texts place (take n behind)) count here)

length-padded : (width : ℕ) (text : List ℕ) → length text ≤ width → length (padded width text) ≡ width
length-padded width text fits =
    length-append text (replicate (width - length text) 0) ∙ ap (λ n. length text + n) (length-replicate (width - length text) 0) ∙ omega (arith, fits)

first_laid : (width : ℕ) (text rest : List ℕ) → length text ≤ width → take width (padded width text ++ rest) ≡ padded width text
first_laid width text rest fits =
    subst (λ n. take n (padded width text ++ rest) ≡ padded width text) (length-padded width text fits) (take-append_seam (padded width text) rest)

others_laid : (width : ℕ) (text rest : List ℕ) → length text ≤ width → drop width (padded width text ++ rest) ≡ rest
others_laid width text rest fits =
    subst (λ n. drop n (padded width text ++ rest) ≡ rest) (length-padded width text fits) (drop-append_seam (padded width text) rest)

length-laid : (width : ℕ) (texts : List (List ℕ)) → All (IsText width) texts → length (flat_map (padded width) texts) ≡ length texts * width
length-laid width [] are = omega arith
length-laid width (text ∷ texts) are =
    let is = All-head (IsText width) text texts are in
    let one = length-padded width text is.fits in
    let others = length-laid width texts (All-tail (IsText width) text texts are) in
    length-append (padded width text) (flat_map (padded width) texts) ∙ omega (arith, one, others)

laid_texts : (width : ℕ) (texts : List (List ℕ)) → All (IsText width) texts → texts_within (length texts) width (flat_map (padded width) texts) ≡ texts
unfolding texts_within
laid_texts width [] are = refl
laid_texts width (text ∷ texts) are =
    let is = All-head (IsText width) text texts are in
    let rest = flat_map (padded width) texts in
    ap (λ first. before_zeros first ∷ texts_within (length texts) width (drop width (padded width text ++ rest))) (first_laid width text rest is.fits)
    ∙ ap (λ first. first ∷ texts_within (length texts) width (drop width (padded width text ++ rest))) (padding.before_zeros-filled width text is)
    ∙ ap (λ others. text ∷ texts_within (length texts) width others) (others_laid width text rest is.fits)
    ∙ ap (λ others. text ∷ others) (laid_texts width texts (All-tail (IsText width) text texts are))

laid_are_texts : (width : ℕ) (texts : List (List ℕ)) → All (IsText width) texts → AreTextsWithin (length texts) width (flat_map (padded width) texts)
unfolding AreTextsWithin
laid_are_texts width [] are = refl
laid_are_texts width (text ∷ texts) are =
    let is = All-head (IsText width) text texts are in
    let rest = flat_map (padded width) texts in (
      subst (IsPadded width) (sym (first_laid width text rest is.fits)) (padding.padded width text is),
      subst (AreTextsWithin (length texts) width) (sym (others_laid width text rest is.fits)) (laid_are_texts width texts (All-tail (IsText width) text texts are)),
    )

-- ten texts of a width, padded, are the ten texts of the bytes
pub laid_packed : (width : ℕ) (texts : List (List ℕ)) → length texts ≡ 10 → All (IsText width) texts → width ≤ 24 → ArePacked texts (flat_map (padded width) texts)
laid_packed width texts ten are fits =
    let bytes = flat_map (padded width) texts in
    let all : length bytes ≡ 10 * width = length-laid width texts are ∙ ap (λ n. n * width) ten in
    let same : width ≡ width_of bytes = omega (arith, all) in
    record {
      are_texts = record {
        texts = subst (λ w. AreTextsWithin 10 w bytes) same (subst (λ n. AreTextsWithin n width bytes) ten (laid_are_texts width texts are));
        fits = subst (λ w. w ≤ 24) same fits;
      };
      value = subst (λ w. texts_within 10 w bytes ≡ texts) same (subst (λ n. texts_within n width bytes ≡ texts) ten (laid_texts width texts are));
    }

-- the bytes before the place where a text ends
pub text_ended : (bytes : List ℕ) (end : ℕ) → IsPadded (length bytes) bytes → end ≡ length (before_zeros bytes) → take end bytes ≡ before_zeros bytes
text_ended bytes end is at =
    let text = before_zeros bytes in
    let zeros = replicate (length bytes - length text) 0 in
    ap (λ n. take n bytes) at ∙ ap (take (length text)) is.zeros ∙ take-append_seam text zeros
