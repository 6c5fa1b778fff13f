-- The texts S_DIST_01 to S_DIST_10, padded to one width and laid one after another.
use Rattle.std.specs.Prelude.{ℕ, zero, suc, ◌≡◌, ◌≤◌, ◌-◌, ◌/◌, List, [], ◌∷◌, ◌++◌, drop, length, replicate, take}
use Rattle.tpcc_rows.specs.Texts.{IsPadded, before_zeros}

-- the text, and zeros up to the width
abbrev pub padded : ℕ → List ℕ → List ℕ
padded width text = text ++ replicate (width - length text) 0

-- so many texts of a width, each without its zeros
unfoldable pub texts_within : ℕ → ℕ → List ℕ → List (List ℕ)
texts_within zero width bytes = []
texts_within (suc count) width bytes = before_zeros (take width bytes) ∷ texts_within count width (drop width bytes)

-- so many texts of a width, each with its zeros
unfoldable pub AreTextsWithin : ℕ → ℕ → List ℕ → Type 0
AreTextsWithin zero width bytes = bytes ≡ []
AreTextsWithin (suc count) width bytes = IsPadded width (take width bytes) × AreTextsWithin count width (drop width bytes)

-- the width of ten texts
abbrev pub width_of : List ℕ → ℕ
width_of bytes = length bytes / 10

-- the ten texts
abbrev pub texts_of : List ℕ → List (List ℕ)
texts_of bytes = texts_within 10 (width_of bytes) bytes

-- ten texts of one width, each with its zeros
pub record AreTexts (bytes : List ℕ) : Type 0 where
  pub texts : AreTextsWithin 10 (width_of bytes) bytes
  pub fits : width_of bytes ≤ 24

-- these texts lie in the bytes
pub record ArePacked (texts : List (List ℕ)) (bytes : List ℕ) : Type 0 where
  pub are_texts : AreTexts bytes
  pub value : texts_of bytes ≡ texts
