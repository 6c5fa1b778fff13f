-- A writer of records of any lengths writes a record as one by the defaults does.
use Rattle.std.proofs.Common.{◌≡◌, ℕ, List, [], ◌∷◌, ◌++◌, length, cond, refl, ap, ap₂, true, ◌==◌}
use Rattle.csv.specs.Writing.{default_writer, escaped, field_text, fields_text, is_blank, needs_quotes, row_text, with_flexible}
use Rattle.records.specs.Fields.{Fields}
use Rattle.records.specs.Spelling.{text_of_record}

escaped-same : (field : List ℕ) → escaped (with_flexible default_writer true) field ≡ escaped default_writer field
unfolding escaped
escaped-same [] = refl
escaped-same (b ∷ rest) = ap (λ (t : List ℕ). cond (b == 34) (34 ∷ b ∷ t) (b ∷ t)) (escaped-same rest)

field-same : (field : List ℕ) → field_text (with_flexible default_writer true) field ≡ field_text default_writer field
field-same field = ap (λ (t : List ℕ). cond (needs_quotes default_writer field) (34 ∷ (t ++ 34 ∷ [])) field) (escaped-same field)

fields-same : (fields : Fields) → fields_text (with_flexible default_writer true) fields ≡ fields_text default_writer fields
unfolding fields_text
fields-same [] = refl
fields-same (field ∷ rest) = ap₂ (λ (s t : List ℕ). 44 ∷ (s ++ t)) (field-same field) (fields-same rest)

pub flexible_row : (fields : Fields) → row_text (with_flexible default_writer true) fields ≡ text_of_record fields
unfolding fields_text is_blank
flexible_row [] = refl
flexible_row (field ∷ []) = ap (λ (t : List ℕ). (t ++ []) ++ (cond (length t == 0) (34 ∷ 34 ∷ []) [] ++ 10 ∷ [])) (field-same field)
flexible_row (field ∷ next ∷ rest) = ap₂ (λ (s t : List ℕ). (s ++ t) ++ ([] ++ 10 ∷ [])) (field-same field) (fields-same (next ∷ rest))
