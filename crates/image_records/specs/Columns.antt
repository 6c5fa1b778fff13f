-- Columns of an image other than numbers and texts.
use Rattle.std.specs.Prelude.{◌+◌, List, [], ◌∷◌, ℕ, zero, suc, codes, Option, Result, Ok, Err, if◌then◌else◌}
use Rattle.catalog.specs.declared.card.Credit.{Credit}
use Rattle.catalog.specs.declared.card.Credit.TheVariants as credit
use Rattle.records.specs.Fields.{Fields, ◌>>=◌, is_text, text_at}
use Rattle.records.specs.declared.fault.FaultKind.{FaultKind}
use Rattle.records.specs.declared.fault.FaultKind.TheVariants as fault_kind

-- C_CREDIT
abbrev pub credit_of : Option (List ℕ) → Result Credit FaultKind
credit_of field =
    if is_text (codes "GC") field then Ok credit.Good
    else if is_text (codes "BC") field then Ok credit.Bad
    else Err fault_kind.BadField

-- the texts in `count` fields from index `i` on
unfoldable pub texts_at : Fields → ℕ → ℕ → ℕ → Result (List (List ℕ)) FaultKind
texts_at fields i zero most = Ok []
texts_at fields i (suc count) most = do
  text ← text_at fields i most
  texts ← texts_at fields (i + 1) count most
  Ok (text ∷ texts)
