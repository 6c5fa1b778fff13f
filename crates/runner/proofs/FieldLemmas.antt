-- Fields that are added one after the other.
use Rattle.std.proofs.Common.{◌∙◌, ◌++◌, OnOk, Result, Ok, Err, ap, append_assoc}
use Rattle.csv.specs.Records.{Row, fields_of}
use Rattle.records.specs.Fields.{Fields}
use Rattle.records.specs.Spelling.{AddsFields}

pub adds_both : (a b c : Row) (xs ys : Fields) → AddsFields a b xs → AddsFields b c ys → AddsFields a c (xs ++ ys)
adds_both a b c xs ys first second = (second.0 ∙ ap (λ (f : Fields). f ++ ys) first.0 ∙ append_assoc (fields_of a) xs ys, second.1)

pub adds_last : {A E : Type 0} (r : Result A E) (a b c : Row) (xs ys : Fields) → AddsFields a b xs → OnOk r (AddsFields b c ys) → OnOk r (AddsFields a c (xs ++ ys))
adds_last (Ok x) a b c xs ys first second = adds_both a b c xs ys first second
adds_last (Err e) a b c xs ys first second = tt
