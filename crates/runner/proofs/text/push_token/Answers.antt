use Rattle.std.proofs.Common.{ℕ, List, [], ◌∷◌, ◌∙◌, OnOk, subst}
use Rattle.records.specs.Spelling.{AddsFields}
use Rattle.runner.proofs.text.push_token.Goals as goal

pub returns : goal.returns
returns c = subst (λ (digits : List ℕ). OnOk c.push.result (AddsFields c.args.fields.now c.push.new.fields (digits ∷ []))) (c.as_slice.ensures ∙ c.digits_of.ensures) c.push.ensures
