use Rattle.std.proofs.Common.{rules, ℕ, List, [], ◌∷◌, ◌≡◌, OnOk, subst}
use Rattle.records.specs.Spelling.{AddsFields}
use Rattle.runner.specs.Text.{path_word}
use Rattle.runner.proofs.text.push_path.Goals as goal

pub returns : goal.returns
returns c =
    let word : c.as_bytes.result.now ≡ path_word c.args.path = search rules in
    subst (λ (word : List ℕ). OnOk c.push.result (AddsFields c.args.fields.now c.push.new.fields (word ∷ []))) word c.push.ensures
