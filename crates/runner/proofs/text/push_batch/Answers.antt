use Rattle.std.proofs.Common.{[], ◌∷◌, codes, decimal}
use Rattle.runner.specs.Text.{path_word, token_digits}
use Rattle.runner.proofs.FieldLemmas.{adds_both, adds_last}
use Rattle.runner.proofs.text.push_batch.Goals as goal

pub returns : goal.returns
returns c =
    let head = adds_both c.args.fields.now c.push.new.fields c.push_number.new.fields (codes "batch" ∷ []) (decimal c.args.sequence ∷ []) c.in_ok-push.ensures c.in_ok-push_number.ensures in
    let path = adds_both c.args.fields.now c.push_number.new.fields c.push_path.new.fields (codes "batch" ∷ decimal c.args.sequence ∷ []) (path_word c.args.path ∷ []) head c.in_ok-push_path.ensures in
    adds_last c.push_token.result c.args.fields.now c.push_path.new.fields c.push_token.new.fields (codes "batch" ∷ decimal c.args.sequence ∷ path_word c.args.path ∷ []) (token_digits c.args.token.now ∷ []) path c.push_token.ensures
