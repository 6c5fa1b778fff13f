use Rattle.std.proofs.Common.{ap, ◌∙◌, rules}
use Rattle.sha2.specs.Sha256.{sha256}
use Rattle.tpcc_model.specs.Tokens.{token_of}
use Rattle.tpcc_rows.specs.Encodings.{bytes_64}
use Rattle.token.proofs.token.TokenParts.token.Goals as goal

pub returns : goal.returns
unfolding token_of bytes_64
returns c =
    let whole = c.update-6.ensures _ (c.update-5.ensures _ (c.update-4.ensures _ (c.update-3.ensures _ (c.update-2.ensures _ (c.update.ensures _ c.new-hasher.ensures))))) in
    c.finalize.ensures _ whole ∙ ap sha256 (search rules)
