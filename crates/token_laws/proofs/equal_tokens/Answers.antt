use Rattle.token_laws.proofs.EqualTokens.{equal_tokens}
use Rattle.token_laws.proofs.equal_tokens.Goals as goal

pub returns : goal.returns
returns c = equal_tokens
