use Rattle.token_laws.proofs.HashChains.{equal_hash_chains}
use Rattle.token_laws.proofs.equal_hash_chains.Goals as goal

pub returns : goal.returns
returns c = equal_hash_chains
