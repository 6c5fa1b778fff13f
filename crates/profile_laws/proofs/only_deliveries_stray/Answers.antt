use Rattle.profile_laws.proofs.Straying.{only_deliveries_stray}
use Rattle.profile_laws.proofs.only_deliveries_stray.Goals as goal

pub returns : goal.returns
returns c = only_deliveries_stray
