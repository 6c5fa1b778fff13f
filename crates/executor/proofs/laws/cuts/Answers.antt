use Rattle.serializability.specs.Signatures.{meets_by}
use Rattle.executor.proofs.CutPlaces.{is_cut}
use Rattle.executor.proofs.laws.cuts.Goals as goal

pub returns : goal.returns
returns c = λ code footprints. is_cut (meets_by code) footprints
