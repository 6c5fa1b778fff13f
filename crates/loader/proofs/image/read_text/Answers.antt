use Rattle.std.proofs.Common.{rules}
use Rattle.std.proofs.lemmas.Result.{err_from_is_err_and}
use Rattle.loader.proofs.FaultKinds.{stops-of_records}
use Rattle.loader.proofs.ImageLaws.{image-sound}
use Rattle.loader.proofs.image.read_text.Goals as goal

pub returns-in_err-tables-clause-kinds : goal.returns-in_err-tables-clause-kinds
returns-in_err-tables-clause-kinds c = let p = err_from_is_err_and c.from_residual.result c.from_residual.ensures.1 in rw (p.1, p.2) (stops-of_records c.in_err-tables.field-0.0 c.deref.result.now (c.in_err-tables.ensures.err))

pub returns-clause-sound : goal.returns-clause-sound
returns-clause-sound c = image-sound c.args.text.items _ (search rules)
