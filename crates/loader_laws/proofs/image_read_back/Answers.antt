use Rattle.std.proofs.Common.{refl}
use Rattle.loader_laws.proofs.StoredChecks.{parents-pass, ytds-pass}
use Rattle.loader_laws.proofs.StoredDistricts.{line_counts-pass, next_orders-pass, spans-pass}
use Rattle.loader_laws.proofs.StoredImage.{records_in-image, stored-read}
use Rattle.loader_laws.proofs.image_read_back.Goals as goal

pub returns : goal.returns
returns c = λ db sound. rw (records_in-image db, stored-read db sound, parents-pass db sound, ytds-pass db sound, next_orders-pass db sound, spans-pass db sound, line_counts-pass db sound) refl
