use Rattle.loader.proofs.ImageLaws.{image-sound}
use Rattle.loader.proofs.laws.images_are_sound.Goals as goal

pub returns : goal.returns
returns c = image-sound
