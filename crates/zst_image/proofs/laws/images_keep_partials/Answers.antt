use Rattle.zst_image.proofs.KeptPartials.{images_keep}
use Rattle.zst_image.proofs.laws.images_keep_partials.Goals as goal

pub returns : goal.returns
returns c = λ tight. images_keep {tight = tight}
