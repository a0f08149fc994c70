use Rattle.zst_stream.proofs.ImageReadings.{whole}
use Rattle.zst_stream.proofs.image_is_read.Goals as goal

pub returns : goal.returns
returns c = whole
