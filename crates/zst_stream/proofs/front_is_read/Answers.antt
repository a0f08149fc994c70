use Rattle.zst_stream.proofs.ImageReadings.{front_whole}
use Rattle.zst_stream.proofs.front_is_read.Goals as goal

pub returns : goal.returns
returns c = front_whole
