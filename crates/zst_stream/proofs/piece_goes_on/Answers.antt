use Rattle.zst_stream.proofs.ImageReadings.{piece_goes_on}
use Rattle.zst_stream.proofs.piece_goes_on.Goals as goal

pub returns : goal.returns
returns c = piece_goes_on
