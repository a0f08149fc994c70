use Rattle.zst_stream.proofs.ImageReadings.{pieces}
use Rattle.zst_stream.proofs.covers_are_pieces.Goals as goal

pub returns : goal.returns
returns c = pieces
