use Rattle.zst_stream.proofs.ImageReadings.{first_pieces}
use Rattle.zst_stream.proofs.first_pieces_are_covered.Goals as goal

pub returns : goal.returns
returns c = first_pieces
