use Rattle.zst_stream.proofs.ItemStreams.{items_read}
use Rattle.zst_stream.proofs.items_are_read.Goals as goal

pub returns : goal.returns
returns c = items_read
