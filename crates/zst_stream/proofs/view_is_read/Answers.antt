use Rattle.zst_stream.proofs.ItemStreams.{view_read}
use Rattle.zst_stream.proofs.view_is_read.Goals as goal

pub returns : goal.returns
returns c = view_read
