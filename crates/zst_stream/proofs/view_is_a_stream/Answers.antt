use Rattle.zst_stream.proofs.ItemStreams.{view_stream}
use Rattle.zst_stream.proofs.view_is_a_stream.Goals as goal

pub returns : goal.returns
returns c = view_stream
