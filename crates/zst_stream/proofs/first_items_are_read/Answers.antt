use Rattle.zst_stream.proofs.ItemStreams.{first_items}
use Rattle.zst_stream.proofs.first_items_are_read.Goals as goal

pub returns : goal.returns
returns c = first_items
