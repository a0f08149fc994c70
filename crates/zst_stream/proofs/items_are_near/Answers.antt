use Rattle.zst_stream.proofs.NearItems.{items_near}
use Rattle.zst_stream.proofs.items_are_near.Goals as goal

pub returns : goal.returns
returns c = items_near
