use Rattle.zst_stream.proofs.CarriedItems.{items_fit}
use Rattle.zst_stream.proofs.items_fit.Goals as goal

pub returns : goal.returns
returns c = items_fit
