use Rattle.zst_stream.proofs.PassedRecords.{in_order}
use Rattle.zst_stream.proofs.covered_in_order.Goals as goal

pub returns : goal.returns
returns c = in_order
