use Rattle.zst_stream.proofs.PassedRecords.{passed}
use Rattle.zst_stream.proofs.covered_fit.Goals as goal

pub returns : goal.returns
returns c = passed
