use Rattle.zst_record.proofs.StatedHeaders.{begin-stated}
use Rattle.zst_record.proofs.laws.begin_is_stated.Goals as goal

pub returns : goal.returns
returns c = begin-stated
