use Rattle.zst_record.proofs.BeginLaws.{begin-back}
use Rattle.zst_record.proofs.laws.begin_is_decoded.Goals as goal

pub returns : goal.returns
returns c = begin-back
