use Rattle.zst_record.proofs.PayloadLaws.{payload-fits}
use Rattle.zst_record.proofs.laws.payload_has_length.Goals as goal

pub returns : goal.returns
returns c = payload-fits
