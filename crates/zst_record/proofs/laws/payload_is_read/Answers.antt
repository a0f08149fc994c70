use Rattle.zst_record.proofs.PayloadLaws.{payload-read}
use Rattle.zst_record.proofs.laws.payload_is_read.Goals as goal

pub returns : goal.returns
returns c = payload-read
