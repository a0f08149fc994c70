use Rattle.zst_record.proofs.PayloadLaws.{payload-written}
use Rattle.zst_record.proofs.laws.payload_is_written.Goals as goal

pub returns : goal.returns
returns c = payload-written
