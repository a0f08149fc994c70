use Rattle.zst_record.proofs.DecodingLaws.{later-back}
use Rattle.zst_record.proofs.laws.record_is_decoded.Goals as goal

pub returns : goal.returns
returns c = later-back
