use Rattle.zst_record.proofs.SizeLaws.{bounded}
use Rattle.zst_record.proofs.laws.payload_is_bounded.Goals as goal

pub returns-clause-bounded : goal.returns-clause-bounded
returns-clause-bounded c = bounded
