use Rattle.zst_record.proofs.RecordValueLaws.{begins, follows}
use Rattle.zst_record.proofs.laws.decoded_fits.Goals as goal

pub returns-clause-first : goal.returns-clause-first
returns-clause-first c = begins

pub returns-clause-later : goal.returns-clause-later
returns-clause-later c = follows
