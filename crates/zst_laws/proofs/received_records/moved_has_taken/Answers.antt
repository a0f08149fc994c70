use Rattle.zst_laws.proofs.sends.ReceivedRecords.{moved_has_taken, taken_together}
use Rattle.zst_laws.proofs.received_records.moved_has_taken.Goals as goal

pub returns : goal.returns
returns c = record { one = moved_has_taken; together = taken_together }
