use Rattle.zst_laws.proofs.sends.ReceivedRecords.{part_way_completed}
use Rattle.zst_laws.proofs.received_records.part_way_is_completed.Goals as goal

pub returns : goal.returns
returns c = part_way_completed
