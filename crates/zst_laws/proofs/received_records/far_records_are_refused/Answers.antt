use Rattle.zst_laws.proofs.sends.ReceivedRecords.{writes_far, redacts_far, others_have_none}
use Rattle.zst_laws.proofs.received_records.far_records_are_refused.Goals as goal

pub returns : goal.returns
returns c = record { writes = writes_far; redacts = redacts_far; others = others_have_none }
