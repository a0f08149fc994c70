use Rattle.zst_laws.proofs.sends.ReceivedRecords.{received_applied, received_state}
use Rattle.zst_laws.proofs.received_records.received_is_state.Goals as goal

pub returns : goal.returns
returns c = record { applied = received_applied; state = received_state }
