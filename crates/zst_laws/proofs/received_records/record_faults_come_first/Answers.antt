use Rattle.zst_laws.proofs.sends.ReceivedRecords.{faults_first, far_faults}
use Rattle.zst_laws.proofs.received_records.record_faults_come_first.Goals as goal

pub returns : goal.returns
returns c = record { first = faults_first; values = far_faults }
