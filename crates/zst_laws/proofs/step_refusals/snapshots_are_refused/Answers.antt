use Rattle.zst_laws.proofs.pools.StepRefusals.{snapshot_there, snapshots_full, guids_over, snapshot_number}
use Rattle.zst_laws.proofs.step_refusals.snapshots_are_refused.Goals as goal

pub returns : goal.returns
returns c = record { there = snapshot_there; full = snapshots_full; guids = guids_over; number = snapshot_number }
