use Rattle.zst_check.proofs.Denials.{late_snapshot_denies}
use Rattle.zst_check.proofs.laws.late_snapshots_deny_dates.Goals as goal

pub returns : goal.returns
returns c = late_snapshot_denies
