use Rattle.zst_check.proofs.Reports.{decided_has_report}
use Rattle.zst_check.proofs.laws.decided_pools_have_reports.Goals as goal

pub returns : goal.returns
returns c = decided_has_report
