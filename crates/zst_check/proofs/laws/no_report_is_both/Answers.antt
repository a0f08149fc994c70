use Rattle.zst_check.proofs.Reports.{none_is_both}
use Rattle.zst_check.proofs.laws.no_report_is_both.Goals as goal

pub returns : goal.returns
returns c = none_is_both
