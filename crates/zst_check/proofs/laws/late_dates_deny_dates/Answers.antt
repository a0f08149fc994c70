use Rattle.zst_check.proofs.Denials.{late_date_denies}
use Rattle.zst_check.proofs.laws.late_dates_deny_dates.Goals as goal

pub returns : goal.returns
returns c = late_date_denies
