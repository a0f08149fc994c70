use Rattle.zst_send.proofs.SetDates.{rows_tell}
use Rattle.zst_send.proofs.laws.tight_sets_tell_dates.Goals as goal

pub returns : goal.returns
returns c = rows_tell
