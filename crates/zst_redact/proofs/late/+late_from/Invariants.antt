use Rattle.std.proofs.Common.{length}
use Rattle.zst_redact.proofs.late.+late_from.Given as goal

abbrev pub decreases-late_from : goal.decreases-late_from
decreases-late_from g l = length l.redactions.now
