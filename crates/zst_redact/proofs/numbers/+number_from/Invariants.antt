use Rattle.std.proofs.Common.{length}
use Rattle.zst_redact.proofs.numbers.+number_from.Given as goal

abbrev pub decreases-number_from : goal.decreases-number_from
decreases-number_from g l = length l.redactions.now
