use Rattle.std.proofs.Common.{rules}
use Rattle.zst_uber.proofs.commits.close.Goals as goal

pub returns-then-is_open : goal.returns-then-is_open
returns-then-is_open g c = search rules

pub returns-else-is_open : goal.returns-else-is_open
returns-else-is_open g c = search rules
