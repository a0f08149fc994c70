use Rattle.std.proofs.Common.{rules}
use Rattle.zst_uber.proofs.uber.Uber.is_in_range.Goals as goal

pub returns-then-is_lawful : goal.returns-then-is_lawful
returns-then-is_lawful c = search rules

pub returns-else-is_lawful : goal.returns-else-is_lawful
returns-else-is_lawful c = search rules
