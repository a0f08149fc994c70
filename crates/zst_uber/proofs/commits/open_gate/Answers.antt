use Rattle.std.proofs.Common.{rules}
use Rattle.zst_uber.proofs.commits.open_gate.Goals as goal

pub returns : goal.returns
returns g c = search rules
