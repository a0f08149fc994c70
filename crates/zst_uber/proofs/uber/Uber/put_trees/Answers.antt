use Rattle.std.proofs.Common.{rules}
use Rattle.zst_uber.proofs.uber.Uber.put_trees.Goals as goal

pub returns : goal.returns
returns c = search rules
