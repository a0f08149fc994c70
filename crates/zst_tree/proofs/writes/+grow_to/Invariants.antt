use Rattle.std.proofs.Common.{◌-◌}
use Rattle.zst_tree.proofs.writes.+grow_to.Given as goal

abbrev pub decreases-grow_to : goal.decreases-grow_to
decreases-grow_to g l = 7 - l.tree.levels
