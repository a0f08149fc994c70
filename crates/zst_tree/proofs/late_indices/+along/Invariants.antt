use Rattle.zst_tree.proofs.late_indices.+along.Given as goal

abbrev pub decreases-along : goal.decreases-along
decreases-along g l = l.level
