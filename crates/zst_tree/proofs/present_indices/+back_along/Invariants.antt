use Rattle.zst_tree.proofs.present_indices.+back_along.Given as goal

abbrev pub decreases-back_along : goal.decreases-back_along
decreases-back_along g l = l.level
