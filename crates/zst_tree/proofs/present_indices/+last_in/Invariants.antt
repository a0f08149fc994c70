use Rattle.zst_tree.proofs.present_indices.+last_in.Given as goal

abbrev pub decreases-last_in : goal.decreases-last_in
decreases-last_in g l = l.level
