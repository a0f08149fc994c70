use Rattle.zst_tree.proofs.late_indices.+first_in.Given as goal

abbrev pub decreases-first_in : goal.decreases-first_in
decreases-first_in g l = l.level
