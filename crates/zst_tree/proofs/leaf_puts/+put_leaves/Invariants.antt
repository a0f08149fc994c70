use Rattle.zst_tree.proofs.leaf_puts.+put_leaves.Given as goal

abbrev pub decreases-put_leaves : goal.decreases-put_leaves
decreases-put_leaves g l = l.level
