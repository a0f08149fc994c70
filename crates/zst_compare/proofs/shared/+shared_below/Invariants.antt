use Rattle.zst_compare.proofs.shared.+shared_below.Given as goal

abbrev pub decreases-shared_below : goal.decreases-shared_below
decreases-shared_below g l = l.level
