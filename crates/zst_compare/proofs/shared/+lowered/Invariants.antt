use Rattle.zst_compare.proofs.shared.+lowered.Given as goal

abbrev pub decreases-lowered : goal.decreases-lowered
decreases-lowered g l = l.level
