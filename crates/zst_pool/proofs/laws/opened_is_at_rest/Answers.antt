use Rattle.zst_pool.proofs.PoolsAtRest.{rests_opened}
use Rattle.zst_pool.proofs.laws.opened_is_at_rest.Goals as goal
use Rattle.zst_model.proofs.KeptPools.{all_stay}

pub returns-clause-rests : goal.returns-clause-rests
returns-clause-rests g c = λ tight disk. rests_opened {tight = tight} (g.D.Disk.state disk)

pub returns-clause-same : goal.returns-clause-same
returns-clause-same g c = all_stay
