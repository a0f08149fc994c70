use Rattle.zst_pool.proofs.PoolsAtRest.{commit_still, partial_still, rests_on, rests_still, since}
use Rattle.zst_pool.proofs.laws.blocks_leave_it_at_rest.Goals as goal

pub returns-clause-rests : goal.returns-clause-rests
returns-clause-rests g c = λ tight start now. rests_on {tight = tight} (g.D.Disk.state start) (g.D.Disk.state now)

pub returns-clause-moments : goal.returns-clause-moments
returns-clause-moments g c = λ tight start now. since {tight = tight} (g.D.Disk.state start) (g.D.Disk.state now)

pub returns-clause-under_way : goal.returns-clause-under_way
returns-clause-under_way g c = λ tight start old new space less kept running way.
    rests_still {tight = tight} (g.D.Disk.state start) (g.D.Disk.state old) space kept running way (g.D.Disk.state new) less

pub returns-clause-commits : goal.returns-clause-commits
returns-clause-commits g c = λ old new. commit_still (g.D.Disk.state old) (g.D.Disk.state new)

pub returns-clause-partial : goal.returns-clause-partial
returns-clause-partial g c = λ bound old new. partial_still bound (g.D.Disk.state old) (g.D.Disk.state new)
