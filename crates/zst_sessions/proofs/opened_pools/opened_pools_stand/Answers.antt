use Rattle.std.proofs.Common.{false, refl}
use Rattle.zst_sessions.proofs.OpenedPools.{pools_opened}
use Rattle.zst_sessions.proofs.opened_pools.opened_pools_stand.Goals as goal

pub returns : goal.returns
returns g c = λ one two kept other running elsewhere ready rested too rests.
    pools_opened (record { disk = g.D.Disk.state one; tells = g.D.Disk.tells_images; state = kept; failed = false }) (record { disk = g.E.Disk.state two; tells = g.E.Disk.tells_images; state = other; failed = false }) running elsewhere
    refl (λ works. ready) rested refl (λ works. too) rests
