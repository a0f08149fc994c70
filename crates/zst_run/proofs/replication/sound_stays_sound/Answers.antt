use Rattle.zst_run.proofs.PipedRuns.{sound_so}
use Rattle.zst_run.proofs.replication.sound_stays_sound.Goals as goal

pub returns : goal.returns
returns g c = λ there later. sound_so c.receives_keep_sound.ensures _ _
