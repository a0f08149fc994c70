use Rattle.zst_laws.proofs.pools.SoundSteps.{steps_sound}
use Rattle.zst_laws.proofs.step_invariants.steps_keep_sound.Goals as goal

pub returns : goal.returns
returns c = steps_sound
