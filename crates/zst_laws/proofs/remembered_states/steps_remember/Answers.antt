use Rattle.zst_laws.proofs.pools.SoundSteps.{steps_remember}
use Rattle.zst_laws.proofs.remembered_states.steps_remember.Goals as goal

pub returns : goal.returns
returns c = steps_remember
