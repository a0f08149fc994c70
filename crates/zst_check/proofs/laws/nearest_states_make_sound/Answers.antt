use Rattle.zst_check.proofs.Reports.{sound_by_nearest}
use Rattle.zst_check.proofs.laws.nearest_states_make_sound.Goals as goal

pub returns : goal.returns
returns c = sound_by_nearest
