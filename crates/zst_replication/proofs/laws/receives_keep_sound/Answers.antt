use Rattle.zst_replication.proofs.SoundFeeds.{receives_sound}
use Rattle.zst_replication.proofs.laws.receives_keep_sound.Goals as goal

pub returns : goal.returns
returns c = receives_sound c.received_is_state.ensures.applied
