use Rattle.zst_replication.proofs.SoundFeeds.{events_base}
use Rattle.zst_replication.proofs.laws.events_are_history.Goals as goal

pub returns : goal.returns
returns c =
    events_base c.steps_keep_sound.ensures c.steps_keep_pools.ensures.pools c.steps_remember.ensures c.remembered_is_base.ensures c.receives_keep_sound.ensures c.receives_remember.ensures.sources
