use Rattle.zst_replication.proofs.SoundFeeds.{received_remembers, receives_remember}
use Rattle.zst_replication.proofs.laws.receives_remember.Goals as goal

pub returns : goal.returns
returns c = record { sources = receives_remember c.received_is_state.ensures.applied; received = received_remembers c.received_is_state.ensures.applied c.own_is_remembered.ensures.own }
