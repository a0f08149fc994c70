use Rattle.zst_replication.proofs.ListedReceives as listed_receives
use Rattle.zst_replication.proofs.redaction_laws.receives_keep_lists.Goals as goal

pub returns : goal.returns
returns c = listed_receives.receives_keep_lists c.received_is_state.ensures.applied c.lists_are_kept.ensures
