use Rattle.zst_run.proofs.RelayedRuns.{relayed_stands}
use Rattle.zst_run.proofs.replication.relayed_snapshot_stands.Goals as goal

pub returns : goal.returns
returns g c = λ here now there later after far beyond.
    relayed_stands (c.keeping_is_done.ensures, c.images_keep_partials.ensures) c.sent_can_be_sent.ensures
    c.sent_is_received.ensures c.one_more_is_kept.ensures c.plans_are_of_pool.ensures c.relayed_is_received.ensures.left c.pools_read_for_sends.ensures _ _ _ _ _ _ _
