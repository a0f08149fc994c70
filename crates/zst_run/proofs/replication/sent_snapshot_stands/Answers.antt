use Rattle.zst_run.proofs.PipedRuns.{snapshot_stands}
use Rattle.zst_run.proofs.replication.sent_snapshot_stands.Goals as goal

pub returns : goal.returns
returns g c = λ here now there later.
    snapshot_stands (c.keeping_is_done.ensures, c.images_keep_partials.ensures) c.sent_can_be_sent.ensures
    c.sent_is_received.ensures c.one_more_is_kept.ensures _ _ _ _
