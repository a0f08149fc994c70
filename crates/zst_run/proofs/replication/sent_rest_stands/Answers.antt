use Rattle.zst_run.proofs.ChainedRuns.{rest_stands}
use Rattle.zst_run.proofs.replication.sent_rest_stands.Goals as goal

pub returns : goal.returns
returns g c = λ here now there later.
    rest_stands (c.keeping_is_done.ensures, c.images_keep_partials.ensures) c.rest_can_be_sent.ensures c.rest_is_received.ensures.made c.one_more_is_kept.ensures _ _ _ _
