use Rattle.zst_run.proofs.PipedRuns.{stops_so}
use Rattle.zst_run.proofs.replication.stops_are_progress.Goals as goal

pub returns : goal.returns
returns g c = λ here there later.
    stops_so (c.keeping_is_done.ensures, c.images_keep_partials.ensures) c.sent_can_be_sent.ensures c.stops_are_progress.ensures _ _ _
