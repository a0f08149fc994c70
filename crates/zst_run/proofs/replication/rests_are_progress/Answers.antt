use Rattle.zst_run.proofs.ChainedRuns.{rests_so}
use Rattle.zst_run.proofs.replication.rests_are_progress.Goals as goal

pub returns : goal.returns
returns g c = λ here there later.
    rests_so (c.keeping_is_done.ensures, c.images_keep_partials.ensures) c.rest_can_be_sent.ensures c.resumed_stops_are_progress.ensures _ _ _
