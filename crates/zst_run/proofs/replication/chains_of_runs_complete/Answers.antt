use Rattle.zst_run.proofs.ChainedRuns.{chained_so, chains_so}
use Rattle.zst_run.proofs.replication.chains_of_runs_complete.Goals as goal

pub returns-clause-chained : goal.returns-clause-chained
returns-clause-chained g c = λ here there later. chained_so c.sent_can_be_sent.ensures c.rest_can_be_sent.ensures _ _ _

pub returns-clause-complete : goal.returns-clause-complete
returns-clause-complete g c = λ here there later.
    chains_so (c.keeping_is_done.ensures, c.images_keep_partials.ensures) c.rest_can_be_sent.ensures c.chains_complete.ensures.complete c.one_more_is_kept.ensures _ _ _
