use Rattle.zst_run.proofs.CompleteTransfers as complete
use Rattle.zst_run.proofs.completeness.rest_transfers_complete.Goals as goal

pub returns : goal.returns
returns g c = λ here now there later.
    complete.rest_transfers_complete c.rest_can_be_sent.ensures c.rest_is_accepted.ensures.accepted c.view_is_read.ensures _ _ _ _
