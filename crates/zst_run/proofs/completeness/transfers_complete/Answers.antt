use Rattle.zst_run.proofs.CompleteTransfers as complete
use Rattle.zst_run.proofs.completeness.transfers_complete.Goals as goal

pub returns : goal.returns
returns g c = λ here now there later.
    complete.transfers_complete c.sent_can_be_sent.ensures c.sent_is_accepted.ensures c.view_is_read.ensures _ _ _ _
