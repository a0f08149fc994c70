use Rattle.zst_run.proofs.AlikeSends.{reads_for_sends}
use Rattle.zst_run.proofs.send.pools_read_for_sends.Goals as goal

pub returns : goal.returns
returns c = reads_for_sends c.rows_stand_for_sends.ensures
