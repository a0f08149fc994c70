use Rattle.zst_recv.proofs.LeftRows.{ends_leave}
use Rattle.zst_recv.proofs.laws.ends_leave_rows.Goals as goal

pub returns : goal.returns
returns c = ends_leave
