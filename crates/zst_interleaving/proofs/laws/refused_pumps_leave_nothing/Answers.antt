use Rattle.zst_interleaving.proofs.RefusedPumps.{refused_pumps}
use Rattle.zst_interleaving.proofs.laws.refused_pumps_leave_nothing.Goals as goal

pub returns : goal.returns
returns c = refused_pumps c.refused_leave_nothing.ensures
