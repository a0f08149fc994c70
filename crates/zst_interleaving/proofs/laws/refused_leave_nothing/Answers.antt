use Rattle.zst_interleaving.proofs.RefusedBegins.{refused_nothing}
use Rattle.zst_interleaving.proofs.laws.refused_leave_nothing.Goals as goal

pub returns : goal.returns
returns c = refused_nothing c.grounds_stand.ensures
