use Rattle.zst_interleaving.proofs.OnCourse.{fresh_are_fit}
use Rattle.zst_interleaving.proofs.laws.fresh_are_fit.Goals as goal

pub returns : goal.returns
returns c = fresh_are_fit
