use Rattle.zst_interleaving.proofs.FedReplays.{scripts_fit}
use Rattle.zst_interleaving.proofs.laws.scripts_are_fit.Goals as goal

pub returns : goal.returns
returns c = scripts_fit c.lines_are_fit.ensures
