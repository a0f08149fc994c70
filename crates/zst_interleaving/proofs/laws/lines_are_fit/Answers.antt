use Rattle.zst_interleaving.proofs.LawfulLines.{lines_fit}
use Rattle.zst_interleaving.proofs.laws.lines_are_fit.Goals as goal

pub returns : goal.returns
returns c = lines_fit
