use Rattle.zst_laws.proofs.sends.ViewLaws.{runs_maximal}
use Rattle.zst_laws.proofs.runs_are_maximal.Goals as goal

pub returns : goal.returns
returns c = runs_maximal
