use Rattle.zst_model.proofs.RunsOf.{runs_list}
use Rattle.zst_model.proofs.laws.runs_are_pairs.Goals as goal

pub returns : goal.returns
returns c = runs_list
