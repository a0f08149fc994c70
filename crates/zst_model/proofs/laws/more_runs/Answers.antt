use Rattle.zst_model.proofs.RunsOf.{longer_list}
use Rattle.zst_model.proofs.laws.more_runs.Goals as goal

pub returns : goal.returns
returns c = longer_list
