use Rattle.zst_plan.proofs.ContainedBases.{contained_covers}
use Rattle.zst_plan.proofs.laws.contained_is_covered.Goals as goal

pub returns : goal.returns
returns c = contained_covers
