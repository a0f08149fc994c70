use Rattle.zst_laws.proofs.pools.SendPlans.{ancestor_wanted}
use Rattle.zst_laws.proofs.send_plans.ancestor_is_wanted.Goals as goal

pub returns : goal.returns
returns c = ancestor_wanted
