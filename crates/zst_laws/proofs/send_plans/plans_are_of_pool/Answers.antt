use Rattle.zst_laws.proofs.pools.SendPlans.{planned_of_pool}
use Rattle.zst_laws.proofs.send_plans.plans_are_of_pool.Goals as goal

pub returns : goal.returns
returns c = planned_of_pool
