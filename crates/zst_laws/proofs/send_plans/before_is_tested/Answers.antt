use Rattle.zst_laws.proofs.pools.SendPlans.{before_tested}
use Rattle.zst_laws.proofs.send_plans.before_is_tested.Goals as goal

pub returns : goal.returns
returns c = before_tested
