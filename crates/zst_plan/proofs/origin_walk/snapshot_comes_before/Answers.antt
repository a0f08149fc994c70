use Rattle.zst_model.specs.pools.Ancestry.{OfSnapshot}
use Rattle.zst_plan.proofs.origin_walk.snapshot_comes_before.Goals as goal

pub returns : goal.returns
returns c = λ pool from to are names later. c.comes_before.ensures pool (OfSnapshot from) to are names later
