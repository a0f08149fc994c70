use Rattle.zst_laws.proofs.pools.CommitCounts.{partials_stay, kept_stay}
use Rattle.zst_laws.proofs.step_invariants.steps_keep_partials.Goals as goal

pub returns : goal.returns
returns c = record { partials = partials_stay; kept = kept_stay }
