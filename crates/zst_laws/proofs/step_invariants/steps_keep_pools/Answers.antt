use Rattle.zst_laws.proofs.pools.CommitCounts.{commits_count, answers_keep}
use Rattle.zst_laws.proofs.pools.LawfulPools.{steps_keep_lawful}
use Rattle.zst_laws.proofs.step_invariants.steps_keep_pools.Goals as goal

pub returns : goal.returns
returns c = record { commits = commits_count; answers = answers_keep; pools = steps_keep_lawful }
