use Rattle.zst_laws.proofs.pools.StepRefusals.{dataset_absent, dataset_busy}
use Rattle.zst_laws.proofs.step_refusals.heads_are_refused.Goals as goal

pub returns : goal.returns
returns c = record { absent = dataset_absent; busy = dataset_busy }
