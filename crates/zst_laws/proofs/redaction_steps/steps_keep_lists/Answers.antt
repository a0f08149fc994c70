use Rattle.zst_laws.proofs.pools.RedactionSteps.{steps_listed}
use Rattle.zst_laws.proofs.redaction_steps.steps_keep_lists.Goals as goal

pub returns : goal.returns
returns c = steps_listed
