use Rattle.zst_laws.proofs.pools.ListedSteps.{lists_kept}
use Rattle.zst_laws.proofs.redaction_steps.lists_are_kept.Goals as goal

pub returns : goal.returns
returns c = lists_kept
