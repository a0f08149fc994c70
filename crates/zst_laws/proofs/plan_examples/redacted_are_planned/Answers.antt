use Rattle.zst_laws.proofs.examples.PlanExamples.{redacted_planned}
use Rattle.zst_laws.proofs.plan_examples.redacted_are_planned.Goals as goal

pub returns : goal.returns
returns c = redacted_planned
