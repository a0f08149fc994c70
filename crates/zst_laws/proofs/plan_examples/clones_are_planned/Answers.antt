use Rattle.zst_laws.proofs.examples.PlanExamples.{clones_planned}
use Rattle.zst_laws.proofs.plan_examples.clones_are_planned.Goals as goal

pub returns : goal.returns
returns c = clones_planned
