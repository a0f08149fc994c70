use Rattle.zst_laws.proofs.examples.PlanExamples.{bookmarks_planned, plans_told, snapshots_planned}
use Rattle.zst_laws.proofs.plan_examples.increments_are_planned.Goals as goal

pub returns-clause-snapshots : goal.returns-clause-snapshots
returns-clause-snapshots c = snapshots_planned

pub returns-clause-bookmarks : goal.returns-clause-bookmarks
returns-clause-bookmarks c = bookmarks_planned

pub returns-clause-told : goal.returns-clause-told
returns-clause-told c = plans_told
