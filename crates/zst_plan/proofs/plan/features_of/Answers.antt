use Rattle.std.proofs.Common.{◌∙◌, sym}
use Rattle.zst_plan.proofs.BeginHeader.{with_guids, without_guids}
use Rattle.zst_plan.proofs.plan.features_of.Goals as goal

pub returns-then-has_guids : goal.returns-then-has_guids
returns-then-has_guids c = with_guids c.args.guids.now (sym c.has_guids.ensures ∙ c.if-has_guids.true)

pub returns-else-has_guids : goal.returns-else-has_guids
returns-else-has_guids c = without_guids c.args.guids.now (sym c.has_guids.ensures ∙ c.if-has_guids.false)
