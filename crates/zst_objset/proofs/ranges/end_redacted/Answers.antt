use Rattle.std.proofs.Common.{arith, ◌∙◌}
use Rattle.zst_objset.proofs.EndLaws.{end_redacted, end_unchanged}
use Rattle.zst_model.specs.states.State.{Redacted}
use Rattle.zst_objset.proofs.ranges.end_redacted.Goals as goal

pub returns-then-count-eq0-clause-end : goal.returns-then-count-eq0-clause-end
returns-then-count-eq0-clause-end c = λ object is. end_unchanged object c.args.end c.args.first c.args.count Redacted (omega arith) is

pub returns-else-count-eq0-clause-end : goal.returns-else-count-eq0-clause-end
returns-else-count-eq0-clause-end c = λ object is. c.max.ensures ∙ end_redacted object c.args.end c.args.first c.args.count (omega arith) c.requires is
