use Rattle.std.proofs.Common.{◌∙◌, sym}
use Rattle.zst_traverse.proofs.ListedNumbers.{in_listed, in_withheld}
use Rattle.zst_traverse.proofs.listed.is_listed.Goals as goal

pub returns-then-is_some-clause-some : goal.returns-then-is_some-clause-some
returns-then-is_some-clause-some c = λ is. in_listed c.args.listed.now c.args.withheld.now c.args.object c.args.end c.next_in.result (sym c.is_some.ensures ∙ c.if-is_some.true) c.next_in.ensures

pub returns-else-is_some-clause-some : goal.returns-else-is_some-clause-some
returns-else-is_some-clause-some c = λ is.
    in_withheld c.args.listed.now c.args.withheld.now c.args.object c.args.end c.next_in-else-is_some.result (sym c.is_some-else-is_some.ensures ∙ is) c.next_in-else-is_some.ensures
