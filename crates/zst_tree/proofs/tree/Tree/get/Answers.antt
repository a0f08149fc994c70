use Rattle.std.proofs.Common.{arith, inl}
use Rattle.std.proofs.lemmas.Result.{IfOk-weaker}
use Rattle.zst_tree.proofs.LookupLemmas.{shows_in}
use Rattle.zst_tree.proofs.Results.{delivers_if}
use Rattle.zst_tree.proofs.Span.{span_limit}
use Rattle.zst_tree.proofs.tree.Tree.get.Goals as goal

pub returns-clause-shows : goal.returns-clause-shows
returns-clause-shows g c = λ map honest is.
    delivers_if _ _ c.find_in.result
    (λ found finds. shows_in _ _ c.args.self.now map c.args.index found c.requires.index is (record { inside = λ under. finds; past = λ past. absurd (omega arith) }))
    (c.find_in.ensures.finds 0 is.whole honest is.stands.below)

pub returns-clause-range : goal.returns-clause-range
returns-clause-range g c = IfOk-weaker c.find_in.result _ _ (λ found is. (is.0, omega (arith, is.1, span_limit c.args.self.now.levels c.requires.levels))) c.find_in.ensures.range

pub returns-clause-hangs : goal.returns-clause-hangs
returns-clause-hangs g c = λ honest. IfOk-weaker c.find_in.result _ _ (λ found hangs. inl hangs) (c.find_in.ensures.hangs honest)
