use Rattle.std.proofs.Common.{◌≡◌, ap, sym, rules}
use Rattle.zst_tree.specs.Indices.{span}
use Rattle.zst_tree.proofs.spans.span_of.Goals as goal

pub returns-in-0 : goal.returns-in-0
unfolding span
returns-in-0 c = ap span (sym c.in-0.is)

pub returns-in-1 : goal.returns-in-1
unfolding span
returns-in-1 c = ap span (sym c.in-1.is)

pub returns-in-2 : goal.returns-in-2
unfolding span
returns-in-2 c = ap span (sym c.in-2.is)

pub returns-in-3 : goal.returns-in-3
unfolding span
returns-in-3 c = ap span (sym c.in-3.is)

pub returns-in-4 : goal.returns-in-4
unfolding span
returns-in-4 c = ap span (sym c.in-4.is)

pub returns-in-5 : goal.returns-in-5
unfolding span
returns-in-5 c = ap span (sym c.in-5.is)

pub returns-in-6 : goal.returns-in-6
unfolding span
returns-in-6 c = ap span (sym c.in-6.is)

pub returns-in_default : goal.returns-in_default
unfolding span
returns-in_default c = let e : 7 ≡ c.args.level = search rules in ap span e
