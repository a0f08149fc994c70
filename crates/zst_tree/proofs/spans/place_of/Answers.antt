use Rattle.std.proofs.Common.{arith}
use Rattle.zst_tree.proofs.Span.{span-pos, digit-below}
use Rattle.zst_tree.proofs.spans.place_of.Goals as goal

pub nonzero_div-result : goal.nonzero_div-result
nonzero_div-result c = omega (arith, span-pos)

pub nonzero_rem-result : goal.nonzero_rem-result
nonzero_rem-result c = omega (arith, span-pos)

pub returns-clause-child : goal.returns-clause-child
returns-clause-child c = rw c.span_of-part.ensures (digit-below _ _ c.requires.inner c.requires.offset)

pub returns-clause-rest : goal.returns-clause-rest
returns-clause-rest c = omega (arith, span-pos)
