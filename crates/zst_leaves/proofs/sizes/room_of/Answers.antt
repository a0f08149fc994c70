use Rattle.std.proofs.Common.{arith}
use Rattle.zst_leaves.proofs.LevelCounts.{span_le, span_three}
use Rattle.zst_leaves.proofs.sizes.room_of.Goals as goal

pub overflow_mul-result : goal.overflow_mul-result
overflow_mul-result c = omega (arith, c.span_of.ensures, span_le c.args.level 3 c.requires, span_three)

pub returns-clause-value : goal.returns-clause-value
returns-clause-value c = omega (arith, c.span_of.ensures)

pub returns-clause-small : goal.returns-clause-small
returns-clause-small c = omega (arith, c.span_of.ensures, span_le c.args.level 3 c.requires, span_three)
