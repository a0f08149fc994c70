use Rattle.std.proofs.Common.{arith}
use Rattle.zst_leaves.proofs.LevelCounts.{span_one, span_three, span_two}
use Rattle.zst_tree.proofs.Span.{span_zero}
use Rattle.zst_leaves.proofs.sizes.levels_for.Goals as goal

pub returns-in-0-to-8192 : goal.returns-in-0-to-8192
returns-in-0-to-8192 c = record { few = omega arith; enough = omega (arith, span_zero); no_fewer = λ some. absurd (omega arith) }

pub returns-in-8193-to-1048576 : goal.returns-in-8193-to-1048576
returns-in-8193-to-1048576 c = record { few = omega arith; enough = omega (arith, span_one); no_fewer = λ some. omega (arith, span_zero) }

pub returns-in-1048577-to-134217728 : goal.returns-in-1048577-to-134217728
returns-in-1048577-to-134217728 c = record { few = omega arith; enough = omega (arith, span_two); no_fewer = λ some. omega (arith, span_one) }

pub returns-in_default : goal.returns-in_default
returns-in_default c = record { few = omega arith; enough = omega (arith, span_three); no_fewer = λ some. omega (arith, span_two) }
