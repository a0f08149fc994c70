use Rattle.std.proofs.Common.{◌+◌, ◌-◌, ◌*◌, ◌<◌, ◌≤◌, ℕ, arith}
use Rattle.std.proofs.Math.Nat.{mul-le-mul_right}
use Rattle.zst_tree.specs.Indices.{span}
use Rattle.zst_tree.proofs.Span.{span-over}
use Rattle.zst_reach.proofs.sets.start_of.Goals as goal

fits : (level first child : ℕ) → 0 < level → child < 128 → (first + child * span (level - 1)) + span (level - 1) ≤ first + span level
fits level first child inner less = let most : (child + 1) * span (level - 1) ≤ 128 * span (level - 1) = mul-le-mul_right (span (level - 1)) (omega arith) in omega (arith, span-over level inner)

pub overflow_mul-result : goal.overflow_mul-result
overflow_mul-result c = let most = fits c.args.level c.args.first c.args.child c.requires.inner c.requires.child in rw c.span_of.ensures (omega (arith, most, c.requires.first))

pub overflow_add-result : goal.overflow_add-result
overflow_add-result c = let most = fits c.args.level c.args.first c.args.child c.requires.inner c.requires.child in rw c.span_of.ensures (omega (arith, most, c.requires.first))

pub returns-clause-inside : goal.returns-clause-inside
returns-clause-inside c = let most = fits c.args.level c.args.first c.args.child c.requires.inner c.requires.child in rw c.span_of.ensures (omega (arith, most, c.requires.first))
