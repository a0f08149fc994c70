use Rattle.std.proofs.Common.{◌+◌, ◌-◌, ◌*◌, ◌<◌, ◌≤◌, ℕ, arith}
use Rattle.std.proofs.Math.Nat.{mul-le-mul_right}
use Rattle.zst_tree.specs.Indices.{span}
use Rattle.zst_tree.proofs.Span.{span-over}
use Rattle.zst_tree.proofs.spans.start_of.Goals as goal

fits : (level base child : ℕ) → 0 < level → child < 128 → (base + child * span (level - 1)) + span (level - 1) ≤ base + span level
fits level base child h lt = let m : (child + 1) * span (level - 1) ≤ 128 * span (level - 1) = mul-le-mul_right (span (level - 1)) (omega arith) in omega (arith, span-over level h)

pub overflow_mul-result : goal.overflow_mul-result
overflow_mul-result c = let f : (c.args.base + c.args.child * span (c.args.level - 1)) + span (c.args.level - 1) ≤ c.args.base + span c.args.level = fits c.args.level c.args.base c.args.child c.requires.inner c.requires.child in rw c.span_of.ensures (omega arith)

pub overflow_add-result : goal.overflow_add-result
overflow_add-result c = let f : (c.args.base + c.args.child * span (c.args.level - 1)) + span (c.args.level - 1) ≤ c.args.base + span c.args.level = fits c.args.level c.args.base c.args.child c.requires.inner c.requires.child in rw c.span_of.ensures (omega arith)

pub returns-clause-inside : goal.returns-clause-inside
returns-clause-inside c = rw c.span_of.ensures (fits c.args.level c.args.base c.args.child c.requires.inner c.requires.child)
