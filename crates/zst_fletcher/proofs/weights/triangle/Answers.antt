use Rattle.std.proofs.Common.{ap, arith, ◌%◌, ◌^◌}
use Rattle.zst_fletcher.proofs.Triangles.{even_half, odd_half}
use Rattle.zst_fletcher.proofs.weights.triangle.Goals as goal

pub returns-then-place-eq0 : goal.returns-then-place-eq0
returns-then-place-eq0 c = ap (λ n. n % 2 ^ 64) (even_half c.args.place (omega arith))

pub returns-else-place-eq0 : goal.returns-else-place-eq0
returns-else-place-eq0 c = ap (λ n. n % 2 ^ 64) (odd_half c.args.place (omega arith))
