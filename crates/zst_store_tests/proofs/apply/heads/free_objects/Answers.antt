use Rattle.std.proofs.Common.{arith}
use Rattle.zst_store_tests.proofs.apply.heads.free_objects.Goals as goal

pub returns : goal.returns
returns c = (0, (c.ranges.first.fits, c.ranges.count.fits, omega arith))
