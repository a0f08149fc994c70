use Rattle.std.proofs.Common.{arith, refl}
use Rattle.zst_store_tests.proofs.apply.heads.end.Goals as goal

pub returns : goal.returns
returns c = (0, (record { four = refl; a = omega arith; b = omega arith; c = omega arith; d = omega arith }, omega arith))
