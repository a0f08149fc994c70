use Rattle.std.proofs.Common.{arith}
use Rattle.std.proofs.lemmas.Grind.{common_steps}
use Rattle.zst_outside.specs.Ranges.{bytes_at}
use Rattle.zst_outside.proofs.places.copy_out.Goals as goal

pub returns : goal.returns
unfolding bytes_at
returns c = grind (arith, common_steps)
