use Rattle.std.proofs.Common.{refl}
use Rattle.zst_send.proofs.Sizes.{size_fits}
use Rattle.zst_send.proofs.walk_position.position_after.Goals as goal

pub returns-then-number-position-clause-fits : goal.returns-then-number-position-clause-fits
returns-then-number-position-clause-fits c = size_fits _ c.in-Object.dnode (rw c.in-Object.is at c.requires.found).3 refl

pub returns-else-number-position-clause-fits : goal.returns-else-number-position-clause-fits
returns-else-number-position-clause-fits c = size_fits _ c.in-Object.dnode (rw c.in-Object.is at c.requires.found).3 refl
