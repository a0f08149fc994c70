use Rattle.zst_laws.proofs.sends.ViewLaws.{held_on}
use Rattle.zst_laws.proofs.held_goes_on.Goals as goal

pub returns : goal.returns
returns c = held_on
