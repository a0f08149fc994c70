use Rattle.zst_laws.proofs.sends.Ranges.{indices_cut}
use Rattle.zst_laws.proofs.indices_are_cut.Goals as goal

pub returns : goal.returns
returns c = indices_cut
