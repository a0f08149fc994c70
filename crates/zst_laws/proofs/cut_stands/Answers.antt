use Rattle.zst_laws.proofs.sends.CutSends.{cut_stand}
use Rattle.zst_laws.proofs.cut_stands.Goals as goal

pub returns : goal.returns
returns c = cut_stand
