use Rattle.zst_laws.proofs.sends.CutSends.{start_stand}
use Rattle.zst_laws.proofs.start_stands.Goals as goal

pub returns : goal.returns
returns c = start_stand
