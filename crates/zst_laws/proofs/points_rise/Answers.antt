use Rattle.zst_laws.proofs.sends.RisingPoints.{points_rise}
use Rattle.zst_laws.proofs.points_rise.Goals as goal

pub returns : goal.returns
returns c = points_rise
