use Rattle.zst_laws.proofs.sends.ViewLaws.{views_same}
use Rattle.zst_laws.proofs.views_agree.Goals as goal

pub returns : goal.returns
returns c = views_same
