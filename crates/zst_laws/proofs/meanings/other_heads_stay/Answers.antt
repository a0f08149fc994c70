use Rattle.zst_laws.proofs.examples.Meanings.{heads_stay}
use Rattle.zst_laws.proofs.meanings.other_heads_stay.Goals as goal

pub returns : goal.returns
returns c = heads_stay
