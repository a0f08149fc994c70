use Rattle.zst_laws.proofs.sends.Ranges.{numbers_cut}
use Rattle.zst_laws.proofs.numbers_are_cut.Goals as goal

pub returns : goal.returns
returns c = numbers_cut
