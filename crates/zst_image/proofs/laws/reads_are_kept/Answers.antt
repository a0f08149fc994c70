use Rattle.zst_image.proofs.CommitLemmas.{ReadsAs-spared}
use Rattle.zst_image.proofs.laws.reads_are_kept.Goals as goal

pub returns : goal.returns
returns c = λ tight. ReadsAs-spared {tight = tight}
