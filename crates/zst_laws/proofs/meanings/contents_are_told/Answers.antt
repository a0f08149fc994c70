use Rattle.zst_laws.proofs.examples.Meanings.{contents}
use Rattle.zst_laws.proofs.meanings.contents_are_told.Goals as goal

pub returns : goal.returns
returns c = contents
