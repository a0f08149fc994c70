use Rattle.zst_laws.proofs.examples.Meanings.{listed_is_included}
use Rattle.zst_laws.proofs.meanings.sources_are_included.Goals as goal

pub returns : goal.returns
returns c = listed_is_included
