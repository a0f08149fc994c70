use Rattle.zst_laws.proofs.examples.Meanings.{put_makes, put_allocates}
use Rattle.zst_laws.proofs.meanings.spills_are_kept.Goals as goal

pub returns : goal.returns
returns c = record { again = put_makes; anew = put_allocates }
