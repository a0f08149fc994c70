use Rattle.zst_laws.proofs.examples.Meanings.{blocks_date_no_number}
use Rattle.zst_laws.proofs.meanings.blocks_date_no_number.Goals as goal

pub returns : goal.returns
returns c = blocks_date_no_number
