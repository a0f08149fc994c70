use Rattle.zst_laws.proofs.histories.Dates.{remembered_itself}
use Rattle.zst_laws.proofs.dates.remembers_itself.Goals as goal

pub returns : goal.returns
returns c = remembered_itself
