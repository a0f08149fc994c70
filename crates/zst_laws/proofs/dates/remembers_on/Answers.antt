use Rattle.zst_laws.proofs.histories.Dates.{remembered_on}
use Rattle.zst_laws.proofs.dates.remembers_on.Goals as goal

pub returns : goal.returns
returns c = remembered_on
