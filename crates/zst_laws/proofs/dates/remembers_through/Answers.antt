use Rattle.zst_laws.proofs.histories.Dates.{remembered_through}
use Rattle.zst_laws.proofs.dates.remembers_through.Goals as goal

pub returns : goal.returns
returns c = remembered_through
