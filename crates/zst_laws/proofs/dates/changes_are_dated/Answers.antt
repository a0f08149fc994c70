use Rattle.zst_laws.proofs.histories.Dates.{changes_dated}
use Rattle.zst_laws.proofs.dates.changes_are_dated.Goals as goal

pub returns : goal.returns
returns c = changes_dated
