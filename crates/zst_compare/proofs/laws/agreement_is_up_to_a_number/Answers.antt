use Rattle.zst_compare.proofs.Agreement.{agrees_up_to, agrees_with, differs_denied}
use Rattle.zst_compare.proofs.laws.agreement_is_up_to_a_number.Goals as goal

pub returns-clause-snapshots : goal.returns-clause-snapshots
returns-clause-snapshots c = λ snapshot later. (agrees_up_to snapshot later, agrees_with snapshot later)

pub returns-clause-denied : goal.returns-clause-denied
returns-clause-denied c = differs_denied
