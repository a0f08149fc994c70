use Rattle.zst_check.proofs.Denials.{list_differs_denies}
use Rattle.zst_check.proofs.laws.lists_that_differ_deny_lists.Goals as goal

pub returns : goal.returns
returns c = list_differs_denies
