use Rattle.zst_check.proofs.TwoFaults.{bookmark_is_told, head_differs_too, head_is_not_told, head_is_told}
use Rattle.zst_check.proofs.laws.two_faults_are_told_in_order.Goals as goal

pub returns : goal.returns
returns c = record { first = bookmark_is_told; second = head_differs_too; hidden = head_is_not_told; shown = head_is_told }
