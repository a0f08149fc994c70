use Rattle.std.proofs.Common.{sym}
use Rattle.zst_plan.proofs.Origins.{its_origin, no_dataset, no_origin}
use Rattle.zst_plan.proofs.origin_walk.origin_of.Goals as goal

pub returns-in_err-dataset : goal.returns-in_err-dataset
returns-in_err-dataset c = λ pool later are names. rw c.from_residual.ensures (no_dataset pool later (c.in_err-dataset.ensures pool later are names))

pub returns-in_err-name : goal.returns-in_err-name
returns-in_err-name c = λ pool later are names.
    rw c.from_residual-in_err-name.ensures (no_origin pool later c.in_ok-dataset.dataset (c.in_ok-dataset.ensures pool later are names) (sym c.in_err-name.ensures.value))

pub returns : goal.returns
returns c = λ pool later are names.
    its_origin pool later c.in_ok-dataset.dataset c.in_ok-name.name.now c.snapshot_named.result (c.in_ok-dataset.ensures pool later are names) (sym c.in_ok-name.ensures.value) (c.snapshot_named.ensures pool are)
