-- A plan of a receive that was made.
use Rattle.std.proofs.Common.{◌≡◌, Result, Ok, Err}
use Rattle.zst_model.specs.declared.refusals.plan_fault.PlanFault.{PlanFault}
use Rattle.zst_recv.specs.ReceiveSteps.{of_plan}

pub plan_ok : {A : Type 0} (r : Result A PlanFault) (x : A) → of_plan r ≡ Ok x → r ≡ Ok x
plan_ok (Ok y) x e = cc
plan_ok (Err fault) x e = absurd cc
