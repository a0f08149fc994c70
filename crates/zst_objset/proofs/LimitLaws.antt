-- E23 of a call, from what its parts say of it.
use Rattle.std.specs.Prelude.{Result, IfErr}
use Rattle.std.proofs.Common.{ℕ}
use Rattle.std.proofs.lemmas.Result.{IfErr-weaker}
use Rattle.zst_model.specs.declared.refusals.faults.Quantity.{Quantity}
use Rattle.zst_objset.specs.Answers.{LimitOnly, NotLimit}
use Rattle.zst_objset.specs.declared.fault.ObjFault.{ObjFault}
use Rattle.zst_objset.specs.declared.fault.ObjFault.TheVariants as faults

-- a fault that is no E23 breaks no limit
pub no_limit : (which : Quantity) (limit past : ℕ) (fault : ObjFault) → NotLimit fault → LimitOnly which limit past fault
no_limit which limit past (faults.CannotApply fault) is = tt
no_limit which limit past (faults.Redacted object block) is = tt
no_limit which limit past (faults.Limit other number) is = absurd is
no_limit which limit past (faults.Block fault) is = tt

-- the same of an answer
pub if_no_limit : {T : Type 0} (which : Quantity) (limit past : ℕ) (result : Result T ObjFault) → IfErr result NotLimit → IfErr result (LimitOnly which limit past)
if_no_limit which limit past result is = IfErr-weaker result NotLimit (LimitOnly which limit past) (no_limit which limit past) is
