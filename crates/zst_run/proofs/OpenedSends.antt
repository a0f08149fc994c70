-- How a send is opened, by names or by a token, from what its plan and its opening say.
use Rattle.std.specs.Prelude.{IfErr, IfOk}
use Rattle.std.proofs.Common.{◌≡◌, ℕ, List, Some, None, true, false, Result, Ok, Err, refl, sym, ap, ◌∙◌}
use Rattle.zst_outside.specs.declared.disk.Disk.{Ghosts}
use Rattle.zst_block.proofs.IoCallLemmas.{Looks-none}
use Rattle.zst_block.specs.IoStates.{io_of}
use Rattle.zst_dir.specs.Rows.{Rows}
use Rattle.zst_model.specs.declared.refusals.plan_fault.PlanFault.{PlanFault}
use Rattle.zst_model.specs.declared.sends.ask.SendAsk.{SendAsk}
use Rattle.zst_model.specs.declared.sends.header.Point.{Point}
use Rattle.zst_model.specs.pools.Pool.{Pool as Plain}
use Rattle.zst_model.specs.sends.Headers.{Sent}
use Rattle.zst_model.specs.sends.SendPlan.{send_plan, with_list}
use Rattle.zst_plan.specs.Places.{AnswerAlike}
use Rattle.zst_plan.specs.Plans.{AnswersPlan}
use Rattle.zst_plan.specs.declared.plan.SendPlan.{SendPlan}
use Rattle.zst_pool.specs.Damage.{IsOf}
use Rattle.zst_pool.specs.declared.fault.PoolFault.{PoolFault}
use Rattle.zst_pool.specs.declared.fault.PoolFault.TheVariants as faults
use Rattle.zst_pool.specs.declared.pool.Pool.{Pool}
use Rattle.zst_send.specs.KnownPointers.{IsAmong, Knows}
use Rattle.zst_send.specs.Openings.{IsDamagedOpening, IsDamagedPlan, Opens, ReadsLists, Resumes}
use Rattle.zst_send.specs.Sends.{SendFits, sent_set}
use Rattle.zst_send.specs.declared.send.Send.{Send}
use Rattle.zst_tree.specs.Indices.{Blocks}
use Rattle.zst_run.specs.declared.send.SendRequest.{SendRequest}
use Rattle.zst_run.specs.SendPieces.{IsOpenedFor, OpensBy}
use Rattle.zst_run.specs.Sends.{HasSet}

-- what was planned is of what is to be sent, and what was refused is refused
pub plan_is : {A : Type 0} (Is : A → Sent → Type 0) (plan : A) (planned : Result Sent PlanFault) → AnswerAlike Is (Ok plan) planned → (sent : Sent) × (planned ≡ Ok sent) × Is plan sent
plan_is Is plan (Ok sent) alike = (sent, refl, alike)
plan_is Is plan (Err fault) alike = absurd alike

pub refusal_is : {A : Type 0} (Is : A → Sent → Type 0) (fault : PlanFault) (planned : Result Sent PlanFault) → AnswerAlike Is (Err fault) planned → planned ≡ Err fault
refusal_is Is fault (Ok sent) alike = absurd alike
refusal_is Is fault (Err other) alike = ap (λ (f : PlanFault). Err f) (sym alike)

-- a send of a snapshot is opened by what the plan of its names gives
pub opens_named : (has : Blocks) (ask : SendAsk) (pool : Plain) (result : Result Send PoolFault) → Opens has ask pool result → OpensBy has None (with_list (send_plan ask pool)) result
opens_named has ask pool (Ok send) is = is
opens_named has ask pool (Err (faults.Plan fault)) is = is
opens_named has ask pool (Err (faults.CannotApply fault)) is = is
opens_named has ask pool (Err (faults.Redacted object block)) is = is
opens_named has ask pool (Err (faults.Full need largest)) is = is
opens_named has ask pool (Err (faults.Damaged sector stated found)) is = is
opens_named has ask pool (Err faults.DiskFault) is = is
opens_named has ask pool (Err faults.Failed) is = is
opens_named has ask pool (Err faults.OutOfMemory) is = is

-- and the rest of one by what the plan of its token gives
pub opens_rest : (has : Blocks) (sent : Sent) (point : Point) (planned : Result Sent PlanFault) (result : Result Send PoolFault) → planned ≡ Ok sent → Resumes has sent point result
    → OpensBy has (Some point) (with_list planned) result
opens_rest has sent point planned (Ok send) passed is = (sent, ap with_list passed ∙ is.0, is.1)
opens_rest has sent point planned (Err (faults.Plan fault)) passed is = ap with_list passed ∙ is
opens_rest has sent point planned (Err (faults.CannotApply fault)) passed is = is
opens_rest has sent point planned (Err (faults.Redacted object block)) passed is = is
opens_rest has sent point planned (Err (faults.Full need largest)) passed is = is
opens_rest has sent point planned (Err (faults.Damaged sector stated found)) passed is = is
opens_rest has sent point planned (Err faults.DiskFault) passed is = is
opens_rest has sent point planned (Err faults.Failed) passed is = is
opens_rest has sent point planned (Err faults.OutOfMemory) passed is = is

-- what is opened has the set that is requested
pub opened_for : (request : SendRequest) (rows : Rows) (result : Result Send PoolFault) → IfOk result (λ send. HasSet request rows (sent_set send))
    → ((images : List (List ℕ)) → IfOk result (Knows (IsAmong images))) → IfOk result SendFits → IfOk result (IsOpenedFor request rows)
opened_for request rows (Ok send) set knows fits = record { set = set; knows = knows; fits = fits }
opened_for request rows (Err fault) set knows fits = tt

-- a damage that an opening by a plan tells is one of what was planned so
pub plan_damage : (end : ℕ) (image : List ℕ) (size : ℕ) (rows : Rows) (definition : Plain → Result Sent PlanFault) (plan : SendPlan) (result : Result Send PoolFault)
    → AnswersPlan {E = PlanFault} rows definition (Ok plan) → IfErr result (IsOf (IsDamagedPlan end image size rows plan)) → IfErr result (IsOf (IsDamagedOpening end image size rows definition))
plan_damage end image size rows definition plan (Ok send) plans is = tt
plan_damage end image size rows definition plan (Err fault) plans is = λ sector stated found same. (plan, plans, is sector stated found same)

module _ {D : Type 0} {g : Ghosts D} where
  -- nothing is read where a plan is refused
  pub reads_nothing : (pool : Pool D g) (fault : PlanFault) → pool.io.failed ≡ false → ReadsLists pool pool (Err (faults.Plan fault))
  reads_nothing pool fault works = record {
    failed_pool = λ failed. absurd (let both : false ≡ true = sym works ∙ failed in cc both);
    open_still = λ alive is. absurd (cc is);
    looks = Looks-none (io_of pool.io);
    kept = refl;
  }
