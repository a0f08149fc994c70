-- Plans' faults as refusals.
use Rattle.std.proofs.Common.{◌≡◌, ℕ, Option, Some, None, refl, sym, ap, ◌∙◌}
use Rattle.std.proofs.lemmas.Option.{same_Some}
use Rattle.zst_model.specs.declared.refusals.faults.Quantity.{Quantity}
use Rattle.zst_model.specs.declared.refusals.plan_fault.PlanFault.{PlanFault}
use Rattle.zst_model.specs.declared.refusals.plan_fault.PlanFault.TheVariants as plans
use Rattle.zst_model.specs.declared.refusals.refusal.Refusal.{Refusal}
use Rattle.zst_model.specs.declared.refusals.refusal.Refusal.TheVariants as refusals
use Rattle.zst_model.specs.refusals.Refusal.{refusal_of}

-- what holds of a limit and its refusal, and of each fault and the refusal that names it, holds of each fault and its refusal
pub plan_cases : (P : PlanFault → Refusal → Type 0) → ((fault : PlanFault) → P fault (refusals.Plan fault))
    → ((which : Quantity) (number : ℕ) → P (plans.Limit which number) (refusals.Limit which number)) → (fault : PlanFault) → P fault (refusal_of fault)
plan_cases P plan limit (plans.BadName place) = plan (plans.BadName place)
plan_cases P plan limit (plans.NoSuch missing) = plan (plans.NoSuch missing)
plan_cases P plan limit (plans.Exists present) = plan (plans.Exists present)
plan_cases P plan limit (plans.Busy holder) = plan (plans.Busy holder)
plan_cases P plan limit (plans.NotAncestor to from) = plan (plans.NotAncestor to from)
plan_cases P plan limit (plans.NotRedactionOf bookmark snapshot) = plan (plans.NotRedactionOf bookmark snapshot)
plan_cases P plan limit (plans.NotDescendant snapshot) = plan (plans.NotDescendant snapshot)
plan_cases P plan limit (plans.Modified dataset) = plan (plans.Modified dataset)
plan_cases P plan limit (plans.NotLatest have want) = plan (plans.NotLatest have want)
plan_cases P plan limit (plans.NoOrigin guid) = plan (plans.NoOrigin guid)
plan_cases P plan limit (plans.NotContained guid) = plan (plans.NotContained guid)
plan_cases P plan limit (plans.PartialExists dataset) = plan (plans.PartialExists dataset)
plan_cases P plan limit (plans.NoPartial dataset) = plan (plans.NoPartial dataset)
plan_cases P plan limit (plans.WrongResume have want) = plan (plans.WrongResume have want)
plan_cases P plan limit (plans.Unsupported lack) = plan (plans.Unsupported lack)
plan_cases P plan limit (plans.Limit which number) = limit which number

-- the plan's fault that a refusal is
abbrev pub plan_of : Refusal → Option PlanFault
plan_of (refusals.Plan fault) = Some fault
plan_of (refusals.Limit which number) = Some (plans.Limit which number)
plan_of refusal = None

pub plan_is : (fault : PlanFault) → plan_of (refusal_of fault) ≡ Some fault
plan_is = plan_cases (λ fault refusal. plan_of refusal ≡ Some fault) (λ fault. refl) (λ which number. refl)

-- so refusals tell plans' faults apart
pub same_plan : (one other : PlanFault) → refusal_of one ≡ refusal_of other → one ≡ other
same_plan one other is = same_Some one other (sym (plan_is one) ∙ ap plan_of is ∙ plan_is other)
