use Rattle.std.proofs.Common.{◌≡◌, ◌∙◌, ◌+◌, ◌∷◌, ◌++◌, ℕ, List, not, Ok, Err, sym, ap, subst, refl, arith}
use Rattle.std.proofs.lemmas.Bool.{false≢true}
use Rattle.zst_model.specs.declared.refusals.plan_fault.PlanFault.TheVariants as plans
use Rattle.zst_model.specs.states.AppliedItems.{unless}
use Rattle.zst_names.specs.Names.{IsComponent, StopsAt, component_of}
use Rattle.zst_plan.specs.RecvPlan.{behind_mark, component_stop, snapshot_name, stated_component}
use Rattle.zst_plan.proofs.Components.{fails, is_text, passes, stops_there}
use Rattle.zst_plan.proofs.receive.name.stated_name.Goals as goal
use Rattle.zst_plan.proofs.AlikeAnswers.{answers, hands_on}

pub returns-in-Err-clause-exact : goal.returns-in-Err-clause-exact
returns-in-Err-clause-exact c =
    let name = c.args.name.now in
    let component = component_of 64 name in
    let place = c.in-Err.fault.place in
    let none : IsComponent component → ⊥ = λ h. false≢true (c.in-Err.ensures.exact (subst IsComponent (sym c.component_in-component.ensures) h)) in
    let stop = subst (λ (text : List ℕ). StopsAt IsComponent text place) c.component_in-component.ensures c.in-Err.ensures.cause in
    let same : c.behind_mark.result + place ≡ behind_mark name + component_stop component = omega (arith, c.behind_mark.ensures.place, stops_there component place stop) in
    hands_on (λ (found : List ℕ) (component : List ℕ). found ≡ snapshot_name c.args.target.now component) (Err (plans.BadName (c.behind_mark.result + place))) (stated_component name)
    (Err (plans.BadName (c.behind_mark.result + place)))
    (ap (λ b. unless (not b) (plans.BadName (behind_mark name + component_stop component)) (Ok component)) (fails component none) ∙ ap (λ (p : ℕ). Err (plans.BadName p)) (sym same))
    refl

pub unreachable-requires : goal.unreachable-requires
unreachable-requires c =
    c.in-Err-from_utf8.ensures.cases.0 (is_text c.component_in-component.result.now c.in_default.ensures.found)

pub returns-clause-exact : goal.returns-clause-exact
returns-clause-exact c =
    let name = c.args.name.now in
    let component = component_of 64 name in
    let is = subst IsComponent c.component_in-component.ensures c.in_default.ensures.found in
    answers (λ (found : List ℕ) (component : List ℕ). found ≡ snapshot_name c.args.target.now component) c.of.result component (stated_component name)
    (ap (λ b. unless (not b) (plans.BadName (behind_mark name + component_stop component)) (Ok component)) (passes component is))
    (c.of.ensures.text ∙ ap (λ (text : List ℕ). c.args.target.now ++ 64 ∷ text) (c.in-Ok.ensures.cases.0 ∙ c.component_in-component.ensures))
