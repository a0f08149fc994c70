use Rattle.std.proofs.Common.{◌∙◌, List, ℕ, Err, is_some, sym, ap}
use Rattle.zst_dir.proofs.Lookups.{no_snapshot}
use Rattle.zst_dir.proofs.NamedRows.{snapshot_is_there}
use Rattle.zst_model.specs.declared.refusals.subjects.Name.TheVariants as names
use Rattle.zst_model.specs.declared.refusals.subjects.PresentSubject.TheVariants as present
use Rattle.zst_model.specs.declared.refusals.plan_fault.PlanFault.TheVariants as plans
use Rattle.zst_model.specs.states.AppliedItems.{unless}
use Rattle.zst_plan.proofs.ReceiveChecks.{is_taken}
use Rattle.zst_plan.proofs.receive.room.check_new.Goals as goal

pub returns-then-is_some-clause-exact : goal.returns-then-is_some-clause-exact
returns-then-is_some-clause-exact c = λ pool rest are.
    let name = c.args.name.now in
    is_taken name pool rest c.is_some.result (c.is_some.ensures ∙ ap (λ o. is_some o) c.snapshot.ensures ∙ snapshot_is_there c.args.dir.now pool are name)
    ∙ ap (λ b. unless b (plans.Exists (present.Named (names.Snapshot name))) rest) c.if-is_some.true
    ∙ ap (λ (n : List ℕ). Err (plans.Exists (present.Named (names.Snapshot n)))) (sym c.duplicate.ensures)

pub returns-clause-exact : goal.returns-clause-exact
returns-clause-exact c = λ pool rest are.
    let name = c.args.name.now in
    is_taken name pool rest c.is_some.result (c.is_some.ensures ∙ ap (λ o. is_some o) c.snapshot.ensures ∙ snapshot_is_there c.args.dir.now pool are name)
    ∙ ap (λ b. unless b (plans.Exists (present.Named (names.Snapshot name))) rest) c.if-is_some.false

pub returns-clause-new : goal.returns-clause-new
returns-clause-new c =
    no_snapshot c.args.dir.now c.args.name.now (sym (c.is_some.ensures ∙ ap (λ o. is_some o) c.snapshot.ensures) ∙ c.if-is_some.false)
