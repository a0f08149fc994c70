use Rattle.std.proofs.Common.{◌≡◌, ◌∙◌, false, ℕ, List, Some, Ok, Err, get_or, refl, ap, subst}
use Rattle.zst_dir.specs.declared.rows.Snapshot.{Snapshot}
use Rattle.zst_plan.specs.Receipts.{IsBaseOf}
use Rattle.zst_plan.specs.RecvPlan.{cloned_base, if_kind}
use Rattle.zst_plan.proofs.LookupLemmas.{row_names}
use Rattle.zst_plan.proofs.ReceiveChecks.{unrolled}
use Rattle.zst_plan.proofs.receive.new_dataset.cloned_base.Goals as goal
use Rattle.zst_plan.proofs.AlikeAnswers.{refuses, answers}

pub returns-in_err-check_kind-clause-exact : goal.returns-in_err-check_kind-clause-exact
returns-in_err-check_kind-clause-exact c = λ pool snapshot are at.
    let rows = c.args.dir.now in
    let header = c.args.header.now in
    let row = c.index-snapshots-place.result in
    let names = row_names rows pool are c.args.place row snapshot at (c.index-snapshots-place.is ∙ ap (λ (xs : List Snapshot). get_or xs c.args.place row) c.snapshots.ensures) in
    let fault = c.in_err-check_kind.field-0.0 in
    refuses (IsBaseOf rows pool) c.from_residual.result (cloned_base header pool snapshot) fault c.from_residual.ensures.1
    (subst (λ (kind : ℕ). if_kind kind header (Ok (unrolled (Some snapshot))) ≡ Err fault) (c.kind_of.ensures pool snapshot are names) (c.in_err-check_kind.ensures (Ok (unrolled (Some snapshot)))))

pub returns-clause-exact : goal.returns-clause-exact
returns-clause-exact c = λ pool snapshot are at.
    let rows = c.args.dir.now in
    let header = c.args.header.now in
    let row = c.index-snapshots-place.result in
    let names = row_names rows pool are c.args.place row snapshot at (c.index-snapshots-place.is ∙ ap (λ (xs : List Snapshot). get_or xs c.args.place row) c.snapshots.ensures) in
    answers (IsBaseOf rows pool) (record { snapshot = Some c.args.place; rolls = false }) (unrolled (Some snapshot)) (cloned_base header pool snapshot)
    (subst (λ (kind : ℕ). if_kind kind header (Ok (unrolled (Some snapshot))) ≡ Ok (unrolled (Some snapshot))) (c.kind_of.ensures pool snapshot are names) (c.in_ok-check_kind.ensures (Ok (unrolled (Some snapshot)))))
    (at, refl)
