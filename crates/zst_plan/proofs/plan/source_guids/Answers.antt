use Rattle.std.proofs.Common.{ℕ, ◌∙◌, List, Option, get_or, sym, ap, subst}
use Rattle.zst_dir.specs.declared.rows.Snapshot.{Snapshot}
use Rattle.zst_plan.specs.Places.{FindAlike, StandsAt}
use Rattle.zst_plan.specs.Plans.{bookmark_source, snapshot_source}
use Rattle.zst_plan.proofs.BeginHeader.{bookmark_guids, snapshot_guids}
use Rattle.zst_plan.proofs.LookupLemmas.{row_names}
use Rattle.zst_plan.proofs.plan.source_guids.Goals as goal
use Rattle.zst_plan.proofs.AlikeAnswers.{none_alike, some_alike}

pub returns-in-Some : goal.returns-in-Some
returns-in-Some c = λ pool source are snapshot bookmark.
    let rows = c.args.dir.now in
    let place = c.in-Some.place in
    let row = c.index-snapshots-place.result in
    let found = some_alike (StandsAt rows.snapshots pool.snapshots) place (snapshot_source source)
    (subst (λ (o : Option ℕ). FindAlike (StandsAt rows.snapshots pool.snapshots) o (snapshot_source source)) c.in-Some.is snapshot) in
    let names = row_names rows pool are place row found.0 found.2 (c.index-snapshots-place.is ∙ ap (λ (xs : List Snapshot). get_or xs place row) c.snapshots.ensures) in
    c.duplicate.ensures ∙ sym (ap (λ (r : Snapshot). r.redact) c.index-snapshots-place.is) ∙ sym names.redact ∙ snapshot_guids source found.0 found.1

pub returns-in-None : goal.returns-in-None
returns-in-None c = λ pool source are snapshot bookmark.
    let rows = c.args.dir.now in
    let none = none_alike (StandsAt rows.snapshots pool.snapshots) (snapshot_source source)
    (subst (λ (o : Option ℕ). FindAlike (StandsAt rows.snapshots pool.snapshots) o (snapshot_source source)) c.in-None.is snapshot) in
    c.guids_at.ensures pool (bookmark_source source) are bookmark ∙ bookmark_guids source none
