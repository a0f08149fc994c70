use Rattle.std.proofs.Common.{◌≡◌, inl, inr, ℕ, true, List, get_or, Option, ◌∙◌, ap, subst}
use Rattle.zst_block.specs.IoStates.{blocks_of}
use Rattle.zst_dir.specs.declared.rows.Snapshot.{Snapshot}
use Rattle.zst_model.specs.sends.SendPlan.{has_guids}
use Rattle.zst_plan.proofs.AlikeAnswers.{none_alike}
use Rattle.zst_plan.specs.Places.{FindAlike, StandsAt}
use Rattle.zst_plan.specs.Plans.{bookmark_source, snapshot_source}
use Rattle.zst_send.specs.Openings.{IsDamagedFrom, IsDamagedList, IsDamagedRow, IsRedactedAt}
use Rattle.zst_send.proofs.SourceLists.{gives_at, gives_listed, more_unlisted, snapshot_at, tells_more, unread_so}
use Rattle.zst_send.proofs.lists.source_list.Goals as goal

-- ---- it is from no snapshot

pub returns-in-None-clause-found : goal.returns-in-None-clause-found
returns-in-None-clause-found g c = λ pool source honest named is stands listed.
    let Is = StandsAt c.args.dir.now.snapshots pool.snapshots in
    let none = none_alike Is (snapshot_source source) (subst (λ (p : Option ℕ). FindAlike Is p (snapshot_source source)) c.in-None.is is.snapshot) in
    gives_listed source c.list_at.result none (c.list_at.ensures.found pool (bookmark_source source) honest is.bookmark listed)

pub returns-in-None-clause-unlisted : goal.returns-in-None-clause-unlisted
returns-in-None-clause-unlisted g c = unread_so (IsRedactedAt c.args.dir.now c.args.plan.now.from_snap) c.list_at.result c.list_at.ensures.unread

pub returns-in-None-clause-damaged : goal.returns-in-None-clause-damaged
returns-in-None-clause-damaged g c = λ honest.
    let rows = c.args.dir.now in
    let plan = c.args.plan.now in
    let disk = g.D.Disk.state c.args.io.now.disk.now in
    let end = c.args.io.now.space.end in
    tells_more (IsDamagedList end disk.seen disk.size rows plan.book_f) (IsDamagedFrom end disk.seen disk.size rows plan) (λ sector stated found damaged. inl damaged)
    c.list_at.result (c.list_at.ensures.damaged honest)

pub returns-in-None-clause-looks : goal.returns-in-None-clause-looks
returns-in-None-clause-looks g c = c.list_at.ensures.looks

-- ---- it is from a snapshot

pub returns-in-Some-clause-found : goal.returns-in-Some-clause-found
returns-in-Some-clause-found g c = λ pool source honest named is stands listed.
    let rows = c.args.dir.now in
    let place = c.in-Some.place in
    let row = c.index-snapshots-place.result in
    let here = c.index-snapshots-place.is ∙ ap (λ (xs : List Snapshot). get_or xs place row) c.snapshots.ensures in
    let at = subst (λ (p : Option ℕ). FindAlike (StandsAt rows.snapshots pool.snapshots) p (snapshot_source source)) c.in-Some.is is.snapshot in
    gives_at (blocks_of c.args.io.now) rows pool place row source c.redacted_list.result named at here stands
    (λ snapshot names holds. c.redacted_list.ensures.found snapshot honest names holds)

pub returns-in-Some-clause-unlisted : goal.returns-in-Some-clause-unlisted
returns-in-Some-clause-unlisted g c =
    let rows = c.args.dir.now in
    let from = c.args.plan.now.from_snap in
    let place = c.in-Some.place in
    let row = c.index-snapshots-place.result in
    let here = c.index-snapshots-place.is ∙ ap (λ (xs : List Snapshot). get_or xs place row) c.snapshots.ensures in
    more_unlisted (has_guids row.redact ≡ true) (IsRedactedAt rows from) (λ some. (row, snapshot_at rows from place row c.in-Some.is c.requires.inside.from_snapshot here, some))
    c.redacted_list.result c.redacted_list.ensures.unlisted

pub returns-in-Some-clause-damaged : goal.returns-in-Some-clause-damaged
returns-in-Some-clause-damaged g c = λ honest.
    let rows = c.args.dir.now in
    let plan = c.args.plan.now in
    let disk = g.D.Disk.state c.args.io.now.disk.now in
    let place = c.in-Some.place in
    let row = c.index-snapshots-place.result in
    let here = c.index-snapshots-place.is ∙ ap (λ (xs : List Snapshot). get_or xs place row) c.snapshots.ensures in
    let at = snapshot_at rows plan.from_snap place row c.in-Some.is c.requires.inside.from_snapshot here in
    tells_more (IsDamagedRow disk.seen disk.size row) (IsDamagedFrom c.args.io.now.space.end disk.seen disk.size rows plan) (λ sector stated found damaged. inr (row, at, damaged))
    c.redacted_list.result (c.redacted_list.ensures.damaged honest)

pub returns-in-Some-clause-looks : goal.returns-in-Some-clause-looks
returns-in-Some-clause-looks g c = c.redacted_list.ensures.looks
