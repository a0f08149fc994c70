use Rattle.std.proofs.Common.{◌≡◌, ℕ, ◌<◌, ◌==◌, false, List, ◌∷◌, length, Some, None, All, get_or, refl, sym, ◌∙◌, ap, subst, arith}
use Rattle.std.proofs.lemmas.Bool.Decides.{nat_tests}
use Rattle.std.proofs.lemmas.List.Elements.{All-cons}
use Rattle.zst_block.specs.IoStates.{blocks_of, disk_of}
use Rattle.zst_compare.specs.Damage.{OfEither}
use Rattle.zst_dir.specs.declared.rows.Snapshot.{Snapshot as Row}
use Rattle.zst_dir.proofs.Matches.{length-Match}
use Rattle.zst_image.specs.Reads.{SnapshotIs}
use Rattle.zst_model.specs.fields.Guids.{IsGuidSet}
use Rattle.zst_model.specs.pools.Pool.{Snapshot}
use Rattle.zst_laws.specs.RedactionLists.{AreRedactions, Lists}
use Rattle.zst_redact.specs.Damage.{IsDamagedAmong}
use Rattle.zst_tree.specs.Damage.{IsSeen}
use Rattle.zst_check.specs.Damage.{IsDamagedInChecked, IsDamagedList}
use Rattle.zst_check.specs.FailingPlaces.{ListDiffers}
use Rattle.zst_check.specs.Redactions.{DiffersFrom, IsListed, IsSetOfRow}
use Rattle.zst_check.proofs.CheckedLists.{at_place, differs_there, finds_more, lists_all, lists_none, row_is, sets_hold}
use Rattle.zst_check.proofs.ListDamage.{checked_told, result_within}
use Rattle.zst_check.proofs.NamedRows.{rows_name}
use Rattle.zst_check.proofs.ReportNames.{listed_at, own_named}
use Rattle.zst_check.proofs.lists.differing_row.Goals as goal

pub returns-in_default-clause-found : goal.returns-in_default-clause-found
returns-in_default-clause-found g c = λ pool bookmark honest runs lawful sound there is.
    lists_none pool bookmark None (λ snapshot. c.in_default.ensures.own pool bookmark snapshot (rows_name (blocks_of c.args.io.now) c.args.dir.now pool runs) sound.dated is.named) (λ snapshot at. absurd at)

pub returns-in-None-clause-found : goal.returns-in-None-clause-found
returns-in-None-clause-found g c = λ pool bookmark honest runs lawful sound there is.
    let all = c.args.dir.now.snapshots in
    let place = c.in-Some.place in
    let row = c.index-snapshots-place.result in
    let are = rows_name (blocks_of c.args.io.now) c.args.dir.now pool runs in
    let stands : row ≡ get_or all place row = c.index-snapshots-place.is ∙ ap (λ (rows : List Row). get_or rows place row) c.snapshots.ensures in
    let guids : c.as_slice-2.result.now ≡ bookmark.redact = c.as_slice-2.ensures.same ∙ sym is.named.redact in
    let only = λ (snapshot : Snapshot). c.in-Some.ensures.own pool bookmark snapshot are sound.dated is.named in
    lists_none pool bookmark (Some place) only (λ snapshot at others also.
    let names = (row_is (blocks_of c.args.io.now) all pool.snapshots runs.snapshots place row c.in-Some.ensures.inside stands snapshot at).named in
    let none = rw c.in-None.is at (c.in_ok-redaction_sets.ensures.only pool snapshot are lawful sound ((only snapshot).1 at).0 names) in
    none others (subst (λ (list : List ℕ). AreRedactions pool snapshot list others) (sym guids) also))

-- the sets are those of the own row and of the redaction snapshots' rows
pub returns-in-Some-2-clause-damaged : goal.returns-in-Some-2-clause-damaged
returns-in-Some-2-clause-damaged g c = λ honest listed.
    let rows = c.args.dir.now in
    let place = c.in-Some.place in
    let row = c.index-snapshots-place.result in
    let stands : row ≡ get_or rows.snapshots place row = c.index-snapshots-place.is ∙ ap (λ (list : List Row). get_or list place row) c.snapshots.ensures in
    let sets = c.as_slice-in-Some-2.result.now in
    let others : All (IsSetOfRow rows.snapshots) sets = rw c.as_slice-in-Some-2.ensures.value (rw c.in-Some-2.is at c.in_ok-redaction_sets.ensures.rows) in
    let all = All-cons (IsSetOfRow rows.snapshots) row.objects sets (record { row = row; listed = (place, c.in-Some.ensures.inside, sym stands); is_set = refl }) others in
    let disk = disk_of c.args.io.now in
    let end = c.args.io.now.space.end in
    result_within (OfEither (IsDamagedAmong (IsSeen disk.seen) disk.size (row.objects ∷ sets)) (IsDamagedList end disk.seen disk.size c.args.row.now)) (IsDamagedInChecked end disk.seen disk.size rows)
    (checked_told end disk.seen disk.size rows (row.objects ∷ sets) c.args.row.now all listed) c.differing_from.result (c.differing_from.ensures.damaged honest)

pub returns-in-Some-2-clause-found : goal.returns-in-Some-2-clause-found
returns-in-Some-2-clause-found g c = λ pool bookmark honest runs lawful sound there is.
    let all = c.args.dir.now.snapshots in
    let place = c.in-Some.place in
    let row = c.index-snapshots-place.result in
    let are = rows_name (blocks_of c.args.io.now) c.args.dir.now pool runs in
    let stands : row ≡ get_or all place row = c.index-snapshots-place.is ∙ ap (λ (rows : List Row). get_or rows place row) c.snapshots.ensures in
    let guids : c.as_slice-2.result.now ≡ bookmark.redact = c.as_slice-2.ensures.same ∙ sym is.named.redact in
    let only = λ (snapshot : Snapshot). c.in-Some.ensures.own pool bookmark snapshot are sound.dated is.named in
    let inside = c.in-Some.ensures.inside in
    let own = at_place pool.snapshots place (omega (arith, inside, length-Match (SnapshotIs None (blocks_of c.args.io.now)) all pool.snapshots runs.snapshots)) in
    let row_stands = row_is (blocks_of c.args.io.now) all pool.snapshots runs.snapshots place row inside stands own.0 own.1 in
    let found = rw c.in-Some-2.is at (c.in_ok-redaction_sets.ensures.only pool own.0 are lawful sound ((only own.0).1 own.1).0 row_stands.named) in
    let redactions = subst (λ (list : List ℕ). AreRedactions pool own.0 list found.0) guids found.1 in
    let set = subst IsGuidSet (sym is.named.redact) c.as_slice.ensures.set in
    let some : 0 < length bookmark.redact = not_empty bookmark.redact (ap (λ (list : List ℕ). length list == 0) (is.named.redact ∙ sym c.as_slice.ensures.same) ∙ (sym c.is_empty.ensures ∙ c.if-is_empty.false)) in
    let hold = sets_hold (blocks_of c.args.io.now) all pool.snapshots runs.snapshots c.in-Some-2.sets.items found.0 found.2 in
    finds_more (Lists bookmark own.0 found.0) (IsListed pool bookmark) (DiffersFrom bookmark own.0 found.0) (ListDiffers pool)
    (lists_all pool bookmark (Some place) only set own.0 found.0 own.1 redactions)
    (differs_there pool bookmark (Some place) only set own.0 found.0 own.1 redactions there some)
    c.differing_from.result
    (c.differing_from.ensures.found bookmark own.0 found.0 honest is row_stands (rw c.as_slice-in-Some-2.ensures.value hold))
  where
    not_empty : (list : List ℕ) → (length list == 0) ≡ false → 0 < length list
    not_empty list isnt = grind (arith, nat_tests)

-- the names are those of the bookmark and of its own snapshot
pub returns-in-Some-2-clause-named : goal.returns-in-Some-2-clause-named
returns-in-Some-2-clause-named g c = λ listed.
    let own = listed_at c.args.dir.now.snapshots c.snapshots.result.now c.in-Some.place c.index-snapshots-place.result c.snapshots.ensures
    (let inside = c.in-Some.ensures.inside in omega (arith, inside, ap length c.snapshots.ensures)) c.index-snapshots-place.is in
    own_named c.args.dir.now c.args.row.now c.index-snapshots-place.result listed own c.differing_from.result c.differing_from.ensures.named
