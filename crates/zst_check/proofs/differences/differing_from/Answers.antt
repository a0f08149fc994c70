use Rattle.std.proofs.Common.{◌≡◌, ◌≤◌, ◌<◌, ℕ, List, length, Option, None, Contains, HoldsAt, sym, ◌∙◌, subst}
use Rattle.std.proofs.lemmas.Result.{err_from_is_err_and}
use Rattle.zst_block.specs.IoStates.{blocks_of, disk_of}
use Rattle.zst_compare.specs.Agreement.{ComparesSets}
use Rattle.zst_compare.specs.declared.difference.Difference.{Difference}
use Rattle.zst_dir.specs.declared.rows.Snapshot.{Snapshot}
use Rattle.zst_dir.proofs.Matches.{length-Match}
use Rattle.zst_image.specs.Reads.{SnapshotIs}
use Rattle.zst_objset.specs.Sets.{SetHolds}
use Rattle.zst_tree.specs.Damage.{IsSeen}
use Rattle.zst_tree.specs.declared.tree.ObjSet.{ObjSet}
use Rattle.zst_check.specs.FailingPlaces.{Differs}
use Rattle.zst_check.specs.Findings.{StandsAtPlace}
use Rattle.zst_check.specs.ReportNames.{IsStateName, WithState}
use Rattle.zst_check.proofs.ComparedStates.{none_behind, agrees_at, differs_at, undamaged_at}
use Rattle.zst_check.proofs.ReportNames.{state_named}
use Rattle.zst_check.proofs.StateDamage.{compared_told}
use Rattle.zst_check.proofs.differences.differing_from.Goals as goal

-- the row that was looked up is that of the directory
stands_there : (xs ys : List Snapshot) (place : ℕ) (row : Snapshot) → xs ≡ ys → (place < length xs) × HoldsAt (λ x. row ≡ x) xs place → (place < length ys) × HoldsAt (λ y. row ≡ y) ys place
stands_there xs ys place row same there = subst (λ (zs : List Snapshot). (place < length zs) × HoldsAt (λ z. row ≡ z) zs place) same there

pub returns-in_default-get-clause-found : goal.returns-in_default-get-clause-found
returns-in_default-get-clause-found g c = λ pool row honest runs stands nearest earlier at.
    let has = blocks_of c.args.io.now in
    let past = subst (λ (xs : List Snapshot). length xs ≤ c.in-Some.place) c.snapshots.ensures c.in_default-get.ensures.lookup.3 in
    let same = length-Match (SnapshotIs None has) c.args.dir.now.snapshots pool.snapshots runs.snapshots in
    absurd (none_behind pool.snapshots c.in-Some.place earlier (subst (λ (n : ℕ). n ≤ c.in-Some.place) same past) (subst (λ (p : Option ℕ). StandsAtPlace pool.snapshots p earlier) c.in-Some.is at))

pub returns-in_err-compare_sets-clause-found : goal.returns-in_err-compare_sets-clause-found
returns-in_err-compare_sets-clause-found g c = λ pool row honest runs stands nearest.
    let p = err_from_is_err_and c.from_residual.result c.from_residual.ensures.1 in
    let has = blocks_of c.args.io.now in
    let here = stands_there c.snapshots.result.now c.args.dir.now.snapshots c.in-Some.place c.in-Some-get.earlier.now c.snapshots.ensures c.in-Some-get.ensures.lookup.3 in
    let holds = subst (λ (set : ObjSet). SetHolds has set row.objects) (sym c.set.ensures) stands.holds in
    rw (p.1, p.2) (undamaged_at has c.args.dir.now pool runs c.in-Some.place c.in-Some-get.earlier.now here.0 here.1 _ (λ was was_holds. c.in_err-compare_sets.ensures.compared was row.objects honest holds was_holds))

pub returns-in_err-compare_sets-clause-damaged : goal.returns-in_err-compare_sets-clause-damaged
returns-in_err-compare_sets-clause-damaged g c = λ honest own.
    let p = err_from_is_err_and c.from_residual.result c.from_residual.ensures.1 in
    let here = stands_there c.snapshots.result.now c.args.dir.now.snapshots c.in-Some.place c.in-Some-get.earlier.now c.snapshots.ensures c.in-Some-get.ensures.lookup.3 in
    let disk = disk_of c.args.io.now in
    rw (p.1, p.2) (compared_told (IsSeen disk.seen) disk.size c.args.dir.now c.args.state.now c.in-Some-get.earlier.now c.in_err-compare_sets.field-0.0 own (c.in-Some.place, here.0, sym (here.1 c.in-Some-get.earlier.now)) (rw c.set.ensures at (c.in_err-compare_sets.ensures.damaged honest)))

pub returns-in-None-clause-found : goal.returns-in-None-clause-found
returns-in-None-clause-found g c = λ pool row honest runs stands nearest earlier at.
    let has = blocks_of c.args.io.now in
    let here = stands_there c.snapshots.result.now c.args.dir.now.snapshots c.in-Some.place c.in-Some-get.earlier.now c.snapshots.ensures c.in-Some-get.ensures.lookup.3 in
    let holds = subst (λ (set : ObjSet). SetHolds has set row.objects) (sym c.set.ensures) stands.holds in
    agrees_at has c.args.dir.now pool runs c.in-Some.place c.in-Some-get.earlier.now here.0 here.1 row.objects
    (λ was was_holds. subst (λ (found : Option Difference). ComparesSets c.in-Some-get.earlier.now.number was row.objects found) c.in-None.is (c.in_ok-compare_sets.ensures.compared was row.objects honest holds was_holds))
    earlier (subst (λ (p : Option ℕ). StandsAtPlace pool.snapshots p earlier) c.in-Some.is at)

pub returns-in-Some-2-clause-found : goal.returns-in-Some-2-clause-found
returns-in-Some-2-clause-found g c = λ pool row honest runs stands nearest.
    let has = blocks_of c.args.io.now in
    let here = stands_there c.snapshots.result.now c.args.dir.now.snapshots c.in-Some.place c.in-Some-get.earlier.now c.snapshots.ensures c.in-Some-get.ensures.lookup.3 in
    let holds = subst (λ (set : ObjSet). SetHolds has set row.objects) (sym c.set.ensures) stands.holds in
    let found = c.in-Some-2.difference in
    subst (λ (one : List ℕ). Differs pool one c.name.result found.object found.block) (sym (c.new.ensures.same ∙ c.as_bytes.ensures.value ∙ c.text.ensures.same))
    (subst (λ (other : List ℕ). Differs pool c.in-Some-get.earlier.now.name other found.object found.block) (sym c.name.ensures)
    (differs_at has c.args.dir.now pool runs c.in-Some.place c.in-Some-get.earlier.now here.0 here.1 c.args.state.now row found stands
    (λ was was_holds. subst (λ (told : Option Difference). ComparesSets c.in-Some-get.earlier.now.number was row.objects told) c.in-Some-2.is (c.in_ok-compare_sets.ensures.compared was row.objects honest holds was_holds))
    (λ earlier at. nearest earlier (subst (λ (p : Option ℕ). StandsAtPlace pool.snapshots p earlier) (sym c.in-Some.is) at))))

pub returns-in-Some-2-clause-named : goal.returns-in-Some-2-clause-named
returns-in-Some-2-clause-named g c = λ own.
    let here = stands_there c.snapshots.result.now c.args.dir.now.snapshots c.in-Some.place c.in-Some-get.earlier.now c.snapshots.ensures c.in-Some-get.ensures.lookup.3 in
    let listed : Contains c.args.dir.now.snapshots c.in-Some-get.earlier.now = (c.in-Some.place, here.0, sym (here.1 c.in-Some-get.earlier.now)) in
    WithState c.in-Some-get.earlier.now listed (sym (c.new.ensures.same ∙ c.as_bytes.ensures.value ∙ c.text.ensures.same))
    (subst (IsStateName c.args.dir.now) (sym c.name.ensures) (state_named c.args.dir.now c.args.state.now own))
