-- The bytes of rows tell the rows.
use Rattle.std.proofs.Common.{◌≡◌, ⊎_elim, ℕ, ◌<◌, ◌^◌, List, [], ◌∷◌, ◌++◌, length, refl, sym, ap, subst, ◌∙◌, arith, append_assoc}
use Rattle.std.proofs.lemmas.List.Elements.{All-head, All-tail}
use Rattle.std.specs.List.{All, flat_map}
use Rattle.zst_names.specs.Names.{component_of}
use Rattle.zst_model.specs.declared.sends.header.Header.{Header}
use Rattle.zst_model.specs.pools.Pool.{IsKind, IsStated}
use Rattle.zst_dir.specs.RowReads.{AreRows, IsSnapshotOf, dataset_front, snapshots_under}
use Rattle.zst_dir.specs.Rows.{IsDatasetRow, IsSnapshotRow, IsBookmarkRow, IsPartialRow}
use Rattle.zst_dir.specs.Spelling.{snapshot_bytes, snapshots_of, dataset_bytes, bookmark_bytes, header_bytes, partial_bytes}
use Rattle.zst_dir.specs.declared.rows.Dataset.{Dataset}
use Rattle.zst_dir.specs.declared.rows.Snapshot.{Snapshot}
use Rattle.zst_dir.specs.declared.rows.Bookmark.{Bookmark}
use Rattle.zst_dir.specs.declared.rows.Partial.{Partial}
use Rattle.zst_dir.proofs.NestedSnapshots.{are_snapshots_of}
use Rattle.zst_dir.proofs.RowParts.{snapshot_parts, dataset_parts, front_parts, bookmark_parts, header_parts, partial_parts}
use Rattle.zst_dir.proofs.TellingFields.{Tells, word_tells, text_tells, name_tells, flag_tells, guids_tell, ptr_tells, set_tells, rows_tell}
use Rattle.zst_dir.proofs.Texts.{plain_bookmark, snapshot_of_parts}

kind_fits : (kind : ℕ) → IsKind kind → kind < 2 ^ 64
kind_fits kind is = ⊎_elim (λ (two : kind ≡ 2). omega (arith, two)) (λ (three : kind ≡ 3). omega (arith, three)) is

pub snapshot_tells : (name : List ℕ) → Tells snapshot_bytes (IsSnapshotOf name)
snapshot_tells name x y after behind x_is y_is same =
    let a = x_is.row in
    let b = y_is.row in
    let component = text_tells (component_of 64 x.name) (component_of 64 y.name) _ _ (omega (arith, a.name.1.short)) (omega (arith, b.name.1.short)) (sym (snapshot_parts x after) ∙ same ∙ snapshot_parts y behind) in
    let guid = word_tells x.guid y.guid _ _ a.guid.1 b.guid.1 component.1 in
    let time = word_tells x.time y.time _ _ a.time b.time guid.1 in
    let number = word_tells x.number y.number _ _ a.number b.number time.1 in
    let objects = set_tells x.objects y.objects _ _ a.objects b.objects number.1 in
    let redact = guids_tell x.redact y.redact after behind a.redact b.redact objects.1 in
    let named : x.name ≡ y.name = sym (snapshot_of_parts x.name name (component_of 64 y.name) a.name x_is.dataset (sym component.0)) ∙ snapshot_of_parts y.name name (component_of 64 y.name) b.name y_is.dataset refl in
    let made : ◌≡◌ {A = Snapshot} (record { name = x.name; guid = x.guid; time = x.time; number = x.number; objects = x.objects; redact = x.redact }) (record { name = y.name; guid = y.guid; time = y.time; number = y.number; objects = y.objects; redact = y.redact }) = cc (named, guid.0, time.0, number.0, objects.0, redact.0) in
    (made, redact.1)

front_tells : Tells dataset_front IsDatasetRow
front_tells x y after behind a b same =
    let name = text_tells x.name y.name _ _ (omega (arith, a.name.short)) (omega (arith, b.name.short)) (sym (front_parts x after) ∙ same ∙ front_parts y behind) in
    let kind = word_tells x.kind y.kind _ _ (kind_fits x.kind a.kind) (kind_fits y.kind b.kind) name.1 in
    let origin = name_tells x.origin y.origin _ _ a.origin b.origin kind.1 in
    let head = set_tells x.head y.head _ _ a.head b.head origin.1 in
    let redact = guids_tell x.redact y.redact after behind a.redact b.redact head.1 in
    let made : ◌≡◌ {A = Dataset} (record { name = x.name; kind = x.kind; origin = x.origin; head = x.head; redact = x.redact }) (record { name = y.name; kind = y.kind; origin = y.origin; head = y.head; redact = y.redact }) = cc (name.0, kind.0, origin.0, head.0, redact.0) in
    (made, redact.1)

pub bookmark_tells : Tells bookmark_bytes IsBookmarkRow
bookmark_tells x y after behind a b same =
    let x_plain = plain_bookmark x.name a.name in
    let y_plain = plain_bookmark y.name b.name in
    let name = text_tells x.name y.name _ _ (omega (arith, x_plain.short)) (omega (arith, y_plain.short)) (sym (bookmark_parts x after) ∙ same ∙ bookmark_parts y behind) in
    let guid = word_tells x.guid y.guid _ _ a.guid.1 b.guid.1 name.1 in
    let time = word_tells x.time y.time _ _ a.time b.time guid.1 in
    let number = word_tells x.number y.number _ _ a.number b.number time.1 in
    let redact = guids_tell x.redact y.redact _ _ a.redact b.redact number.1 in
    let runs = word_tells x.runs y.runs _ _ a.runs b.runs redact.1 in
    let levels = word_tells x.levels y.levels _ _ (omega (arith, a.levels)) (omega (arith, b.levels)) runs.1 in
    let root = ptr_tells x.root y.root after behind a.root b.root levels.1 in
    let made : ◌≡◌ {A = Bookmark} (record { name = x.name; guid = x.guid; time = x.time; number = x.number; redact = x.redact; runs = x.runs; levels = x.levels; root = x.root }) (record { name = y.name; guid = y.guid; time = y.time; number = y.number; redact = y.redact; runs = y.runs; levels = y.levels; root = y.root }) = cc (name.0, guid.0, time.0, number.0, redact.0, runs.0, levels.0, root.0) in
    (made, root.1)

-- a header without a resume point
header_tells : Tells header_bytes IsStated
header_tells x y after behind a b same =
    let kind = word_tells x.kind y.kind _ _ (kind_fits x.kind a.kind) (kind_fits y.kind b.kind) (sym (header_parts x after) ∙ same ∙ header_parts y behind) in
    let flags = word_tells x.flags y.flags _ _ (omega (arith, a.flags)) (omega (arith, b.flags)) kind.1 in
    let features = word_tells x.features y.features _ _ (omega (arith, a.features)) (omega (arith, b.features)) flags.1 in
    let time = word_tells x.time y.time _ _ a.time b.time features.1 in
    let to = word_tells x.to y.to _ _ a.to.1 b.to.1 time.1 in
    let from = word_tells x.from y.from _ _ a.from b.from to.1 in
    let name = text_tells x.name y.name _ _ (omega (arith, a.name.short)) (omega (arith, b.name.short)) from.1 in
    let redact = guids_tell x.redact y.redact _ _ a.redact b.redact name.1 in
    let from_redact = guids_tell x.from_redact y.from_redact after behind a.from_redact b.from_redact redact.1 in
    let resume : x.resume ≡ y.resume = a.resume ∙ sym b.resume in
    let made : ◌≡◌ {A = Header} (record { kind = x.kind; flags = x.flags; features = x.features; time = x.time; to = x.to; from = x.from; name = x.name; resume = x.resume; redact = x.redact; from_redact = x.from_redact })
    (record { kind = y.kind; flags = y.flags; features = y.features; time = y.time; to = y.to; from = y.from; name = y.name; resume = y.resume; redact = y.redact; from_redact = y.from_redact })
    = cc (kind.0, flags.0, features.0, time.0, to.0, from.0, name.0, resume, redact.0, from_redact.0) in
    (made, from_redact.1)

pub partial_tells : Tells partial_bytes IsPartialRow
partial_tells x y after behind a b same =
    let target = text_tells x.target y.target _ _ (omega (arith, a.target.short)) (omega (arith, b.target.short)) (sym (partial_parts x after) ∙ same ∙ partial_parts y behind) in
    let snapshot = text_tells x.snapshot y.snapshot _ _ (omega (arith, a.snapshot.short)) (omega (arith, b.snapshot.short)) target.1 in
    let keep = flag_tells x.keep y.keep _ _ snapshot.1 in
    let header = header_tells x.header y.header _ _ a.header b.header keep.1 in
    let base = name_tells x.base y.base _ _ a.base b.base header.1 in
    let objects = set_tells x.objects y.objects _ _ a.objects b.objects base.1 in
    let object = word_tells x.point.object y.point.object _ _ a.object b.object objects.1 in
    let offset = word_tells x.point.offset y.point.offset after behind a.offset b.offset object.1 in
    let made : ◌≡◌ {A = Partial} (record { target = x.target; snapshot = x.snapshot; keep = x.keep; header = x.header; base = x.base; objects = x.objects; point = record { object = x.point.object; offset = x.point.offset } })
    (record { target = y.target; snapshot = y.snapshot; keep = y.keep; header = y.header; base = y.base; objects = y.objects; point = record { object = y.point.object; offset = y.point.offset } })
    = cc (target.0, snapshot.0, keep.0, header.0, base.0, objects.0, object.0, offset.0) in
    (made, offset.1)

-- a dataset with its snapshots
module _ (all others : List Snapshot) (are : AreRows IsSnapshotRow all) (are_others : AreRows IsSnapshotRow others) where
  dataset_tells : (x y : Dataset) (after behind : List ℕ) → IsDatasetRow x → IsDatasetRow y → dataset_bytes all x ++ after ≡ dataset_bytes others y ++ behind
      → (x ≡ y) × (snapshots_of x.name all ≡ snapshots_of y.name others) × (after ≡ behind)
  dataset_tells x y after behind a b same =
      let front = front_tells x y _ _ a b (sym (dataset_parts all x after) ∙ same ∙ dataset_parts others y behind) in
      let named : y.name ≡ x.name = ap (λ (d : Dataset). d.name) (sym front.0) in
      let under = subst (λ (name : List ℕ). AreRows (IsSnapshotOf name) (snapshots_of y.name others)) named (are_snapshots_of y.name others are_others) in
      let own = rows_tell snapshot_bytes (IsSnapshotOf x.name) (snapshot_tells x.name) (snapshots_of x.name all) (snapshots_of y.name others) after behind (are_snapshots_of x.name all are) under front.1 in
      (front.0, own.0, own.1)

  pub datasets_tell : (xs ys : List Dataset) (after behind : List ℕ) → All IsDatasetRow xs → All IsDatasetRow ys → length xs ≡ length ys → flat_map (dataset_bytes all) xs ++ after ≡ flat_map (dataset_bytes others) ys ++ behind
      → (xs ≡ ys) × (snapshots_under all xs ≡ snapshots_under others ys) × (after ≡ behind)
  datasets_tell [] [] after behind xs_are ys_are long same = (refl, refl, same)
  datasets_tell [] (y ∷ ys) after behind xs_are ys_are long same = absurd (omega (arith, long))
  datasets_tell (x ∷ xs) [] after behind xs_are ys_are long same = absurd (omega (arith, long))
  datasets_tell (x ∷ xs) (y ∷ ys) after behind xs_are ys_are long same =
      let first = dataset_tells x y (flat_map (dataset_bytes all) xs ++ after) (flat_map (dataset_bytes others) ys ++ behind) (All-head IsDatasetRow x xs xs_are) (All-head IsDatasetRow y ys ys_are)
      (sym (append_assoc (dataset_bytes all x) (flat_map (dataset_bytes all) xs) after) ∙ same ∙ append_assoc (dataset_bytes others y) (flat_map (dataset_bytes others) ys) behind) in
      let rest = datasets_tell xs ys after behind (All-tail IsDatasetRow x xs xs_are) (All-tail IsDatasetRow y ys ys_are) (omega (arith, long)) first.2 in
      (cc (first.0, rest.0), cc (first.1, rest.1), rest.2)
