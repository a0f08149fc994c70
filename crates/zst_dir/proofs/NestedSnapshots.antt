-- A dataset's snapshots among all snapshots, and the loop that reads datasets with their snapshots.
use Rattle.std.proofs.Common.{◌≡◌, ℕ, ◌+◌, ◌<◌, Bool, true, false, not, get_or, List, [], ◌∷◌, ◌++◌, length, Some, refl, sym, subst, ap, ◌∙◌, arith, append_assoc, length-append, bytes_eq}
use Rattle.std.proofs.lemmas.List.{append-nil}
use Rattle.std.proofs.lemmas.List.Concat.{flat_map-append}
use Rattle.std.proofs.lemmas.List.Elements.{All-nil, All-append, All-push, All-weaker, All-filter, filter_passes, Contains-append_left, Contains-push}
use Rattle.std.proofs.lemmas.List.Filters.{length-filter_both}
use Rattle.std.proofs.lemmas.Slice.Eq.{bytes_eq-Decides}
use Rattle.std.specs.List.{All, flat_map}
use Rattle.zst_names.specs.Names.{dataset_of}
use Rattle.zst_dir.specs.declared.rows.Dataset.{Dataset}
use Rattle.zst_dir.specs.declared.rows.Snapshot.{Snapshot}
use Rattle.zst_dir.specs.RowReads.{AreRows, Appends, AppendsOne, IsSnapshotOf, IsSnapshotIn, snapshots_under}
use Rattle.zst_dir.specs.Rows.{IsDatasetRow, IsSnapshotRow}
use Rattle.zst_dir.specs.Spelling.{snapshots_of, rows_bytes, dataset_bytes}
use Rattle.zst_dir.proofs.Loops.{CountsBack, count_of}
use Rattle.zst_dir.proofs.ReadFronts.{Stands, stands_first, stands_next, stands_more, stands_last, fits_next, last_is}

-- those of one name are in their ranges, and no more than all
pub are_snapshots_of : (name : List ℕ) (all : List Snapshot) → AreRows IsSnapshotRow all → AreRows (IsSnapshotOf name) (snapshots_of name all)
are_snapshots_of name all are =
    let is_of : Snapshot → Bool = λ snapshot. bytes_eq (dataset_of 64 snapshot.name) name in
    record {
      each = λ k d below. record {
        row = All-filter is_of IsSnapshotRow all are.each k d below;
        dataset = (bytes_eq-Decides (dataset_of 64 (get_or (snapshots_of name all) k d).name) name).0 (filter_passes is_of all k d below);
      };
      count = omega (arith, are.count, length-filter_both is_of (λ snapshot. not (is_of snapshot)) (λ snapshot. refl) all);
    }

-- after so many of the counted datasets: those that have been read stand behind the old ones, their snapshots behind the old ones, and the rest is as it was spelled
pub record ReadingAll (start : List ℕ) (datasets : List Dataset) (snapshots : List Snapshot) (count counter : ℕ) (after : List Dataset) (later : List Snapshot) (cursor : List ℕ) : Type 0 where
  pub read : List Dataset
  pub is : after ≡ datasets ++ read
  pub at : length read ≡ counter
  pub each : All IsDatasetRow read
  pub under : Appends (IsSnapshotIn after) snapshots later
  pub stands : (rows : List Dataset) (all : List Snapshot) (rest : List ℕ) → AreRows IsDatasetRow rows → AreRows IsSnapshotRow all → start ≡ rows_bytes (dataset_bytes all) rows ++ rest
      → (count ≡ length rows) × Stands (dataset_bytes all) rows rest read cursor × (later ≡ snapshots ++ snapshots_under all read)

-- what reading one dataset says
abbrev pub ReadsOne : List ℕ → List ℕ → List Dataset → List Dataset → List Snapshot → List Snapshot → Bool → Type 0
ReadsOne cursor behind after more later last done =
    (dataset : Dataset) (all : List Snapshot) (rest : List ℕ) → IsDatasetRow dataset → AreRows IsSnapshotRow all → cursor ≡ dataset_bytes all dataset ++ rest
    → (done ≡ true) × (more ≡ after ++ dataset ∷ []) × (last ≡ later ++ snapshots_of dataset.name all) × (behind ≡ rest)

-- at first none has been read
pub all_first : (start cursor : List ℕ) (datasets : List Dataset) (snapshots : List Snapshot) (count : ℕ) → CountsBack start cursor (Some count) → ReadingAll start datasets snapshots count 0 datasets snapshots cursor
all_first start cursor datasets snapshots count counts = record {
  read = [];
  is = sym (append-nil datasets);
  at = refl;
  each = All-nil IsDatasetRow;
  under = record { rows = []; is = sym (append-nil snapshots); each = All-nil (IsSnapshotIn datasets) };
  stands = λ rows all rest are are_all is.
      let counted = count_of (dataset_bytes all) IsDatasetRow start cursor (Some count) counts rows rest are is in
      (cc counted.0, stands_first (dataset_bytes all) rows rest cursor counted.1, sym (append-nil snapshots));
}

-- where the next isn't read, there are no such rows
pub all_stops : (start : List ℕ) (datasets : List Dataset) (snapshots : List Snapshot) (count counter : ℕ) (after more : List Dataset) (later last : List Snapshot) (cursor behind : List ℕ) (done : Bool) → ReadingAll start datasets snapshots count counter after later cursor
    → counter < count → done ≡ false → ReadsOne cursor behind after more later last done → (rows : List Dataset) (all : List Snapshot) (rest : List ℕ) → AreRows IsDatasetRow rows → AreRows IsSnapshotRow all → start ≡ rows_bytes (dataset_bytes all) rows ++ rest → ⊥
all_stops start datasets snapshots count counter after more later last cursor behind done reading below not_done back rows all rest are are_all is =
    let stood = reading.stands rows all rest are are_all is in
    let bytes = dataset_bytes all in
    let next = stands_next bytes rows rest reading.read cursor stood.1 (omega (arith, reading.at, stood.0)) in
    let none = back next.row all (flat_map bytes next.left ++ rest) (fits_next IsDatasetRow bytes rows rest reading.read cursor are.each next) are_all next.spelled in
    cc (none.0, not_done)

-- a snapshot of one of these datasets is one of more datasets
in_more : (datasets : List Dataset) (dataset : Dataset) (snapshot : Snapshot) → IsSnapshotIn datasets snapshot → IsSnapshotIn (datasets ++ dataset ∷ []) snapshot
in_more datasets dataset snapshot is_in = record {
  row = is_in.row;
  dataset = (is_in.dataset.0, Contains-append_left datasets (dataset ∷ []) is_in.dataset.0 is_in.dataset.1, is_in.dataset.2);
}

-- a snapshot of the last is
in_last : (datasets : List Dataset) (dataset : Dataset) (snapshot : Snapshot) → IsSnapshotOf dataset.name snapshot → IsSnapshotIn (datasets ++ dataset ∷ []) snapshot
in_last datasets dataset snapshot is_of = record { row = is_of.row; dataset = (dataset, Contains-push datasets dataset, sym is_of.dataset) }

under_more : (datasets : List Dataset) (dataset : Dataset) (snapshots later last : List Snapshot) → Appends (IsSnapshotIn datasets) snapshots later → Appends (IsSnapshotOf dataset.name) later last → Appends (IsSnapshotIn (datasets ++ dataset ∷ [])) snapshots last
under_more datasets dataset snapshots later last under of_it = record {
  rows = under.rows ++ of_it.rows;
  is = of_it.is ∙ ap (λ rows. rows ++ of_it.rows) under.is ∙ append_assoc snapshots under.rows of_it.rows;
  each = All-append (IsSnapshotIn (datasets ++ dataset ∷ [])) under.rows of_it.rows
      (All-weaker (IsSnapshotIn datasets) (IsSnapshotIn (datasets ++ dataset ∷ [])) (in_more datasets dataset) under.rows under.each)
      (All-weaker (IsSnapshotOf dataset.name) (IsSnapshotIn (datasets ++ dataset ∷ [])) (in_last datasets dataset) of_it.rows of_it.each);
}

snapshots_under-push : (all : List Snapshot) (datasets : List Dataset) (dataset : Dataset) → snapshots_under all (datasets ++ dataset ∷ []) ≡ snapshots_under all datasets ++ snapshots_of dataset.name all
snapshots_under-push all datasets dataset =
    flat_map-append (λ row. snapshots_of row.name all) datasets (dataset ∷ []) ∙ ap (λ rows. snapshots_under all datasets ++ rows) (append-nil (snapshots_of dataset.name all))

-- where it is, one more has been
pub all_more : (start : List ℕ) (datasets : List Dataset) (snapshots : List Snapshot) (count counter : ℕ) (after more : List Dataset) (later last : List Snapshot) (cursor behind : List ℕ) (done : Bool) → ReadingAll start datasets snapshots count counter after later cursor
    → counter < count → AppendsOne after more later last → ReadsOne cursor behind after more later last done → ReadingAll start datasets snapshots count (counter + 1) more last behind
all_more start datasets snapshots count counter after more later last cursor behind done reading below one back = record {
  read = reading.read ++ one.dataset ∷ [];
  is = one.is ∙ ap (λ rows. rows ++ one.dataset ∷ []) reading.is ∙ append_assoc datasets reading.read (one.dataset ∷ []);
  at = omega (arith, reading.at, length-append reading.read (one.dataset ∷ []));
  each = All-push IsDatasetRow reading.read one.dataset reading.each one.row;
  under = subst (λ rows. Appends (IsSnapshotIn rows) snapshots last) (sym one.is) (under_more after one.dataset snapshots later last reading.under one.of_it);
  stands = λ rows all rest are are_all is.
      let stood = reading.stands rows all rest are are_all is in
      let bytes = dataset_bytes all in
      let next = stands_next bytes rows rest reading.read cursor stood.1 (omega (arith, reading.at, stood.0)) in
      let spelled = back next.row all (flat_map bytes next.left ++ rest) (fits_next IsDatasetRow bytes rows rest reading.read cursor are.each next) are_all next.spelled in
      let same : next.row ≡ one.dataset = last_is after next.row one.dataset (sym spelled.1 ∙ one.is) in (
        stood.0,
        subst (λ row. Stands bytes rows rest (reading.read ++ row ∷ []) behind) same (stands_more bytes rows rest reading.read cursor behind next spelled.3),
        spelled.2
            ∙ ap (λ rows. rows ++ snapshots_of next.row.name all) stood.2
            ∙ append_assoc snapshots (snapshots_under all reading.read) (snapshots_of next.row.name all)
            ∙ ap (λ rows. snapshots ++ rows) (sym (snapshots_under-push all reading.read next.row))
            ∙ ap (λ row. snapshots ++ snapshots_under all (reading.read ++ row ∷ [])) same,
      );
}

-- at last all have been, and the rest is left
pub all_last : (start : List ℕ) (datasets : List Dataset) (snapshots : List Snapshot) (count counter : ℕ) (after : List Dataset) (later : List Snapshot) (cursor : List ℕ) → ReadingAll start datasets snapshots count counter after later cursor → counter ≡ count
    → (rows : List Dataset) (all : List Snapshot) (rest : List ℕ) → AreRows IsDatasetRow rows → AreRows IsSnapshotRow all → start ≡ rows_bytes (dataset_bytes all) rows ++ rest
    → (after ≡ datasets ++ rows) × (later ≡ snapshots ++ snapshots_under all rows) × (cursor ≡ rest)
all_last start datasets snapshots count counter after later cursor reading whole rows all rest are are_all is =
    let stood = reading.stands rows all rest are are_all is in
    let last = stands_last (dataset_bytes all) rows rest reading.read cursor stood.1 (omega (arith, reading.at, stood.0)) in
    (reading.is ∙ ap (λ read. datasets ++ read) last.0, stood.2 ∙ ap (λ read. snapshots ++ snapshots_under all read) last.0, last.1)
