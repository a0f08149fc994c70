-- The bytes of a whole directory: its three lists, and that their counts fit.
use Rattle.std.proofs.Common.{◌≡◌, ℕ, ◌+◌, ◌<◌, ◌≤◌, ◌^◌, Bool, true, List, [], ◌∷◌, ◌++◌, length, refl, sym, subst, ap, ◌∙◌, arith, length-append}
use Rattle.std.proofs.lemmas.List.{append-nil}
use Rattle.std.specs.List.{All, flat_map}
use Rattle.zst_bytes.proofs.BytesLaws.{length-number_bytes}
use Rattle.zst_bytes.specs.Words.{word, text_bytes}
use Rattle.zst_dir.specs.declared.rows.Dataset.{Dataset}
use Rattle.zst_dir.specs.declared.rows.Snapshot.{Snapshot}
use Rattle.zst_dir.specs.declared.rows.Bookmark.{Bookmark}
use Rattle.zst_dir.specs.declared.rows.Partial.{Partial}
use Rattle.zst_dir.specs.RowReads.{AreRows, Appends, dataset_front, snapshots_under}
use Rattle.zst_dir.specs.Rows.{Rows, IsDatasetRow, IsSnapshotRow, IsBookmarkRow, IsPartialRow}
use Rattle.zst_dir.specs.Spelling.{IsDir, dir_bytes, rows_bytes, dataset_bytes, snapshot_bytes, snapshots_of, bookmark_bytes, partial_bytes}
use Rattle.zst_dir.proofs.RowParts.{snapshot_parts, dataset_parts, front_parts, bookmark_parts, partial_parts}
use Rattle.zst_dir.proofs.SnapshotRuns.{snapshots_are_runs}

-- what begins with a text has bytes
some_text : (bytes text rest : List ℕ) → bytes ++ [] ≡ text_bytes text ++ rest → 0 < length bytes
unfolding text_bytes
some_text bytes text rest is = omega (arith, ap length (sym (append-nil bytes) ∙ is), length-append {A = ℕ}, length-number_bytes 8 (length text))

-- each row has bytes, so there are no more rows than bytes
few_rows : {A : Type 0} (bytes : A → List ℕ) → ((row : A) → 0 < length (bytes row)) → (rows : List A) → length rows ≤ length (flat_map bytes rows)
few_rows bytes some [] = omega arith
few_rows bytes some (row ∷ rows) = omega (arith, some row, few_rows bytes some rows, length-append (bytes row) (flat_map bytes rows))

some_snapshot : (snapshot : Snapshot) → 0 < length (snapshot_bytes snapshot)
some_snapshot snapshot = some_text (snapshot_bytes snapshot) _ _ (snapshot_parts snapshot [])

some_bookmark : (bookmark : Bookmark) → 0 < length (bookmark_bytes bookmark)
some_bookmark bookmark = some_text (bookmark_bytes bookmark) _ _ (bookmark_parts bookmark [])

some_partial : (partial : Partial) → 0 < length (partial_bytes partial)
some_partial partial = some_text (partial_bytes partial) _ _ (partial_parts partial [])

some_dataset : (all : List Snapshot) (dataset : Dataset) → 0 < length (dataset_bytes all dataset)
some_dataset all dataset = some_text (dataset_bytes all dataset) _ _ (dataset_parts all dataset [] ∙ front_parts dataset _)

-- a dataset's bytes are no fewer than its snapshots
few_of_dataset : (all : List Snapshot) (dataset : Dataset) → length (snapshots_of dataset.name all) ≤ length (dataset_bytes all dataset)
few_of_dataset all dataset =
    let own = snapshots_of dataset.name all in
    let list = rows_bytes snapshot_bytes own in
    omega (
      arith,
      few_rows snapshot_bytes some_snapshot own,
      ap length (sym (append-nil (dataset_bytes all dataset)) ∙ dataset_parts all dataset []),
      length-append (dataset_front dataset) (list ++ []),
      length-append list [],
      length-append (word (length own)) (flat_map snapshot_bytes own),
    )

-- and those of datasets no fewer than their snapshots
few_under : (all : List Snapshot) (datasets : List Dataset) → length (snapshots_under all datasets) ≤ length (flat_map (dataset_bytes all) datasets)
few_under all [] = omega arith
few_under all (dataset ∷ datasets) =
    omega (arith, few_of_dataset all dataset, few_under all datasets, length-append (snapshots_of dataset.name all) (snapshots_under all datasets), length-append (dataset_bytes all dataset) (flat_map (dataset_bytes all) datasets))

-- the sections of a directory's bytes, whose counts fit
pub record AreSections (rows : Rows) (bytes : List ℕ) : Type 0 where
  pub spelled : bytes ≡ rows_bytes (dataset_bytes rows.snapshots) rows.datasets ++ (rows_bytes bookmark_bytes rows.bookmarks ++ (rows_bytes partial_bytes rows.partials ++ []))
  pub datasets : AreRows IsDatasetRow rows.datasets
  pub snapshots : AreRows IsSnapshotRow rows.snapshots
  pub bookmarks : AreRows IsBookmarkRow rows.bookmarks
  pub partials : AreRows IsPartialRow rows.partials
  pub under : snapshots_under rows.snapshots rows.datasets ≡ rows.snapshots

sections_are : (rows : Rows) → dir_bytes rows ≡ rows_bytes (dataset_bytes rows.snapshots) rows.datasets ++ (rows_bytes bookmark_bytes rows.bookmarks ++ (rows_bytes partial_bytes rows.partials ++ []))
unfolding dir_bytes
sections_are rows = ap (λ partials. rows_bytes (dataset_bytes rows.snapshots) rows.datasets ++ (rows_bytes bookmark_bytes rows.bookmarks ++ partials)) (sym (append-nil (rows_bytes partial_bytes rows.partials)))

pub sections : (rows : Rows) (bytes : List ℕ) → length bytes < 2 ^ 64 → IsDir rows bytes → AreSections rows bytes
sections rows bytes short is =
    let all = rows.snapshots in
    let datasets = rows_bytes (dataset_bytes all) rows.datasets in
    let bookmarks = rows_bytes bookmark_bytes rows.bookmarks in
    let partials = rows_bytes partial_bytes rows.partials in
    let spelled : bytes ≡ datasets ++ (bookmarks ++ (partials ++ [])) = is.spelled ∙ sections_are rows in
    let under : snapshots_under all rows.datasets ≡ all = sym (snapshots_are_runs rows is.lawful) in
    let whole : length datasets + (length bookmarks + length partials) ≡ length bytes =
    omega (arith, ap length spelled, length-append datasets (bookmarks ++ (partials ++ [])), length-append bookmarks (partials ++ []), length-append partials []) in
    record {
      spelled = spelled;
      datasets = record {
        each = is.lawful.datasets;
        count = omega (arith, few_rows (dataset_bytes all) (some_dataset all) rows.datasets, length-append (word (length rows.datasets)) (flat_map (dataset_bytes all) rows.datasets));
      };
      snapshots = record {
        each = is.lawful.snapshots;
        count = omega (arith, ap length under, few_under all rows.datasets, length-append (word (length rows.datasets)) (flat_map (dataset_bytes all) rows.datasets));
      };
      bookmarks = record {
        each = is.lawful.bookmarks;
        count = omega (arith, few_rows bookmark_bytes some_bookmark rows.bookmarks, length-append (word (length rows.bookmarks)) (flat_map bookmark_bytes rows.bookmarks));
      };
      partials = record {
        each = is.lawful.partials;
        count = omega (arith, few_rows partial_bytes some_partial rows.partials, length-append (word (length rows.partials)) (flat_map partial_bytes rows.partials));
      };
      under = under;
    }

-- rows that were put behind none are those that each fit
pub all_of_none : {A : Type 0} (IsRow : A → Type 0) (before after : List A) → before ≡ [] → Appends IsRow before after → All IsRow after
all_of_none IsRow before after none appended = subst (All IsRow) (sym (appended.is ∙ ap (λ front. front ++ appended.rows) none)) appended.each

-- what is known once the datasets have been read
pub datasets_read : (rows : Rows) (bytes start cursor : List ℕ) (datasets after : List Dataset) (snapshots later : List Snapshot) (done : Bool) → AreSections rows bytes → start ≡ bytes → datasets ≡ [] → snapshots ≡ []
    → ((rows : List Dataset) (all : List Snapshot) (rest : List ℕ) → AreRows IsDatasetRow rows → AreRows IsSnapshotRow all → start ≡ rows_bytes (dataset_bytes all) rows ++ rest
    → (done ≡ true) × (after ≡ datasets ++ rows) × (later ≡ snapshots ++ snapshots_under all rows) × (cursor ≡ rest))
    → (done ≡ true) × (after ≡ rows.datasets) × (later ≡ rows.snapshots) × (cursor ≡ rows_bytes bookmark_bytes rows.bookmarks ++ (rows_bytes partial_bytes rows.partials ++ []))
datasets_read rows bytes start cursor datasets after snapshots later done are same no_datasets no_snapshots exact =
    let read = exact rows.datasets rows.snapshots (rows_bytes bookmark_bytes rows.bookmarks ++ (rows_bytes partial_bytes rows.partials ++ [])) are.datasets are.snapshots (same ∙ are.spelled) in
    (read.0, read.1 ∙ ap (λ front. front ++ rows.datasets) no_datasets, read.2 ∙ ap (λ front. front ++ snapshots_under rows.snapshots rows.datasets) no_snapshots ∙ are.under, read.3)

-- and once another list has been
pub list_read : {A : Type 0} (bytes : A → List ℕ) (IsRow : A → Type 0) (rows before after : List A) (start rest cursor : List ℕ) (done : Bool) → AreRows IsRow rows → start ≡ rows_bytes bytes rows ++ rest → before ≡ []
    → ((rows : List A) (rest : List ℕ) → AreRows IsRow rows → start ≡ rows_bytes bytes rows ++ rest → (done ≡ true) × (after ≡ before ++ rows) × (cursor ≡ rest)) → (done ≡ true) × (after ≡ rows) × (cursor ≡ rest)
list_read bytes IsRow rows before after start rest cursor done are is none exact =
    let read = exact rows rest are is in
    (read.0, read.1 ∙ ap (λ front. front ++ rows) none, read.2)

-- the rows of four lists that are those of a directory
pub rows_are : (rows : Rows) (datasets : List Dataset) (snapshots : List Snapshot) (bookmarks : List Bookmark) (partials : List Partial) → datasets ≡ rows.datasets → snapshots ≡ rows.snapshots → bookmarks ≡ rows.bookmarks → partials ≡ rows.partials
    → record { datasets = datasets; snapshots = snapshots; bookmarks = bookmarks; partials = partials } ≡ rows
rows_are rows datasets snapshots bookmarks partials of_datasets of_snapshots of_bookmarks of_partials = rw (of_datasets, of_snapshots, of_bookmarks, of_partials) refl
