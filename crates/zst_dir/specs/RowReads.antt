-- What a reader of the bytes in front gives.
use Rattle.std.specs.Prelude.{◌≡◌, ◌<◌, ◌^◌, ℕ, List, [], ◌∷◌, ◌++◌, length, Bool, true, Option, Some, Result, IfOk, IfSome, flat_map, All, Contains}
use Rattle.std.specs.Bool.{OnTrue}
use Rattle.std.specs.Str.{IsAscii}
use Rattle.zst_bytes.specs.Words.{word, text_bytes, words_bytes}
use Rattle.zst_names.specs.Names.{IsSnapshot, dataset_of}
use Rattle.zst_tree.specs.Sets.{set_bytes}
use Rattle.zst_dir.specs.declared.rows.Dataset.{Dataset}
use Rattle.zst_dir.specs.declared.rows.Snapshot.{Snapshot}
use Rattle.zst_dir.specs.Rows.{IsDatasetRow, IsSnapshotRow}
use Rattle.zst_dir.specs.Spelling.{dataset_bytes, name_bytes, rows_bytes, snapshots_of}

-- where the bytes of a value that fits stand in front, a reader gives that value, and leaves what follows them
abbrev pub ReadsBack : {A : Type 0} → (A → List ℕ) → (A → Type 0) → List ℕ → List ℕ → Option A → Type 0
ReadsBack {A} bytes Fits old new result = (value : A) (rest : List ℕ) → Fits value → old ≡ bytes value ++ rest → (result ≡ Some value) × (new ≡ rest)

-- a reader of values that fit: it gives no other, and each of which the bytes stand in front
pub record Reads {A : Type 0} (bytes : A → List ℕ) (Fits : A → Type 0) (old new : List ℕ) (result : Option A) : Type 0 where
  pub fits : IfSome result Fits
  pub exact : ReadsBack bytes Fits old new result

-- a name of a snapshot of this dataset
abbrev pub IsNameOf : List ℕ → List ℕ → Type 0
IsNameOf dataset name = IsSnapshot name × (dataset_of 64 name ≡ dataset)

-- rows of a list that each fit, and whose count fits a word
pub record AreRows {A : Type 0} (IsRow : A → Type 0) (rows : List A) : Type 0 where
  pub each : All IsRow rows
  pub count : length rows < 2 ^ 64

-- rows behind others, each of which fits
pub record Appends {A : Type 0} (IsRow : A → Type 0) (before after : List A) : Type 0 where
  pub rows : List A
  pub is : after ≡ before ++ rows
  pub each : All IsRow rows

-- a reader of a list of rows, with memory: it puts rows that fit behind the old ones, and where the bytes of such rows stand in front, it puts
-- those, and leaves what follows them
pub record ReadsRows {A E : Type 0} (bytes : A → List ℕ) (IsRow : A → Type 0) (old new : List ℕ) (before after : List A) (result : Result Bool E) : Type 0 where
  pub rows : IfOk result (λ read. OnTrue read (Appends IsRow before after))
  pub exact : (rows : List A) (rest : List ℕ) → AreRows IsRow rows → old ≡ rows_bytes bytes rows ++ rest → IfOk result (λ read. (read ≡ true) × (after ≡ before ++ rows) × (new ≡ rest))

-- a snapshot of the dataset of this name, in its ranges
pub record IsSnapshotOf (name : List ℕ) (snapshot : Snapshot) : Type 0 where
  pub row : IsSnapshotRow snapshot
  pub dataset : dataset_of 64 snapshot.name ≡ name

-- a snapshot of one of these datasets, in its ranges
pub record IsSnapshotIn (datasets : List Dataset) (snapshot : Snapshot) : Type 0 where
  pub row : IsSnapshotRow snapshot
  pub dataset : (dataset : Dataset) × Contains datasets dataset × (dataset.name ≡ dataset_of 64 snapshot.name)

-- one dataset behind others, and behind other snapshots some of it
pub record AppendsOne (datasets after : List Dataset) (snapshots later : List Snapshot) : Type 0 where
  pub dataset : Dataset
  pub is : after ≡ datasets ++ dataset ∷ []
  pub row : IsDatasetRow dataset
  pub of_it : Appends (IsSnapshotOf dataset.name) snapshots later

-- the snapshots of these datasets, in the order of the datasets
abbrev pub snapshots_under : List Snapshot → List Dataset → List Snapshot
snapshots_under all datasets = flat_map (λ dataset. snapshots_of dataset.name all) datasets

-- a reader of a dataset and of its snapshots behind it
pub record ReadsDataset {E : Type 0} (old new : List ℕ) (datasets after : List Dataset) (snapshots later : List Snapshot) (result : Result Bool E) : Type 0 where
  pub rows : IfOk result (λ read. OnTrue read (AppendsOne datasets after snapshots later))
  pub exact : (dataset : Dataset) (all : List Snapshot) (rest : List ℕ) → IsDatasetRow dataset → AreRows IsSnapshotRow all → old ≡ dataset_bytes all dataset ++ rest
      → IfOk result (λ read. (read ≡ true) × (after ≡ datasets ++ dataset ∷ []) × (later ≡ snapshots ++ snapshots_of dataset.name all) × (new ≡ rest))

-- a reader of the datasets, each with its snapshots
pub record ReadsDatasets {E : Type 0} (old new : List ℕ) (before after : List Dataset) (earlier later : List Snapshot) (result : Result Bool E) : Type 0 where
  pub rows : IfOk result (λ read. OnTrue read (Appends IsDatasetRow before after))
  pub snapshots : IfOk result (λ read. OnTrue read (Appends (IsSnapshotIn after) earlier later))
  pub exact : (rows : List Dataset) (all : List Snapshot) (rest : List ℕ) → AreRows IsDatasetRow rows → AreRows IsSnapshotRow all → old ≡ rows_bytes (dataset_bytes all) rows ++ rest
      → IfOk result (λ read. (read ≡ true) × (after ≡ before ++ rows) × (later ≡ earlier ++ snapshots_under all rows) × (new ≡ rest))

-- a text of ASCII whose length fits a word
pub record IsPlain (text : List ℕ) : Type 0 where
  pub ascii : IsAscii text
  pub short : length text < 2 ^ 63

-- a dataset without its snapshots
unfoldable pub dataset_front : Dataset → List ℕ
dataset_front dataset =
    text_bytes dataset.name ++ (word dataset.kind ++ (name_bytes dataset.origin ++ (set_bytes dataset.head ++ words_bytes dataset.redact)))
