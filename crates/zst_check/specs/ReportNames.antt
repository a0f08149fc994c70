-- Whose names a report tells, whatever the image is.
use Rattle.std.specs.Prelude.{◌≡◌, ℕ, List, Option, Contains}
use Rattle.zst_dir.specs.Rows.{Rows}
use Rattle.zst_dir.specs.declared.rows.Bookmark.{Bookmark}
use Rattle.zst_dir.specs.declared.rows.Dataset.{Dataset}
use Rattle.zst_dir.specs.declared.rows.Partial.{Partial}
use Rattle.zst_dir.specs.declared.rows.Snapshot.{Snapshot}
use Rattle.zst_names.specs.Names.{dataset_of}
use Rattle.zst_check.specs.Findings.{Finds}
use Rattle.zst_check.specs.declared.report.Report.{Report}

-- a state of these rows has this name in a report: a snapshot its own, a head its dataset's, and a partial state its target's
pub data IsStateName (rows : Rows) (name : List ℕ) : Type 0 where
  OfSnapshot : (row : Snapshot) → Contains rows.snapshots row → row.name ≡ name → IsStateName rows name
  OfHead : (row : Dataset) → Contains rows.datasets row → row.name ≡ name → IsStateName rows name
  OfPartial : (row : Partial) → Contains rows.partials row → row.target ≡ name → IsStateName rows name

-- the two names of a report are of these rows: a state's, twice; a bookmark's and its dataset's; a snapshot's and a state's; or a bookmark's and a snapshot's
pub data AreNamesIn (rows : Rows) (earlier later : List ℕ) : Type 0 where
  Twice : IsStateName rows earlier → earlier ≡ later → AreNamesIn rows earlier later
  WithDataset : (row : Bookmark) → Contains rows.bookmarks row → row.name ≡ earlier → dataset_of 35 row.name ≡ later → AreNamesIn rows earlier later
  WithState : (row : Snapshot) → Contains rows.snapshots row → row.name ≡ earlier → IsStateName rows later → AreNamesIn rows earlier later
  WithOwn : (row : Bookmark) → Contains rows.bookmarks row → row.name ≡ earlier → (own : Snapshot) → Contains rows.snapshots own → own.name ≡ later → AreNamesIn rows earlier later

-- nothing is found, or something with such names
abbrev pub FindsNamed : Rows → Option Report → Type 0
FindsNamed rows found = Finds (Unit {0}) (λ earlier later object block. AreNamesIn rows earlier later) found
