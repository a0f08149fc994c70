-- A directory without some of its rows.
use Rattle.std.specs.Prelude.{◌≡◌, Bool, false, List, ℕ, filter, Option, Some, None, All, nat_lt, bytes_eq, not, ◌&&◌}
use Rattle.std.specs.List.{list_any}
use Rattle.zst_names.specs.Names.{dataset_of}
use Rattle.zst_dir.specs.Rows.{Rows}
use Rattle.zst_dir.specs.declared.removal.Removal.{Removal}
use Rattle.zst_dir.specs.declared.removal.Removal.TheVariants as goes
use Rattle.zst_dir.specs.declared.rows.Dataset.{Dataset}
use Rattle.zst_dir.specs.declared.rows.Snapshot.{Snapshot}
use Rattle.zst_dir.specs.declared.rows.Bookmark.{Bookmark}

-- whether a dataset goes
abbrev pub takes_dataset : Removal → Dataset → Bool
takes_dataset (goes.Dataset name) dataset = bytes_eq dataset.name name
takes_dataset (goes.Snapshot name) dataset = false
takes_dataset (goes.Bookmark name) dataset = false
takes_dataset (goes.Newer name number) dataset = false

-- whether a snapshot goes
abbrev pub takes_snapshot : Removal → Snapshot → Bool
takes_snapshot (goes.Dataset name) snapshot = bytes_eq (dataset_of 64 snapshot.name) name
takes_snapshot (goes.Snapshot name) snapshot = bytes_eq snapshot.name name
takes_snapshot (goes.Bookmark name) snapshot = false
takes_snapshot (goes.Newer name number) snapshot = bytes_eq (dataset_of 64 snapshot.name) name && nat_lt number snapshot.number

-- whether a bookmark goes
abbrev pub takes_bookmark : Removal → Bookmark → Bool
takes_bookmark (goes.Dataset name) bookmark = bytes_eq (dataset_of 35 bookmark.name) name
takes_bookmark (goes.Snapshot name) bookmark = false
takes_bookmark (goes.Bookmark name) bookmark = bytes_eq bookmark.name name
takes_bookmark (goes.Newer name number) bookmark = bytes_eq (dataset_of 35 bookmark.name) name && nat_lt number bookmark.number

-- the rows that stay; each partial state does
abbrev pub without : Removal → Rows → Rows
without going rows = record rows {
  datasets = filter (λ dataset. not (takes_dataset going dataset)) rows.datasets;
  snapshots = filter (λ snapshot. not (takes_snapshot going snapshot)) rows.snapshots;
  bookmarks = filter (λ bookmark. not (takes_bookmark going bookmark)) rows.bookmarks;
}

-- whether a name that may be none is that of a snapshot that goes
abbrev pub names_going : Removal → Rows → Option (List ℕ) → Bool
names_going going rows None = false
names_going going rows (Some name) = list_any (λ snapshot. takes_snapshot going snapshot && bytes_eq snapshot.name name) rows.snapshots

-- no snapshot that goes is an origin or a base
pub record AreUnused (going : Removal) (rows : Rows) : Type 0 where
  pub origins : All (λ dataset. names_going going rows dataset.origin ≡ false) rows.datasets
  pub bases : All (λ partial. names_going going rows partial.base ≡ false) rows.partials
