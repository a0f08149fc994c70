-- Which source of a pool a row is.
use Rattle.std.specs.Prelude.{◌<◌, length, Option, IfSome}
use Rattle.std.specs.Borrow.{Bor}
use Rattle.zst_dir.specs.RowNames.{AreNamed, NamesDataset, NamesSnapshot, NamesBookmark}
use Rattle.zst_dir.specs.Rows.{Rows}
use Rattle.zst_dir.specs.declared.rows.Bookmark as bookmarks
use Rattle.zst_dir.specs.declared.rows.Dataset as datasets
use Rattle.zst_dir.specs.declared.rows.Snapshot as snapshots
use Rattle.zst_model.specs.pools.Ancestry.{OfSnapshot, OfBookmark}
use Rattle.zst_model.specs.pools.Ancestry as plain
use Rattle.zst_model.specs.pools.Pool.{Pool}
use Rattle.zst_model.specs.pools.Pool as pools
use Rattle.zst_plan.specs.Places.{FindAlike, StandsAt}
use Rattle.zst_plan.specs.declared.source.Source.{Source}
use Rattle.zst_plan.specs.declared.source.Source.TheVariants.{Snapshot, Bookmark}

-- the row names this source, whatever its objects are or its list has
abbrev pub NamesSource : Source → plain.Source → Type 0
NamesSource (Snapshot place row) (OfSnapshot snapshot) = NamesSnapshot row.now snapshot
NamesSource (Snapshot place row) (OfBookmark bookmark) = ⊥
NamesSource (Bookmark place row) (OfSnapshot snapshot) = ⊥
NamesSource (Bookmark place row) (OfBookmark bookmark) = NamesBookmark row.now bookmark

-- the row stands at its place where the pool has this source
abbrev pub SourceStands : Rows → Pool → Source → plain.Source → Type 0
SourceStands rows pool (Snapshot place row) (OfSnapshot snapshot) = StandsAt rows.snapshots pool.snapshots place snapshot
SourceStands rows pool (Snapshot place row) (OfBookmark bookmark) = ⊥
SourceStands rows pool (Bookmark place row) (OfSnapshot snapshot) = ⊥
SourceStands rows pool (Bookmark place row) (OfBookmark bookmark) = StandsAt rows.bookmarks pool.bookmarks place bookmark

-- both
abbrev pub IsSource : Rows → Pool → Source → plain.Source → Type 0
IsSource rows pool found source = NamesSource found source × SourceStands rows pool found source

-- the row's place is one of the directory
abbrev pub IsInRows : Rows → Source → Type 0
IsInRows rows (Snapshot place row) = place < length rows.snapshots
IsInRows rows (Bookmark place row) = place < length rows.bookmarks

-- the rows that were found name this dataset, this snapshot and this bookmark
abbrev pub FoundDataset : Bor datasets.Dataset → pools.Dataset → Type 0
FoundDataset row dataset = NamesDataset row.now dataset

abbrev pub FoundSnapshot : Bor snapshots.Snapshot → pools.Snapshot → Type 0
FoundSnapshot row snapshot = NamesSnapshot row.now snapshot

abbrev pub FoundBookmark : Bor bookmarks.Bookmark → pools.Bookmark → Type 0
FoundBookmark row bookmark = NamesBookmark row.now bookmark

-- the first source over rows before a snapshot, where there is one: it is in them, and over each pool that they name it is the definition's
pub record FindsFirst (rows : Rows) (to : snapshots.Snapshot) (definition : Pool → pools.Snapshot → Option plain.Source) (result : Option Source) : Type 0 where
  pub inside : IfSome result (IsInRows rows)
  pub found : (pool : Pool) (later : pools.Snapshot) → AreNamed rows pool → NamesSnapshot to later → FindAlike (IsSource rows pool) result (definition pool later)
