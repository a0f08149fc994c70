-- Which sectors the rows of a directory reach: by the object sets of heads, snapshots and partial states, and by the lists of bookmarks.
use Rattle.std.specs.Prelude.{◌⊎◌, ℕ, ◌<◌, List, Contains}
use Rattle.zst_block.specs.Blocks.{IsBlock}
use Rattle.zst_dir.specs.Rows.{Rows}
use Rattle.zst_dir.specs.declared.rows.Dataset.{Dataset}
use Rattle.zst_dir.specs.declared.rows.Snapshot.{Snapshot}
use Rattle.zst_dir.specs.declared.rows.Bookmark.{Bookmark}
use Rattle.zst_dir.specs.declared.rows.Partial.{Partial}
use Rattle.zst_reach.specs.Reached.{ReachesSector}
use Rattle.zst_reach.specs.ReachedSets.{AllMarked, ReachesInSet}
use Rattle.zst_tree.specs.Indices.{Blocks}

-- some row that the list contains reaches the sector, as rows of its kind do
pub record IsReachedBySome {Row : Type 0} (rows : List Row) (reaches : Row → ℕ → Type 0) (sector : ℕ) : Type 0 where
  pub row : Row
  pub listed : Contains rows row
  pub reached : reaches row sector

module _ (has : Blocks) where
  -- a dataset's row reaches what its head does
  abbrev pub HeadReaches : Dataset → ℕ → Type 0
  HeadReaches row sector = ReachesInSet has row.head sector

  -- a snapshot's row, what its objects do
  abbrev pub SnapshotReaches : Snapshot → ℕ → Type 0
  SnapshotReaches row sector = ReachesInSet has row.objects sector

  -- so does a partial state's
  abbrev pub PartialReaches : Partial → ℕ → Type 0
  PartialReaches row sector = ReachesInSet has row.objects sector

  -- a bookmark's row reaches the leaves of its list and the nodes above them, where the list has runs: one of none stands nowhere
  abbrev pub ListReaches : Bookmark → ℕ → Type 0
  ListReaches row sector = (0 < row.runs) × ReachesSector has row.levels row.root sector

  -- the rows of a directory reach what some head, snapshot, partial state or list does
  abbrev pub RowsReach : Rows → ℕ → Type 0
  RowsReach rows sector =
      IsReachedBySome rows.datasets HeadReaches sector
      ⊎ (IsReachedBySome rows.snapshots SnapshotReaches sector
      ⊎ (IsReachedBySome rows.partials PartialReaches sector
      ⊎ IsReachedBySome rows.bookmarks ListReaches sector))

module _ (image : List ℕ) (end : ℕ) (marks : List ℕ) where
  -- each sector before the end that some head reaches is marked, and so with the others
  abbrev pub AreMarkedForHeads : List Dataset → Type 0
  AreMarkedForHeads rows = AllMarked image end marks (IsReachedBySome rows (HeadReaches (IsBlock image)))

  abbrev pub AreMarkedForSnapshots : List Snapshot → Type 0
  AreMarkedForSnapshots rows = AllMarked image end marks (IsReachedBySome rows (SnapshotReaches (IsBlock image)))

  abbrev pub AreMarkedForPartials : List Partial → Type 0
  AreMarkedForPartials rows = AllMarked image end marks (IsReachedBySome rows (PartialReaches (IsBlock image)))

  abbrev pub AreMarkedForLists : List Bookmark → Type 0
  AreMarkedForLists rows = AllMarked image end marks (IsReachedBySome rows (ListReaches (IsBlock image)))

  -- each that the rows reach is
  abbrev pub AreMarkedForRows : Rows → Type 0
  AreMarkedForRows rows = AllMarked image end marks (RowsReach (IsBlock image) rows)
