-- Which blocks of the rows of a directory and of the texts of a body a walk has met and read, which ones it walks, and what it tells as damaged.
use Rattle.std.specs.Prelude.{◌⊎◌, ℕ, ◌<◌, List, All, Some}
use Rattle.zst_dir.specs.Rows.{Rows}
use Rattle.zst_dir.specs.declared.rows.Bookmark.{Bookmark}
use Rattle.zst_dir.specs.declared.rows.Dataset.{Dataset}
use Rattle.zst_dir.specs.declared.rows.Partial.{Partial}
use Rattle.zst_dir.specs.declared.rows.Snapshot.{Snapshot}
use Rattle.zst_block.specs.Blocks.{IsBlock}
use Rattle.zst_objset.specs.Damage.{DamageFact}
use Rattle.zst_roots.specs.RowDamage.{IsToldOfSome}
use Rattle.zst_roots.specs.StandingRows.{ListStands}
use Rattle.zst_tree.specs.Indices.{Blocks}
use Rattle.zst_uber.specs.declared.uber.Uber.{Uber}
use Rattle.zst_count.specs.CountedSets.{AreMetInSet, AreReadInSet, DataStandInSet, IsDamagedInSet}
use Rattle.zst_count.specs.DataDamage.{IsDamagedBelow}
use Rattle.zst_count.specs.FirstSectors.{IsFirstInList}
use Rattle.zst_count.specs.MetBlocks.{AllMet, AreRead}

module _ (image : List ℕ) where
  -- what each head reaches below an end was met, and so with the snapshots, the partial states and the lists
  abbrev pub AreMetForHeads : (end : ℕ) → (marks : List ℕ) → List Dataset → Type 0
  AreMetForHeads end marks rows = All (λ row. AreMetInSet image end marks row.head) rows

  abbrev pub AreMetForSnapshots : (end : ℕ) → (marks : List ℕ) → List Snapshot → Type 0
  AreMetForSnapshots end marks rows = All (λ row. AreMetInSet image end marks row.objects) rows

  abbrev pub AreMetForPartials : (end : ℕ) → (marks : List ℕ) → List Partial → Type 0
  AreMetForPartials end marks rows = All (λ row. AreMetInSet image end marks row.objects) rows

  abbrev pub AreMetForLists : (end : ℕ) → (marks : List ℕ) → List Bookmark → Type 0
  AreMetForLists end marks rows = All (λ row. AllMet end marks (IsFirstInList (IsBlock image) row)) rows

  -- the blocks of each head are there, and so with the others
  abbrev pub AreReadForHeads : List Dataset → Type 0
  AreReadForHeads rows = All (λ row. AreReadInSet image row.head) rows

  abbrev pub AreReadForSnapshots : List Snapshot → Type 0
  AreReadForSnapshots rows = All (λ row. AreReadInSet image row.objects) rows

  abbrev pub AreReadForPartials : List Partial → Type 0
  AreReadForPartials rows = All (λ row. AreReadInSet image row.objects) rows

  -- those of a list that has runs
  abbrev pub IsReadList : Bookmark → Type 0
  IsReadList row = 0 < row.runs → AreRead image (Some 8192) row.levels row.root

  abbrev pub AreReadForLists : List Bookmark → Type 0
  AreReadForLists rows = All IsReadList rows

  -- and those of the texts of a body
  pub record AreReadInTexts (uber : Uber) : Type 0 where
    pub dir : AreRead image (Some 8192) uber.dir_levels uber.dir_root
    pub free : 0 < uber.free_count → AreRead image (Some 8192) uber.free_levels uber.free_root

  -- all that a body with this directory reaches is there
  pub record AreAllRead (uber : Uber) (rows : Rows) : Type 0 where
    pub heads : AreReadForHeads rows.datasets
    pub snapshots : AreReadForSnapshots rows.snapshots
    pub partials : AreReadForPartials rows.partials
    pub lists : AreReadForLists rows.bookmarks
    pub texts : AreReadInTexts uber

module _ (has : Blocks) where
  -- the sets of all rows stand with their data
  pub record DataStandInRows (rows : Rows) : Type 0 where
    pub heads : All (λ row. DataStandInSet has row.head) rows.datasets
    pub snapshots : All (λ row. DataStandInSet has row.objects) rows.snapshots
    pub partials : All (λ row. DataStandInSet has row.objects) rows.partials
    pub lists : All (ListStands has) rows.bookmarks

module _ (images : List ℕ → Type 0) (size : ℕ) where
  -- of a dataset: a block of its head, and so with a snapshot and a partial state
  abbrev pub IsDamagedHead : Dataset → DamageFact
  IsDamagedHead row = IsDamagedInSet images size row.head

  abbrev pub IsDamagedSnapshot : Snapshot → DamageFact
  IsDamagedSnapshot row = IsDamagedInSet images size row.objects

  abbrev pub IsDamagedPartial : Partial → DamageFact
  IsDamagedPartial row = IsDamagedInSet images size row.objects

  -- of a bookmark whose list has runs: a leaf of that list or a node above
  abbrev pub IsDamagedList : Bookmark → DamageFact
  IsDamagedList row sector stated found = (0 < row.runs) × IsDamagedBelow images size (Some 8192) row.levels row.root sector stated found

  -- of the rows of a directory: one of some head, snapshot, partial state or list
  abbrev pub IsDamagedInRows : Rows → DamageFact
  IsDamagedInRows rows sector stated found =
      IsToldOfSome rows.datasets IsDamagedHead sector stated found
      ⊎ (IsToldOfSome rows.snapshots IsDamagedSnapshot sector stated found
      ⊎ (IsToldOfSome rows.partials IsDamagedPartial sector stated found
      ⊎ IsToldOfSome rows.bookmarks IsDamagedList sector stated found))

  -- of the texts of a body: a leaf of its directory or, where it has free extents, of theirs, or a node above
  abbrev pub IsDamagedInTexts : Uber → DamageFact
  IsDamagedInTexts uber sector stated found =
      IsDamagedBelow images size (Some 8192) uber.dir_levels uber.dir_root sector stated found
      ⊎ ((0 < uber.free_count) × IsDamagedBelow images size (Some 8192) uber.free_levels uber.free_root sector stated found)

  -- of all that a body with this directory reaches
  abbrev pub IsDamagedReached : Uber → Rows → DamageFact
  IsDamagedReached uber rows sector stated found = IsDamagedInRows rows sector stated found ⊎ IsDamagedInTexts uber sector stated found
