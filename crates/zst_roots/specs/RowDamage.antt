-- Which block a walk of the rows of a directory and of the texts of a body tells as damaged.
use Rattle.std.specs.Prelude.{◌⊎◌, ℕ, ◌<◌, List, Contains}
use Rattle.zst_dir.specs.Rows.{Rows}
use Rattle.zst_dir.specs.declared.rows.Dataset.{Dataset}
use Rattle.zst_dir.specs.declared.rows.Snapshot.{Snapshot}
use Rattle.zst_dir.specs.declared.rows.Bookmark.{Bookmark}
use Rattle.zst_dir.specs.declared.rows.Partial.{Partial}
use Rattle.zst_objset.specs.Damage.{DamageFact, IsDamagedObject}
use Rattle.zst_tree.specs.Damage.{IsDamagedNode, NamesNode}
use Rattle.zst_tree.specs.declared.tree.ObjSet.{ObjSet}
use Rattle.zst_uber.specs.declared.uber.Uber.{Uber}
use Rattle.zst_roots.specs.declared.held.HeldBlocks.{HeldBlocks}

-- damage is told of some row that the list contains, as of rows of its kind
pub record IsToldOfSome {Row : Type 0} (rows : List Row) (tells : Row → DamageFact) (sector : ℕ) (stated found : List ℕ) : Type 0 where
  pub row : Row
  pub listed : Contains rows row
  pub told : tells row sector stated found

module _ (images : List ℕ → Type 0) (size : ℕ) where
  -- of a set: a block of its tree, or a node of the tree of one of its objects
  abbrev pub IsDamagedIn : ObjSet → DamageFact
  IsDamagedIn set = IsDamagedObject images size NamesNode set

  -- of a dataset: one of its head, and so with a snapshot and a partial state
  abbrev pub IsDamagedHead : Dataset → DamageFact
  IsDamagedHead row = IsDamagedIn row.head

  abbrev pub IsDamagedSnapshot : Snapshot → DamageFact
  IsDamagedSnapshot row = IsDamagedIn row.objects

  abbrev pub IsDamagedPartial : Partial → DamageFact
  IsDamagedPartial row = IsDamagedIn row.objects

  -- of what a session holds: one of its set
  abbrev pub IsDamagedHeld : HeldBlocks → DamageFact
  IsDamagedHeld one = IsDamagedIn one.set

  -- of a bookmark whose list has runs: a node above the leaves of that list
  abbrev pub IsDamagedList : Bookmark → DamageFact
  IsDamagedList row sector stated found = (0 < row.runs) × IsDamagedNode images size NamesNode row.levels row.root sector stated found

  -- of the rows of a directory: one of some head, snapshot, partial state or list
  abbrev pub IsDamagedInRows : Rows → DamageFact
  IsDamagedInRows rows sector stated found =
      IsToldOfSome rows.datasets IsDamagedHead sector stated found
      ⊎ (IsToldOfSome rows.snapshots IsDamagedSnapshot sector stated found
      ⊎ (IsToldOfSome rows.partials IsDamagedPartial sector stated found
      ⊎ IsToldOfSome rows.bookmarks IsDamagedList sector stated found))

  -- of the texts of a body: a node above the leaves of its directory or, where it has free extents, of theirs
  abbrev pub IsDamagedInTexts : Uber → DamageFact
  IsDamagedInTexts uber sector stated found =
      IsDamagedNode images size NamesNode uber.dir_levels uber.dir_root sector stated found
      ⊎ ((0 < uber.free_count) × IsDamagedNode images size NamesNode uber.free_levels uber.free_root sector stated found)

  -- of all that a pool reaches: one of its rows, of a set that a session holds, or of the texts of its body
  abbrev pub IsDamagedInPool : Uber → Rows → List HeldBlocks → DamageFact
  IsDamagedInPool uber rows held sector stated found = IsDamagedInRows rows sector stated found ⊎ (IsToldOfSome held IsDamagedHeld sector stated found ⊎ IsDamagedInTexts uber sector stated found)
