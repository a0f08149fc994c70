-- Which block the parts of a check tell as damaged.
use Rattle.std.specs.Prelude.{◌⊎◌, ℕ, ◌<◌, List, Err}
use Rattle.zst_block.specs.declared.fault.BlockFault.TheVariants.{Damaged}
use Rattle.zst_compare.specs.Damage.{IsDamagedIn, OfEither}
use Rattle.zst_count.specs.CountedRows.{IsDamagedReached}
use Rattle.zst_dir.specs.Rows.{Rows}
use Rattle.zst_dir.specs.declared.rows.Bookmark.{Bookmark}
use Rattle.zst_dir.specs.declared.rows.Dataset.{Dataset}
use Rattle.zst_dir.specs.declared.rows.Snapshot.{Snapshot}
use Rattle.zst_dir.specs.declared.rows.Partial.{Partial}
use Rattle.zst_list.specs.StoredLists.{TellsList}
use Rattle.zst_model.specs.fields.Lists.{Runs}
use Rattle.zst_objset.specs.Damage.{DamageFact}
use Rattle.zst_roots.specs.RowDamage.{IsToldOfSome}
use Rattle.zst_traverse.specs.Damage.{IsDamagedCell}
use Rattle.zst_tree.specs.Damage.{IsSeen}
use Rattle.zst_tree.specs.declared.or_memory.OrMemory.TheVariants.{Fault}
use Rattle.zst_tree.specs.declared.tree.ObjSet.{ObjSet}
use Rattle.zst_uber.specs.declared.uber.Uber.{Uber}

module _ (images : List ℕ → Type 0) (size : ℕ) where
  -- of a state's set: what a comparison tells of it, or a walk by its dates, to which a node is damaged that doesn't sum up what stands below it
  abbrev pub IsDamagedState : ObjSet → DamageFact
  IsDamagedState set = OfEither (IsDamagedIn images size set) (IsDamagedCell images size set)

  abbrev pub IsDamagedHead : Dataset → DamageFact
  IsDamagedHead row = IsDamagedState row.head

  abbrev pub IsDamagedSnapshot : Snapshot → DamageFact
  IsDamagedSnapshot row = IsDamagedState row.objects

  abbrev pub IsDamagedPartial : Partial → DamageFact
  IsDamagedPartial row = IsDamagedState row.objects

  -- of the states of a directory: a node, a leaf of dnodes, a spill or a block of one of their sets
  abbrev pub IsDamagedInStates : Rows → DamageFact
  IsDamagedInStates rows sector stated found =
      IsToldOfSome rows.datasets IsDamagedHead sector stated found
      ⊎ (IsToldOfSome rows.snapshots IsDamagedSnapshot sector stated found
      ⊎ IsToldOfSome rows.partials IsDamagedPartial sector stated found)

-- of a bookmark whose list has runs: a block to which the root of the list leads, as the read of a list tells it
abbrev pub IsDamagedList : ℕ → List ℕ → ℕ → Bookmark → DamageFact
IsDamagedList end image size row sector stated found = (0 < row.runs) × TellsList {T = Runs} end image size row.levels row.root row.runs (Err (Fault (Damaged sector stated found)))

-- of all that a check looks at: that of the states of the directory, or of the list of one of its bookmarks
abbrev pub IsDamagedInChecked : ℕ → List ℕ → ℕ → Rows → DamageFact
IsDamagedInChecked end image size rows = OfEither (IsDamagedInStates (IsSeen image) size rows) (IsToldOfSome rows.bookmarks (IsDamagedList end image size))

-- of a pool by a body and these rows: of what the search for a part that fails looks at, or of what the count of blocks reads
abbrev pub IsDamagedPool : List ℕ → ℕ → Uber → Rows → DamageFact
IsDamagedPool image size uber rows = OfEither (IsDamagedInChecked uber.end image size rows) (IsDamagedReached (IsSeen image) size uber rows)
