-- What is looked up in a pool.
use Rattle.std.specs.Prelude.{◌≡◌, ℕ, List, Option, Some, None, option_map, find, bytes_eq}
use Rattle.zst_space.specs.FreeSectors.{FreeSectors}
use Rattle.zst_block.specs.Blocks.{Has}
use Rattle.zst_model.specs.declared.refusals.subjects.Name.{Name}
use Rattle.zst_model.specs.declared.refusals.subjects.Name.TheVariants as names
use Rattle.zst_model.specs.states.DatedState.{DatedState}
use Rattle.zst_model.specs.pools.Pool.{Pool}
use Rattle.zst_model.specs.pools.Step.{state_named}
use Rattle.zst_tree.specs.Indices.{Blocks}
use Rattle.zst_tree.specs.declared.tree.ObjSet.{ObjSet}
use Rattle.zst_objset.specs.Sets.{SetHolds}
use Rattle.zst_dir.specs.Rows.{Rows}
use Rattle.zst_image.specs.Reads.{RunsBy}

-- the object set of a dataset's head, or of a snapshot; a bookmark has none
abbrev pub set_named : Name → Rows → Option ObjSet
set_named (names.Dataset name) rows = option_map (λ dataset. dataset.head) (find (λ dataset. bytes_eq dataset.name name) rows.datasets)
set_named (names.Snapshot name) rows = option_map (λ snapshot. snapshot.objects) (find (λ snapshot. bytes_eq snapshot.name name) rows.snapshots)
set_named (names.Bookmark name) rows = None

-- a set is found exactly where the pool has a state, and holds it
abbrev pub FindsState : Blocks → Option DatedState → Option ObjSet → Type 0
FindsState has None None = Unit {0}
FindsState has None (Some set) = ⊥
FindsState has (Some state) None = ⊥
FindsState has (Some state) (Some set) = SetHolds has set state

-- the set of this name by the rows of a directory; where they stand for a pool, it is there exactly where that has a state, and holds it
pub record FindsSet (name : Name) (dir : Rows) (result : Option ObjSet) : Type 0 where
  pub rows : result ≡ set_named name dir
  pub found : (image : List ℕ) (space : FreeSectors) (pool : Pool) → RunsBy None (Has image space) dir pool → FindsState (Has image space) (state_named name pool) result
