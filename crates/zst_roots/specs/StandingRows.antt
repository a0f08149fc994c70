-- Rows and texts that stand, so that they are walked.
use Rattle.std.specs.Prelude.{ℕ, ◌<◌, List}
use Rattle.zst_dir.specs.declared.rows.Dataset.{Dataset}
use Rattle.zst_dir.specs.declared.rows.Snapshot.{Snapshot}
use Rattle.zst_dir.specs.declared.rows.Bookmark.{Bookmark}
use Rattle.zst_dir.specs.declared.rows.Partial.{Partial}
use Rattle.zst_leaves.specs.Leaves.{HasLeaves}
use Rattle.zst_model.specs.sends.Inclusion.{Pairs}
use Rattle.zst_model.specs.states.DatedState.{DatedState}
use Rattle.zst_objset.specs.Sets.{SetHolds, SetHoldsBut}
use Rattle.zst_tree.specs.Indices.{Blocks}
use Rattle.zst_tree.specs.declared.tree.ObjSet.{ObjSet}
use Rattle.zst_uber.specs.declared.uber.Uber.{Uber}
use Rattle.zst_roots.specs.declared.held.HeldBlocks.{HeldBlocks}

module _ (has : Blocks) where
  -- the set holds some state
  abbrev pub HoldsSome : ObjSet → Type 0
  HoldsSome set = (state : DatedState) × SetHolds has set state

  -- a dataset's head does, a snapshot's objects, and a partial state's
  abbrev pub HeadStands : Dataset → Type 0
  HeadStands row = HoldsSome row.head

  abbrev pub SnapshotStands : Snapshot → Type 0
  SnapshotStands row = HoldsSome row.objects

  abbrev pub PartialStands : Partial → Type 0
  PartialStands row = HoldsSome row.objects

  -- what a session holds: its set does, but for the bytes of some pairs, which a redacted send doesn't read
  abbrev pub HeldStands : HeldBlocks → Type 0
  HeldStands one = (pairs : Pairs) × (state : DatedState) × SetHoldsBut has pairs one.set state

  -- where a bookmark's list has runs, some text stands in its leaves
  abbrev pub ListStands : Bookmark → Type 0
  ListStands row = 0 < row.runs → (text : List ℕ) × HasLeaves has row.levels row.root text

  -- some text stands in the leaves of a body's directory, and one in those of its free extents where it has any
  abbrev pub TextsStand : Uber → Type 0
  TextsStand uber = ((text : List ℕ) × HasLeaves has uber.dir_levels uber.dir_root text) × (0 < uber.free_count → (text : List ℕ) × HasLeaves has uber.free_levels uber.free_root text)
