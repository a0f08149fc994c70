-- What an image reads as: the pool that its latest body, its directory and its object sets describe.
use Rattle.std.specs.Prelude.{◌≡◌, ◌+◌, ◌*◌, ◌/◌, ℕ, Bool, true, false, List, [], length, filter, Option, Some, None}
use Rattle.zst_outside.specs.Images.{DiskState}
use Rattle.zst_block.specs.Blocks.{Has}
use Rattle.zst_block.specs.declared.ptr.Ptr.{Ptr}
use Rattle.zst_uber.specs.Body.{UberFits, InRange}
use Rattle.zst_uber.specs.Slots.{Stands}
use Rattle.zst_uber.specs.declared.uber.Uber.{Uber}
use Rattle.zst_marks.specs.Marks.{Apart}
use Rattle.zst_extents.specs.StoredExtents.{HasExtents}
use Rattle.zst_model.specs.pools.Pool.{Pool, IsPool}
use Rattle.zst_model.specs.pools.Pool as plain
use Rattle.zst_model.specs.pools.Soundness.{DatedUpTo}
use Rattle.zst_model.specs.states.DatedState.{DatedState}
use Rattle.zst_tree.specs.Indices.{Blocks}
use Rattle.zst_leaves.specs.Leaves.{HasLeaves, leaves_for}
use Rattle.zst_list.specs.StoredLists.{HasList}
use Rattle.zst_dir.specs.RowNames.{Match, NamesDataset, NamesSnapshot, NamesBookmark, NamesPartial, AreNamed}
use Rattle.zst_dir.specs.Rows.{Rows}
use Rattle.zst_dir.specs.Spelling.{IsDir, dir_bytes}
use Rattle.zst_dir.specs.declared.rows.Dataset.{Dataset}
use Rattle.zst_dir.specs.declared.rows.Snapshot.{Snapshot}
use Rattle.zst_dir.specs.declared.rows.Bookmark.{Bookmark}
use Rattle.zst_dir.specs.declared.rows.Partial.{Partial}
use Rattle.zst_objset.specs.Sets.{SetHolds}
use Rattle.zst_objset.specs.TightSets.{SetIsTight}
use Rattle.zst_image.specs.Bodies.{Body}
pub use Rattle.zst_image.specs.Bodies.{free_by}
use Rattle.zst_tree.specs.declared.tree.ObjSet.{ObjSet}

-- how well a set is known: with None it holds the state; with a number it is tight besides, and no date of the state is above the number
abbrev pub SetIs : Option ℕ → Blocks → ObjSet → DatedState → Type 0
SetIs None has set state = SetHolds has set state
SetIs (Some number) has set state = SetIsTight has set state × DatedUpTo number state

-- how well the sets of a pool with this number are known, where they are tight and where that isn't said
abbrev pub bound_of : (tight : Bool) → (number : ℕ) → Option ℕ
bound_of true number = Some number
bound_of false number = None

-- a dataset's row stands for this dataset: it names it, and its set is of the head
pub record DatasetIs (bound : Option ℕ) (has : Blocks) (row : Dataset) (dataset : plain.Dataset) : Type 0 where
  pub named : NamesDataset row dataset
  pub head : SetIs bound has row.head dataset.head

-- a snapshot's row stands for this snapshot: it names it, and its set is of the objects
pub record SnapshotIs (bound : Option ℕ) (has : Blocks) (row : Snapshot) (snapshot : plain.Snapshot) : Type 0 where
  pub named : NamesSnapshot row snapshot
  pub objects : SetIs bound has row.objects snapshot.objects

-- a bookmark's row stands for this bookmark: it names it, and its leaves have its list; one that nothing redacted has no runs
pub record BookmarkIs (has : Blocks) (row : Bookmark) (bookmark : plain.Bookmark) : Type 0 where
  pub named : NamesBookmark row bookmark
  pub list : HasList has row.levels row.root row.runs bookmark.runs
  pub no_list : row.redact ≡ [] → row.runs ≡ 0

-- a partial state's row stands for this partial state: it names it, and its set is of the objects
pub record PartialIs (bound : Option ℕ) (has : Blocks) (row : Partial) (partial : plain.Partial) : Type 0 where
  pub named : NamesPartial row partial
  pub objects : SetIs bound has row.objects partial.objects

-- the body has the pool's id, number and guid counter, and the rows name what the pool lists
pub record IsNamedBy (body : Body) (rows : Rows) (pool : Pool) : Type 0 where
  pub id : pool.id ≡ body.uber.id
  pub number : pool.number ≡ body.uber.number
  pub guids : pool.guids ≡ body.uber.guids
  pub are_named : AreNamed rows pool

-- the rows stand for what a pool that runs lists, also for its partial states that last no longer than their sessions
pub record RunsBy (bound : Option ℕ) (has : Blocks) (rows : Rows) (running : Pool) : Type 0 where
  pub datasets : Match (DatasetIs bound has) rows.datasets running.datasets
  pub snapshots : Match (SnapshotIs bound has) rows.snapshots running.snapshots
  pub bookmarks : Match (BookmarkIs has) rows.bookmarks running.bookmarks
  pub partials : Match (PartialIs bound has) rows.partials running.partials

-- the rows that last: all but those of partial states without `keep`
abbrev pub kept_rows : Rows → Rows
kept_rows rows = record rows { partials = filter (λ row. row.keep) rows.partials }

-- the rows that last stand for what the pool lists
abbrev pub RowsAre : Option ℕ → Blocks → Rows → Pool → Type 0
RowsAre bound has rows pool = RunsBy bound has (kept_rows rows) pool

-- so many sectors a directory of so many bytes takes at most: 16 for each leaf, and for each of the nodes above
abbrev pub dir_sectors : ℕ → ℕ
dir_sectors count = 16 * (leaves_for count + leaves_for count / 128 + 3)

-- a directory of so many bytes with these rows stands in the leaves of a tree
pub record DirStands (has : Blocks) (levels : ℕ) (root : Ptr) (count : ℕ) (rows : Rows) : Type 0 where
  pub directory : IsDir rows (dir_bytes rows)
  pub count_is : count ≡ length (dir_bytes rows)
  pub leaves : HasLeaves has levels root (dir_bytes rows)

-- the tree that the body names has the directory with these rows
abbrev pub HasDir : Blocks → Uber → Rows → Type 0
HasDir has uber rows = DirStands has uber.dir_levels uber.dir_root uber.dir_bytes rows

-- the body, its free extents, the rows of the directory and the blocks describe this pool, by tight sets where that is said
pub record Describes (tight : Bool) (body : Body) (rows : Rows) (pool : Pool) (has : Blocks) : Type 0 where
  pub id : pool.id ≡ body.uber.id
  pub number : pool.number ≡ body.uber.number
  pub guids : pool.guids ≡ body.uber.guids
  -- the extents stand below the root that the body names: they rise from sector 8 on up to its end, none is empty, and no two touch
  pub extents : HasExtents has body.uber.free_levels body.uber.free_root body.uber.free_count body.free
  pub apart : Apart 8 body.free body.uber.end
  pub directory : HasDir has body.uber rows
  pub rows_are : RowsAre (bound_of tight pool.number) has rows pool
  pub lawful : IsPool pool

-- the image reads as this pool by its latest body, which is in its ranges, and by these rows
pub record ReadsAs (tight : Bool) (body : Body) (rows : Rows) (pool : Pool) (image : List ℕ) : Type 0 where
  pub stands : Stands body.uber image
  pub fits : UberFits body.uber
  pub in_range : InRange (length image) body.uber
  pub described : Describes tight body rows pool (Has image (free_by body))

-- the image reads as this pool: whatever its object sets are that hold its states, or by tight ones, as each image does that commands made
abbrev pub Reads : (tight : Bool) → Pool → List ℕ → Type 0
Reads tight pool image = (body : Body) × (rows : Rows) × ReadsAs tight body rows pool image

-- a read of the disk gives this pool by this body and these rows, and so does each image that a crash may leave
pub record Rests (tight : Bool) (disk : DiskState) (body : Body) (rows : Rows) (pool : Pool) : Type 0 where
  pub reads : ReadsAs tight body rows pool disk.seen
  pub each : (c : List ℕ) → disk.images c → ReadsAs tight body rows pool c

-- a new pool: its first commit, and nothing in it
abbrev pub new_pool : ℕ → Pool
new_pool id = record { id = id; number = 1; guids = 0; datasets = []; snapshots = []; bookmarks = []; partials = [] }
