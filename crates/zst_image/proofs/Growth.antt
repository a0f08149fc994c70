-- What stands over some blocks stands over more.
use Rattle.std.proofs.Common.{ℕ, Bool, List, [], ◌∷◌, Option, Some, None}
use Rattle.zst_outside.specs.Images.{DiskState}
use Rattle.zst_uber.specs.declared.uber.Uber.{Uber}
use Rattle.zst_space.specs.FreeSectors.{FreeSectors}
use Rattle.zst_block.specs.Blocks.{Has, KeepsBlocks}
use Rattle.zst_model.specs.pools.Pool.{Pool}
use Rattle.zst_model.specs.pools.Pool as plain
use Rattle.zst_model.specs.states.DatedState.{DatedState}
use Rattle.zst_tree.specs.declared.tree.ObjSet.{ObjSet}
use Rattle.zst_objset.proofs.SetGrowth.{SetHolds-grows}
use Rattle.zst_objset.proofs.TightLaws.{tight_grows}
use Rattle.zst_list.proofs.ListGrowth.{HasList-grows}
use Rattle.zst_extents.proofs.ExtentGrowth.{HasExtents-grows}
use Rattle.zst_dir.specs.Rows.{Rows}
use Rattle.zst_dir.specs.declared.rows.Dataset.{Dataset}
use Rattle.zst_dir.specs.declared.rows.Snapshot.{Snapshot}
use Rattle.zst_dir.specs.declared.rows.Bookmark.{Bookmark}
use Rattle.zst_dir.specs.declared.rows.Partial.{Partial}
use Rattle.zst_dir.specs.RowNames.{Match}
use Rattle.zst_image.specs.Bodies.{Body, free_by}
use Rattle.zst_image.specs.Commits.{HasItsExtents}
use Rattle.zst_image.specs.Reads.{DatasetIs, SnapshotIs, BookmarkIs, PartialIs, SetIs, RunsBy, HasDir, Describes, kept_rows}
use Rattle.zst_image.proofs.Directories.{DirStands-grows}

-- lists that match by a relation match by a weaker one
pub Match-weaker : {A B : Type 0} (Is Weaker : A → B → Type 0) → ((a : A) (b : B) → Is a b → Weaker a b) → (xs : List A) (ys : List B) → Match Is xs ys → Match Weaker xs ys
Match-weaker Is Weaker weaker [] [] is = is
Match-weaker Is Weaker weaker [] (y ∷ ys) is = is
Match-weaker Is Weaker weaker (x ∷ xs) [] is = is
Match-weaker Is Weaker weaker (x ∷ xs) (y ∷ ys) is = (weaker x y is.0, Match-weaker Is Weaker weaker xs ys is.1)

-- what some blocks describe, those and more describe too
module _ (old : List ℕ) (space : FreeSectors) (new : List ℕ) (less : FreeSectors) (keeps : KeepsBlocks old space new less) where
  pub SetIs-grows : (bound : Option ℕ) (set : ObjSet) (state : DatedState) → SetIs bound (Has old space) set state → SetIs bound (Has new less) set state
  SetIs-grows None set state is = SetHolds-grows (Has old space) (Has new less) keeps set state is
  SetIs-grows (Some number) set state is = (tight_grows set old space new less state keeps is.0, is.1)

  DatasetIs-grows : (bound : Option ℕ) (row : Dataset) (dataset : plain.Dataset) → DatasetIs bound (Has old space) row dataset → DatasetIs bound (Has new less) row dataset
  DatasetIs-grows bound row dataset is = record { named = is.named; head = SetIs-grows bound row.head dataset.head is.head }

  SnapshotIs-grows : (bound : Option ℕ) (row : Snapshot) (snapshot : plain.Snapshot) → SnapshotIs bound (Has old space) row snapshot → SnapshotIs bound (Has new less) row snapshot
  SnapshotIs-grows bound row snapshot is = record { named = is.named; objects = SetIs-grows bound row.objects snapshot.objects is.objects }

  BookmarkIs-grows : (row : Bookmark) (bookmark : plain.Bookmark) → BookmarkIs (Has old space) row bookmark → BookmarkIs (Has new less) row bookmark
  BookmarkIs-grows row bookmark is = record { named = is.named; list = HasList-grows (Has old space) (Has new less) keeps row.levels row.root row.runs bookmark.runs is.list; no_list = is.no_list }

  pub PartialIs-grows : (bound : Option ℕ) (row : Partial) (partial : plain.Partial) → PartialIs bound (Has old space) row partial → PartialIs bound (Has new less) row partial
  PartialIs-grows bound row partial is = record { named = is.named; objects = SetIs-grows bound row.objects partial.objects is.objects }

  pub RunsBy-grows : {bound : Option ℕ} (rows : Rows) (pool : Pool) → RunsBy bound (Has old space) rows pool → RunsBy bound (Has new less) rows pool
  RunsBy-grows {bound = bound} rows pool is = record {
    datasets = Match-weaker (DatasetIs bound (Has old space)) (DatasetIs bound (Has new less)) (DatasetIs-grows bound) rows.datasets pool.datasets is.datasets;
    snapshots = Match-weaker (SnapshotIs bound (Has old space)) (SnapshotIs bound (Has new less)) (SnapshotIs-grows bound) rows.snapshots pool.snapshots is.snapshots;
    bookmarks = Match-weaker (BookmarkIs (Has old space)) (BookmarkIs (Has new less)) BookmarkIs-grows rows.bookmarks pool.bookmarks is.bookmarks;
    partials = Match-weaker (PartialIs bound (Has old space)) (PartialIs bound (Has new less)) (PartialIs-grows bound) rows.partials pool.partials is.partials;
  }

  HasDir-grows : (uber : Uber) (rows : Rows) → HasDir (Has old space) uber rows → HasDir (Has new less) uber rows
  HasDir-grows uber rows is = DirStands-grows (Has old space) (Has new less) keeps uber.dir_levels uber.dir_root uber.dir_bytes rows is

  pub Describes-grows : {tight : Bool} (body : Body) (rows : Rows) (pool : Pool) → Describes tight body rows pool (Has old space) → Describes tight body rows pool (Has new less)
  Describes-grows body rows pool is = record {
    id = is.id;
    number = is.number;
    guids = is.guids;
    extents = HasExtents-grows (Has old space) (Has new less) keeps body.uber.free_levels body.uber.free_root body.uber.free_count body.free is.extents;
    apart = is.apart;
    directory = HasDir-grows body.uber rows is.directory;
    rows_are = RunsBy-grows (kept_rows rows) pool is.rows_are;
    lawful = is.lawful;
  }

-- the free extents of a body still stand where the blocks do that it leaves not free
pub HasItsExtents-kept : (old new : DiskState) (body : Body) → KeepsBlocks old.seen (free_by body) new.seen (free_by body) → HasItsExtents old body → HasItsExtents new body
HasItsExtents-kept old new body keeps has =
    HasExtents-grows (Has old.seen (free_by body)) (Has new.seen (free_by body)) keeps body.uber.free_levels body.uber.free_root body.uber.free_count body.free has
