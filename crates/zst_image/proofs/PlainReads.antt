-- What is known of tight sets is known of sets that hold their states.
use Rattle.std.proofs.Common.{ℕ, Bool, false, List, Option, None}
use Rattle.zst_outside.specs.Images.{DiskState}
use Rattle.zst_block.specs.Blocks.{Has}
use Rattle.zst_model.specs.pools.Pool.{Pool}
use Rattle.zst_model.specs.pools.Pool as plain
use Rattle.zst_tree.specs.Indices.{Blocks}
use Rattle.zst_dir.specs.Rows.{Rows}
use Rattle.zst_dir.specs.declared.rows.Dataset.{Dataset}
use Rattle.zst_dir.specs.declared.rows.Snapshot.{Snapshot}
use Rattle.zst_dir.specs.declared.rows.Partial.{Partial}
use Rattle.zst_image.specs.Bodies.{Body, free_by}
use Rattle.zst_image.specs.Reads.{DatasetIs, SnapshotIs, PartialIs, RunsBy, ReadsAs, Rests, kept_rows}
use Rattle.zst_image.proofs.Growth.{Match-weaker}
use Rattle.zst_image.proofs.OnePool.{SetIs-holds}

module _ (bound : Option ℕ) (has : Blocks) where
  DatasetIs-plain : (row : Dataset) (dataset : plain.Dataset) → DatasetIs bound has row dataset → DatasetIs None has row dataset
  DatasetIs-plain row dataset is = record { named = is.named; head = SetIs-holds bound has row.head dataset.head is.head }

  SnapshotIs-plain : (row : Snapshot) (snapshot : plain.Snapshot) → SnapshotIs bound has row snapshot → SnapshotIs None has row snapshot
  SnapshotIs-plain row snapshot is = record { named = is.named; objects = SetIs-holds bound has row.objects snapshot.objects is.objects }

  PartialIs-plain : (row : Partial) (partial : plain.Partial) → PartialIs bound has row partial → PartialIs None has row partial
  PartialIs-plain row partial is = record { named = is.named; objects = SetIs-holds bound has row.objects partial.objects is.objects }

pub RunsBy-plain : {bound : Option ℕ} (has : Blocks) (rows : Rows) (pool : Pool) → RunsBy bound has rows pool → RunsBy None has rows pool
RunsBy-plain {bound = bound} has rows pool is = record {
  datasets = Match-weaker (DatasetIs bound has) (DatasetIs None has) (DatasetIs-plain bound has) rows.datasets pool.datasets is.datasets;
  snapshots = Match-weaker (SnapshotIs bound has) (SnapshotIs None has) (SnapshotIs-plain bound has) rows.snapshots pool.snapshots is.snapshots;
  bookmarks = is.bookmarks;
  partials = Match-weaker (PartialIs bound has) (PartialIs None has) (PartialIs-plain bound has) rows.partials pool.partials is.partials;
}

pub ReadsAs-plain : {tight : Bool} (body : Body) (rows : Rows) (pool : Pool) (image : List ℕ) → ReadsAs tight body rows pool image → ReadsAs false body rows pool image
ReadsAs-plain body rows pool image is =
    let described = is.described in
    record {
      stands = is.stands;
      fits = is.fits;
      in_range = is.in_range;
      described = record {
        id = described.id;
        number = described.number;
        guids = described.guids;
        extents = described.extents;
        apart = described.apart;
        directory = described.directory;
        rows_are = RunsBy-plain (Has image (free_by body)) (kept_rows rows) pool described.rows_are;
        lawful = described.lawful;
      };
    }

pub Rests-plain : {tight : Bool} (disk : DiskState) (body : Body) (rows : Rows) (pool : Pool) → Rests tight disk body rows pool → Rests false disk body rows pool
Rests-plain disk body rows pool is = record { reads = ReadsAs-plain body rows pool disk.seen is.reads; each = λ c image. ReadsAs-plain body rows pool c (is.each c image) }
