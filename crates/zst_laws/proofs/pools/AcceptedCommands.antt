-- What an accepted command found, and what it made of the pool.
use Rattle.std.proofs.Common.{◌≡◌, ℕ, ◌+◌, ◌≤◌, false, not, List, length, Some, is_some, Result, Ok, sym, ap, bytes_eq}
use Rattle.std.proofs.lemmas.Bool.{not-false}
use Rattle.zst_names.specs.Names.{dataset_of}
use Rattle.zst_model.specs.declared.refusals.apply_fault.ApplyFault.TheVariants.{NoObject}
use Rattle.zst_model.specs.declared.pools.command.Command.TheVariants as commands
use Rattle.zst_model.specs.declared.refusals.faults.Quantity.TheVariants as quantities
use Rattle.zst_model.specs.declared.refusals.subjects.Name.{Name}
use Rattle.zst_model.specs.declared.refusals.subjects.Name.TheVariants as names
use Rattle.zst_model.specs.declared.refusals.refusal.Refusal.{Refusal}
use Rattle.zst_model.specs.states.State.{Block, Hole, Redacted, Data, index_bound}
use Rattle.zst_model.specs.states.DatedState.{DatedState}
use Rattle.zst_model.specs.pools.Sessions.{Held}
use Rattle.zst_model.specs.pools.AnswerLines.{object_lines, pool_lines}
use Rattle.zst_model.specs.pools.Pool.{Pool, Dataset, Snapshot, dataset_named, snapshot_named, bookmark_named, partial_of, dataset_of_snapshot, is_before, snapshot_is_before, inserted}
use Rattle.zst_model.specs.pools.Step.{Stepped, no_such, exists_already, not_ancestor, cannot_apply, committed, count_datasets, most_datasets, most_snapshots, most_bookmarks, last_guid, with_dataset, on_head, snapshot_of, with_snapshot, clone_of, with_clone, bookmark_of, with_bookmark, state_named, answered, block_read, stepped}
use Rattle.zst_model.proofs.OrderLaws.{same_bytes}
use Rattle.zst_model.proofs.Results.{ok_parts, unless_ok}
use Rattle.zst_laws.proofs.pools.Rows.{or_else_ok, limited_ok, committed_ok, on_dataset_ok, on_head_ok}

-- a new dataset: its name was free
pub record IsNewDataset (row : Dataset) (pool : Pool) (after : Stepped) : Type 0 where
  pub absent : is_some (dataset_named row.name pool) ≡ false
  pub free : is_some (partial_of row.name pool) ≡ false
  pub made : committed (record pool { datasets = inserted (λ a b. is_before a.name b.name) row pool.datasets }) ≡ Ok after

pub with_dataset_ok : (row : Dataset) (pool : Pool) (after : Stepped) → with_dataset row pool ≡ Ok after → IsNewDataset row pool after
with_dataset_ok row pool after h =
    let absent = unless_ok (is_some (dataset_named row.name pool)) (exists_already (names.Dataset row.name)) _ after h in
    let free = unless_ok (is_some (partial_of row.name pool)) (exists_already (names.Dataset row.name)) _ after absent.1 in
    let few = limited_ok quantities.Datasets most_datasets (count_datasets pool + 1) _ after free.1 in
    record { absent = absent.0; free = free.0; made = few.1 }

-- a clone: a new dataset of a snapshot that is there, whose dataset is there
pub record IsClone (origin name : List ℕ) (pool : Pool) (after : Stepped) : Type 0 where
  pub snapshot : Snapshot
  pub there : snapshot_named origin pool ≡ Some snapshot
  pub source : Dataset
  pub source_there : dataset_named (dataset_of_snapshot snapshot) pool ≡ Some source
  pub new : IsNewDataset (clone_of name source snapshot) pool after

pub with_clone_ok : (origin name : List ℕ) (pool : Pool) (after : Stepped) → with_clone origin name pool ≡ Ok after → IsClone origin name pool after
with_clone_ok origin name pool after h =
    let found = or_else_ok (no_such (names.Snapshot origin)) (snapshot_named origin pool) _ after h in
    let of = dataset_of_snapshot found.0 in
    let source = or_else_ok (no_such (names.Dataset of)) (dataset_named of pool) _ after found.2 in
    record {
      snapshot = found.0;
      there = found.1;
      source = source.0;
      source_there = source.1;
      new = with_dataset_ok (clone_of name source.0 found.0) pool after source.2;
    }

-- a bookmark: its snapshot is there and of its dataset, and its name was free
pub record IsNewBookmark (of name : List ℕ) (pool : Pool) (after : Stepped) : Type 0 where
  pub snapshot : Snapshot
  pub there : snapshot_named of pool ≡ Some snapshot
  pub same : dataset_of_snapshot snapshot ≡ dataset_of 35 name
  pub absent : is_some (bookmark_named name pool) ≡ false
  pub made : committed (record pool { bookmarks = inserted (λ a b. is_before a.name b.name) (bookmark_of name snapshot) pool.bookmarks }) ≡ Ok after

pub with_bookmark_ok : (of name : List ℕ) (pool : Pool) (after : Stepped) → with_bookmark of name pool ≡ Ok after → IsNewBookmark of name pool after
with_bookmark_ok of name pool after h =
    let found = or_else_ok (no_such (names.Snapshot of)) (snapshot_named of pool) _ after h in
    let differ = not (bytes_eq (dataset_of_snapshot found.0) (dataset_of 35 name)) in
    let same = unless_ok differ (not_ancestor (names.Bookmark name) (names.Snapshot of)) _ after found.2 in
    let absent = unless_ok (is_some (bookmark_named name pool)) (exists_already (names.Bookmark name)) _ after same.1 in
    let few = limited_ok quantities.Bookmarks most_bookmarks (length pool.bookmarks + 1) _ after absent.1 in
    record {
      snapshot = found.0;
      there = found.1;
      same = same_bytes (dataset_of_snapshot found.0) (dataset_of 35 name) (not-false (bytes_eq (dataset_of_snapshot found.0) (dataset_of 35 name)) same.0);
      absent = absent.0;
      made = few.1;
    }

-- a new snapshot of a dataset: its name was free, and the dataset has no partial state
pub record IsNewSnapshot (now : ℕ) (name : List ℕ) (pool : Pool) (after : Stepped) : Type 0 where
  pub dataset : Dataset
  pub there : dataset_named (dataset_of 64 name) pool ≡ Some dataset
  pub free : is_some (partial_of (dataset_of 64 name) pool) ≡ false
  pub absent : is_some (snapshot_named name pool) ≡ false
  pub guids : pool.guids + 1 ≤ last_guid
  pub made : committed (record pool { guids = pool.guids + 1; snapshots = inserted snapshot_is_before (snapshot_of now name pool dataset) pool.snapshots }) ≡ Ok after

pub with_snapshot_ok : (now : ℕ) (name : List ℕ) (pool : Pool) (after : Stepped) → with_snapshot now name pool ≡ Ok after → IsNewSnapshot now name pool after
with_snapshot_ok now name pool after h =
    let found = on_dataset_ok (dataset_of 64 name) pool _ after h in
    let absent = unless_ok (is_some (snapshot_named name pool)) (exists_already (names.Snapshot name)) _ after found.3 in
    let few = limited_ok quantities.Snapshots most_snapshots (length pool.snapshots + length pool.partials + 1) _ after absent.1 in
    let below = limited_ok quantities.Guids last_guid (pool.guids + 1) _ after few.1 in
    record { dataset = found.0; there = found.1; free = found.2; absent = absent.0; guids = below.0; made = below.1 }

-- what only answers leaves the pool as it was
pub answered_keeps : (pool : Pool) (lines : List (List ℕ)) (after : Stepped) → answered pool lines ≡ Ok after → after.pool ≡ pool
answered_keeps pool lines after h = sym (ap (λ s. s.pool) (ok_parts (record { reply = lines; pool = pool }) after h))

block_read_keeps : (pool : Pool) (k i : ℕ) (block : Block) (after : Stepped) → block_read pool k i block ≡ Ok after → after.pool ≡ pool
block_read_keeps pool k i Redacted after h = absurd (cc)
block_read_keeps pool k i Hole after h = answered_keeps pool _ after (limited_ok quantities.Block index_bound (i + 1) _ after h).1
block_read_keeps pool k i (Data bytes) after h = answered_keeps pool _ after (limited_ok quantities.Block index_bound (i + 1) _ after h).1

pub read_keeps : (held : List Held) (now : ℕ) (name : Name) (k i : ℕ) (pool : Pool) (after : Stepped) → stepped held now (commands.Read name k i) pool ≡ Ok after → after.pool ≡ pool
unfolding stepped
read_keeps held now name k i pool after h =
    let found = or_else_ok (no_such name) (state_named name pool) _ after h in
    let there = or_else_ok (cannot_apply NoObject) (found.0.state k) _ after found.2 in
    block_read_keeps pool k i (there.0.blocks i) after there.2

pub list_keeps : (held : List Held) (now : ℕ) (pool : Pool) (after : Stepped) → stepped held now commands.List pool ≡ Ok after → after.pool ≡ pool
unfolding stepped
list_keeps held now pool after h = answered_keeps pool (pool_lines pool) after h

pub list_objects_keeps : (held : List Held) (now : ℕ) (name : Name) (pool : Pool) (after : Stepped) → stepped held now (commands.ListObjects name) pool ≡ Ok after → after.pool ≡ pool
unfolding stepped
list_objects_keeps held now name pool after h =
    let found = or_else_ok (no_such name) (state_named name pool) _ after h in answered_keeps pool (object_lines found.0) after found.2

-- a commit counts up
pub commit_counts : (pool : Pool) (after : Stepped) → committed pool ≡ Ok after → after.pool.number ≡ pool.number + 1
commit_counts pool after h = sym (ap (λ s. s.pool.number) (committed_ok pool after h).1)

pub head_counts : (name : List ℕ) (pool : Pool) (change : DatedState → Result DatedState Refusal) (after : Stepped) → on_head name pool change ≡ Ok after → after.pool.number ≡ pool.number + 1
head_counts name pool change after h = commit_counts _ after (on_head_ok name pool change after h).5
