-- What a pool refuses, and with which refusal where several could come.
use Rattle.std.specs.Prelude.{◌≡◌, ℕ, ◌+◌, ◌<◌, ◌≤◌, true, false, List, [], ◌∷◌, length, Option, Some, None, Err, ◌==◌}
use Rattle.std.specs.List.{before_first}
use Rattle.zst_model.specs.declared.refusals.apply_fault.ApplyFault.TheVariants.{NoObject, SizeDiffers, OddBlock}
use Rattle.zst_model.specs.declared.states.attr.ObjectHead.{ObjectHead}
use Rattle.zst_model.specs.declared.pools.command.Command.{Command}
use Rattle.zst_model.specs.declared.pools.command.Command.TheVariants as commands
use Rattle.zst_model.specs.declared.refusals.faults.Quantity.TheVariants as quantities
use Rattle.zst_model.specs.declared.refusals.subjects.Name.{Name}
use Rattle.zst_model.specs.declared.refusals.subjects.Name.TheVariants as names
use Rattle.zst_model.specs.declared.refusals.refusal.Refusal.{Refusal}
use Rattle.zst_model.specs.declared.refusals.refusal.Refusal.TheVariants as refusals
use Rattle.zst_model.specs.states.State.{Object, Redacted, IsState, is_odd_size}
use Rattle.zst_model.specs.states.DatedState.{DatedState}
use Rattle.zst_model.specs.pools.Sessions.{Held}
use Rattle.zst_model.specs.pools.Pool.{Pool, Dataset, Snapshot, Partial, dataset_named, snapshot_named, partial_of}
use Rattle.zst_model.specs.pools.Step.{stepped, no_such, exists_already, busy_partial, cannot_apply, state_named}

-- the pool refuses the command so, whatever the time
abbrev pub Refuses : Pool → Command → Refusal → Type 0
Refuses pool command refusal = (held : List Held) (now : ℕ) → stepped held now command pool ≡ Err refusal

-- the dataset that a command makes
abbrev pub made_by : Command → Option (List ℕ)
made_by (commands.Fs dataset) = Some dataset
made_by (commands.Volume dataset) = Some dataset
made_by _ = None

-- the dataset of a snapshot's name: what stands before its `@`
abbrev pub dataset_before : List ℕ → List ℕ
dataset_before name = before_first (λ b. b == 64) name

-- the dataset whose head a command changes or takes a snapshot of
abbrev pub taken_by : Command → Option (List ℕ)
taken_by (commands.Object dataset k head bonus spill) = Some dataset
taken_by (commands.Write dataset k i bytes) = Some dataset
taken_by (commands.Punch dataset k first count) = Some dataset
taken_by (commands.Free dataset first count) = Some dataset
taken_by (commands.Snapshot name) = Some (dataset_before name)
taken_by _ = None

-- no dataset has the name, and no partial state is for it
abbrev pub IsUnused : Pool → List ℕ → Type 0
IsUnused pool name = (dataset_named name pool ≡ None) × (partial_of name pool ≡ None)

-- the pool has this dataset of this name, and no partial state for it
abbrev pub HasFree : Pool → List ℕ → Dataset → Type 0
HasFree pool name dataset = (dataset_named name pool ≡ Some dataset) × (partial_of name pool ≡ None)

-- E4: a dataset that is there isn't made again
abbrev pub DatasetIsThere : Type 0
DatasetIsThere =
    (pool : Pool) (command : Command) (name : List ℕ) (dataset : Dataset)
    → made_by command ≡ Some name → dataset_named name pool ≡ Some dataset → Refuses pool command (exists_already (names.Dataset name))

-- E4: nor is one that a receive has begun
abbrev pub TargetIsThere : Type 0
TargetIsThere =
    (pool : Pool) (command : Command) (name : List ℕ) (partial : Partial)
    → made_by command ≡ Some name → partial_of name pool ≡ Some partial → Refuses pool command (exists_already (names.Dataset name))

-- E23: there are 256 datasets at most
abbrev pub DatasetsAreFull : Type 0
DatasetsAreFull =
    (pool : Pool) (command : Command) (name : List ℕ)
    → made_by command ≡ Some name → IsUnused pool name → 256 ≤ length pool.datasets → Refuses pool command (refusals.Limit quantities.Datasets 256)

-- E23: a receive that makes a dataset counts as one
abbrev pub TargetsCount : Type 0
TargetsCount =
    (pool : Pool) (command : Command) (name : List ℕ) (partial : Partial)
    → made_by command ≡ Some name → IsUnused pool name → length pool.datasets ≡ 255
    → pool.partials ≡ partial ∷ [] → dataset_named partial.target pool ≡ None → Refuses pool command (refusals.Limit quantities.Datasets 256)

-- E3: the dataset is absent
abbrev pub DatasetIsAbsent : Type 0
DatasetIsAbsent =
    (pool : Pool) (command : Command) (name : List ℕ)
    → taken_by command ≡ Some name → dataset_named name pool ≡ None → Refuses pool command (no_such (names.Dataset name))

-- E5: the dataset has a partial state
abbrev pub DatasetIsBusy : Type 0
DatasetIsBusy =
    (pool : Pool) (command : Command) (name : List ℕ) (dataset : Dataset) (partial : Partial)
    → taken_by command ≡ Some name → dataset_named name pool ≡ Some dataset → partial_of name pool ≡ Some partial → Refuses pool command (busy_partial name)

-- E23: an object's number is below 2^48
abbrev pub NumberIsFar : Type 0
NumberIsFar =
    (pool : Pool) (name : List ℕ) (dataset : Dataset) (k : ℕ) (head : ObjectHead) (bonus : List ℕ) (spill : Option (List ℕ))
    → HasFree pool name dataset → 281474976710656 ≤ k
    → Refuses pool (commands.Object name k head bonus spill) (refusals.Limit quantities.Object 281474976710656)

-- E23: freed numbers end at 2^48
abbrev pub NumbersAreFar : Type 0
NumbersAreFar =
    (pool : Pool) (name : List ℕ) (dataset : Dataset) (first count : ℕ)
    → HasFree pool name dataset → 281474976710656 < first + count
    → Refuses pool (commands.Free name first count) (refusals.Limit quantities.Object 281474976710656)

-- E21 of a write: there is no such object
abbrev pub WriteWantsObject : Type 0
WriteWantsObject =
    (pool : Pool) (name : List ℕ) (dataset : Dataset) (k i : ℕ) (bytes : List ℕ)
    → HasFree pool name dataset → dataset.head.state k ≡ None
    → Refuses pool (commands.Write name k i bytes) (cannot_apply NoObject)

-- E21 of a write: the bytes are more than a block, whatever its index
abbrev pub WriteIsLong : Type 0
WriteIsLong =
    (pool : Pool) (name : List ℕ) (dataset : Dataset) (k i : ℕ) (bytes : List ℕ) (object : Object)
    → HasFree pool name dataset → dataset.head.state k ≡ Some object → object.attr.block_size < length bytes
    → Refuses pool (commands.Write name k i bytes) (cannot_apply SizeDiffers)

-- E21 of a write: an object of an odd size has block 0 alone, also where the index is past the limit
abbrev pub WriteIsOdd : Type 0
WriteIsOdd =
    (pool : Pool) (name : List ℕ) (dataset : Dataset) (k i : ℕ) (bytes : List ℕ) (object : Object)
    → HasFree pool name dataset → dataset.head.state k ≡ Some object → 0 < object.attr.block_size → length bytes ≤ object.attr.block_size
    → is_odd_size object.attr.block_size ≡ true → 0 < i
    → Refuses pool (commands.Write name k i bytes) (cannot_apply OddBlock)

-- E23 of a write: an index is below 2^43
abbrev pub WriteIsFar : Type 0
WriteIsFar =
    (pool : Pool) (name : List ℕ) (dataset : Dataset) (k i : ℕ) (bytes : List ℕ) (object : Object)
    → HasFree pool name dataset → dataset.head.state k ≡ Some object → length bytes ≤ object.attr.block_size
    → is_odd_size object.attr.block_size ≡ false → 8796093022208 ≤ i
    → Refuses pool (commands.Write name k i bytes) (refusals.Limit quantities.Block 8796093022208)

-- sizes that are powers of two, and one that isn't
abbrev pub OddSizes : Type 0
OddSizes = (is_odd_size 512 ≡ false) × (is_odd_size 1536 ≡ true) × (is_odd_size 131072 ≡ false)

-- E21 of a punch: there is no such object
abbrev pub PunchWantsObject : Type 0
PunchWantsObject =
    (pool : Pool) (name : List ℕ) (dataset : Dataset) (k first count : ℕ)
    → HasFree pool name dataset → dataset.head.state k ≡ None
    → Refuses pool (commands.Punch name k first count) (cannot_apply NoObject)

-- E23 of a punch: its range ends at 2^43
abbrev pub PunchIsFar : Type 0
PunchIsFar =
    (pool : Pool) (name : List ℕ) (dataset : Dataset) (k first count : ℕ) (object : Object)
    → HasFree pool name dataset → dataset.head.state k ≡ Some object → 8796093022208 < first + count
    → Refuses pool (commands.Punch name k first count) (refusals.Limit quantities.Block 8796093022208)

-- E4: the snapshot is there, whatever limits are reached
abbrev pub SnapshotIsThere : Type 0
SnapshotIsThere =
    (pool : Pool) (name : List ℕ) (dataset : Dataset) (snapshot : Snapshot)
    → HasFree pool (dataset_before name) dataset → snapshot_named name pool ≡ Some snapshot
    → Refuses pool (commands.Snapshot name) (exists_already (names.Snapshot name))

-- a snapshot that can be taken but for limits
abbrev pub IsTakeable : Pool → List ℕ → Dataset → Type 0
IsTakeable pool name dataset = HasFree pool (dataset_before name) dataset × (snapshot_named name pool ≡ None)

-- E23: there are 1,024 snapshots at most, and each partial state is to be one
abbrev pub SnapshotsAreFull : Type 0
SnapshotsAreFull =
    (pool : Pool) (name : List ℕ) (dataset : Dataset)
    → IsTakeable pool name dataset → 1024 ≤ length pool.snapshots + length pool.partials
    → Refuses pool (commands.Snapshot name) (refusals.Limit quantities.Snapshots 1024)

-- E23: the guid counter is at most 2^32 - 1
abbrev pub GuidsAreOver : Type 0
GuidsAreOver =
    (pool : Pool) (name : List ℕ) (dataset : Dataset)
    → IsTakeable pool name dataset → length pool.snapshots + length pool.partials < 1024 → pool.guids ≡ 4294967295
    → Refuses pool (commands.Snapshot name) (refusals.Limit quantities.Guids 4294967295)

-- E23 of a snapshot, after all else: the pool's number is at most 2^63
abbrev pub SnapshotHasNoNumber : Type 0
SnapshotHasNoNumber =
    (pool : Pool) (name : List ℕ) (dataset : Dataset)
    → IsTakeable pool name dataset → length pool.snapshots + length pool.partials < 1024 → pool.guids < 4294967295 → pool.number ≡ 9223372036854775808
    → Refuses pool (commands.Snapshot name) (refusals.Limit quantities.Number 9223372036854775808)

-- E23 of a new dataset, after all else
abbrev pub DatasetHasNoNumber : Type 0
DatasetHasNoNumber =
    (pool : Pool) (command : Command) (name : List ℕ)
    → made_by command ≡ Some name → IsUnused pool name → length pool.datasets + length pool.partials < 256 → pool.number ≡ 9223372036854775808
    → Refuses pool command (refusals.Limit quantities.Number 9223372036854775808)

-- E23 of an object, after all else
abbrev pub ObjectHasNoNumber : Type 0
ObjectHasNoNumber =
    (pool : Pool) (name : List ℕ) (dataset : Dataset) (k : ℕ) (head : ObjectHead) (bonus : List ℕ) (spill : Option (List ℕ))
    → HasFree pool name dataset → k < 281474976710656 → pool.number ≡ 9223372036854775808
    → Refuses pool (commands.Object name k head bonus spill) (refusals.Limit quantities.Number 9223372036854775808)

-- E23 of a write, after all else
abbrev pub WriteHasNoNumber : Type 0
WriteHasNoNumber =
    (pool : Pool) (name : List ℕ) (dataset : Dataset) (k i : ℕ) (bytes : List ℕ) (object : Object)
    → HasFree pool name dataset → dataset.head.state k ≡ Some object → length bytes ≤ object.attr.block_size
    → is_odd_size object.attr.block_size ≡ false → i < 8796093022208 → pool.number ≡ 9223372036854775808
    → Refuses pool (commands.Write name k i bytes) (refusals.Limit quantities.Number 9223372036854775808)

-- E23 of a punch, after all else
abbrev pub PunchHasNoNumber : Type 0
PunchHasNoNumber =
    (pool : Pool) (name : List ℕ) (dataset : Dataset) (k first count : ℕ) (object : Object)
    → HasFree pool name dataset → dataset.head.state k ≡ Some object → first + count ≤ 8796093022208 → pool.number ≡ 9223372036854775808
    → Refuses pool (commands.Punch name k first count) (refusals.Limit quantities.Number 9223372036854775808)

-- E23 of numbers that are freed, after all else
abbrev pub FreeHasNoNumber : Type 0
FreeHasNoNumber =
    (pool : Pool) (name : List ℕ) (dataset : Dataset) (first count : ℕ)
    → HasFree pool name dataset → first + count ≤ 281474976710656 → pool.number ≡ 9223372036854775808
    → Refuses pool (commands.Free name first count) (refusals.Limit quantities.Number 9223372036854775808)

-- E3 of reads and lists: no dataset or snapshot has the name
abbrev pub NameIsAbsent : Type 0
NameIsAbsent =
    (pool : Pool) (name : Name) → state_named name pool ≡ None
    → ((k i : ℕ) → Refuses pool (commands.Read name k i) (no_such name))
    × Refuses pool (commands.ListObjects name) (no_such name)

-- E21 of a read: there is no such object
abbrev pub ReadWantsObject : Type 0
ReadWantsObject =
    (pool : Pool) (name : Name) (snap : DatedState) (k i : ℕ)
    → state_named name pool ≡ Some snap → snap.state k ≡ None
    → Refuses pool (commands.Read name k i) (cannot_apply NoObject)

-- E22: the block is redacted
abbrev pub ReadIsRedacted : Type 0
ReadIsRedacted =
    (pool : Pool) (name : Name) (snap : DatedState) (k i : ℕ) (object : Object)
    → state_named name pool ≡ Some snap → snap.state k ≡ Some object → object.blocks i ≡ Redacted
    → Refuses pool (commands.Read name k i) (refusals.Redacted k i)

-- E23 of a read: an index is below 2^43
abbrev pub ReadIsFar : Type 0
ReadIsFar =
    (pool : Pool) (name : Name) (snap : DatedState) (k i : ℕ) (object : Object)
    → IsState snap.state → state_named name pool ≡ Some snap → snap.state k ≡ Some object → 8796093022208 ≤ i
    → Refuses pool (commands.Read name k i) (refusals.Limit quantities.Block 8796093022208)
