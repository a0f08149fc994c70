-- What a command makes of a pool, or its first refusal: where several come, the outermost one is the first.
use Rattle.std.specs.Prelude.{◌<◌, ◌≤◌, IfSome, All, ℕ, ◌+◌, ◌*◌, ◌-◌, ◌^◌, ◌==◌, Bool, true, false, ◌&&◌, ◌||◌, List, [], ◌∷◌, ◌++◌, length, map, filter, find, count_by, replicate, Option, Some, None, is_some, option_map, Result, Ok, Err, if◌then◌else◌, nat_lt, bytes_eq, not, codes}
use Rattle.std.specs.List.{list_any}
use Rattle.zst_names.specs.Names.{IsDataset, IsSnapshot, IsBookmark, dataset_of}
use Rattle.zst_model.specs.declared.refusals.apply_fault.ApplyFault.{ApplyFault}
use Rattle.zst_model.specs.declared.refusals.apply_fault.ApplyFault.TheVariants.{NoObject}
use Rattle.zst_model.specs.declared.states.item.Change.TheVariants.{Put, Free, Write}
use Rattle.zst_model.specs.declared.states.item.Item.{Item}
use Rattle.zst_model.specs.declared.states.item.Item.TheVariants.{FreeObjects, At}
use Rattle.zst_model.specs.declared.pools.command.Command.{Command}
use Rattle.zst_model.specs.declared.pools.command.Command.TheVariants as commands
use Rattle.zst_model.specs.declared.refusals.faults.Lack.TheVariants as lacks
use Rattle.zst_model.specs.declared.refusals.faults.Quantity.{Quantity}
use Rattle.zst_model.specs.declared.refusals.faults.Quantity.TheVariants as quantities
use Rattle.zst_model.specs.declared.refusals.subjects.Name.{Name}
use Rattle.zst_model.specs.declared.refusals.subjects.Name.TheVariants as names
use Rattle.zst_model.specs.declared.refusals.subjects.AbsentSubject.TheVariants as missing
use Rattle.zst_model.specs.declared.refusals.subjects.PresentSubject.TheVariants as present
use Rattle.zst_model.specs.declared.refusals.subjects.Holder.TheVariants as holders
use Rattle.zst_model.specs.declared.refusals.plan_fault.PlanFault.TheVariants as plans
use Rattle.zst_model.specs.declared.refusals.refusal.Refusal.{Refusal}
use Rattle.zst_model.specs.declared.refusals.refusal.Refusal.TheVariants as refusals
use Rattle.zst_model.specs.states.State.{Block, Hole, Redacted, Data, number_bound, index_bound, AreBytes, IsHead, IsBonus, IsSpill}
use Rattle.zst_model.specs.states.AppliedItems.{unless, ◌>>=◌}
use Rattle.zst_model.specs.fields.RunsOf.{runs_of}
use Rattle.zst_model.specs.sends.Items.{spill_change}
use Rattle.zst_model.specs.sends.SendPlan.{comes_before, has_guids}
use Rattle.zst_model.specs.states.DatedState.{DatedState, size_at, apply_all_dated}
use Rattle.zst_model.specs.pools.Ancestry.{OfSnapshot}
use Rattle.zst_model.specs.pools.RedSet.{objects_of, red_set}
use Rattle.zst_model.specs.pools.Sessions.{Held, has_named, least_id, session_with, session_into, unless_busy}
use Rattle.zst_model.specs.pools.Pool.{Pool, Dataset, Snapshot, Bookmark, Partial, dataset_of_snapshot, dataset_of_bookmark, dataset_named, snapshot_named, bookmark_named, partial_of, is_before, snapshot_is_before, inserted, untouched}
unfoldable pub use Rattle.zst_model.specs.pools.Limits.{last_number, last_guid, most_datasets, most_snapshots, most_bookmarks, most_runs}
use Rattle.zst_model.specs.pools.Limits.{largest_write}
use Rattle.zst_model.specs.pools.AnswerLines.{ok_line, pool_lines, object_lines, data_line}

-- a name of a dataset or a snapshot, which have objects
abbrev pub HasObjects : Name → Type 0
HasObjects (names.Dataset name) = IsDataset name
HasObjects (names.Snapshot name) = IsSnapshot name
HasObjects (names.Bookmark name) = ⊥

-- a name is one of its kind
abbrev pub IsName : Name → Type 0
IsName (names.Dataset name) = IsDataset name
IsName (names.Snapshot name) = IsSnapshot name
IsName (names.Bookmark name) = IsBookmark name

-- the words of `redact` are in their ranges: from one redaction snapshot to sixteen
abbrev pub IsRedact : List ℕ → List ℕ → List (List ℕ) → Type 0
IsRedact of_snapshot name kept = IsSnapshot of_snapshot × IsBookmark name × All IsSnapshot kept × (0 < length kept) × (length kept ≤ 16)

-- a command whose words are in their ranges
abbrev pub IsCommand : Command → Type 0
IsCommand (commands.Fs dataset) = IsDataset dataset
IsCommand (commands.Volume dataset) = IsDataset dataset
IsCommand (commands.Object dataset k head bonus spill) =
    IsDataset dataset × (0 < k) × IsHead head × IsBonus bonus × IfSome spill IsSpill
IsCommand (commands.Write dataset k i bytes) = IsDataset dataset × (0 < k) × (0 < length bytes) × (length bytes ≤ largest_write) × AreBytes bytes
IsCommand (commands.Punch dataset k first count) = IsDataset dataset × (0 < k) × (0 < count)
IsCommand (commands.Free dataset first count) = IsDataset dataset × (0 < first) × (0 < count)
IsCommand (commands.Snapshot name) = IsSnapshot name
IsCommand (commands.Clone origin dataset) = IsSnapshot origin × IsDataset dataset
IsCommand (commands.Bookmark snapshot bookmark) = IsSnapshot snapshot × IsBookmark bookmark
IsCommand (commands.Redact snapshot bookmark redactions) = IsRedact snapshot bookmark redactions
IsCommand (commands.Rollback destroys snapshot) = IsSnapshot snapshot
IsCommand (commands.Destroy name) = IsName name
IsCommand (commands.Abort dataset) = IsDataset dataset
IsCommand commands.Reclaim = Unit {0}
IsCommand (commands.Read name k i) = HasObjects name × (0 < k)
IsCommand commands.List = Unit {0}
IsCommand (commands.ListObjects name) = HasObjects name

-- what an accepted command gives: its lines, and the pool after it
pub record Stepped : Type 0 where
  pub reply : List (List ℕ)
  pub pool : Pool

-- E3: there is none of this name
abbrev pub no_such : Name → Refusal
no_such name = refusals.Plan (plans.NoSuch (missing.Named name))

-- E4: the name is taken
abbrev pub exists_already : Name → Refusal
exists_already name = refusals.Plan (plans.Exists (present.Named name))

-- E5: the dataset has a partial state
abbrev pub busy_partial : List ℕ → Refusal
busy_partial dataset = refusals.Plan (plans.Busy (holders.Partial dataset))

-- E14: the dataset has no partial state
abbrev pub no_partial : List ℕ → Refusal
no_partial dataset = refusals.Plan (plans.NoPartial dataset)

-- E5: it is the origin of this clone, or this bookmark or snapshot is newer
abbrev pub busy_clone : List ℕ → Refusal
busy_clone dataset = refusals.Plan (plans.Busy (holders.Clone dataset))

abbrev pub busy_bookmark : List ℕ → Refusal
busy_bookmark bookmark = refusals.Plan (plans.Busy (holders.Bookmark bookmark))

abbrev pub busy_snapshot : List ℕ → Refusal
busy_snapshot snapshot = refusals.Plan (plans.Busy (holders.Snapshot snapshot))

-- E6: the second doesn't stand before the first, or they are of two datasets where they have to be of one
abbrev pub not_ancestor : Name → Name → Refusal
not_ancestor to from = refusals.Plan (plans.NotAncestor to from)

-- E21 of a command
abbrev pub cannot_apply : ApplyFault → Refusal
cannot_apply fault = refusals.CannotApply 0 fault

-- what comes next of what is there, or this refusal
abbrev pub or_else : {A B : Type 0} → Refusal → Option A → (A → Result B Refusal) → Result B Refusal
or_else refusal None next = Err refusal
or_else refusal (Some found) next = next found

-- the rest, unless there is one, which is told
abbrev pub unless_there : {A B : Type 0} → (A → Refusal) → Option A → Result B Refusal → Result B Refusal
unless_there refusal None rest = rest
unless_there refusal (Some found) rest = Err (refusal found)

-- what applying gave, with its fault as a command's
abbrev pub of_applying : {A : Type 0} → Result A ApplyFault → Result A Refusal
of_applying (Ok made) = Ok made
of_applying (Err fault) = Err (cannot_apply fault)

-- E23 where a quantity would pass its limit
abbrev pub limited : {A : Type 0} → Quantity → ℕ → ℕ → Result A Refusal → Result A Refusal
limited which most quantity rest = unless (nat_lt most quantity) (refusals.Limit which most) rest

-- E23 of an object number: the end of a range of numbers is at most 2^48
abbrev pub in_numbers : {A : Type 0} → ℕ → Result A Refusal → Result A Refusal
in_numbers past rest = limited quantities.Object number_bound past rest

-- E23 of an index: the end of a range of indices is at most 2^43
abbrev pub in_indices : {A : Type 0} → ℕ → Result A Refusal → Result A Refusal
in_indices past rest = limited quantities.Block index_bound past rest

-- this pool as that of the next commit
abbrev pub committed : Pool → Result Stepped Refusal
committed pool = limited quantities.Number last_number (pool.number + 1) (Ok (record { reply = ok_line (pool.number + 1) ∷ []; pool = record pool { number = pool.number + 1 } }))

-- a dataset with this head, where it has this name
abbrev pub with_head_at : List ℕ → DatedState → Dataset → Dataset
with_head_at name head dataset = if bytes_eq dataset.name name then record dataset { head = head } else dataset

-- the datasets with another head of the one of this name
abbrev pub with_head : List ℕ → DatedState → List Dataset → List Dataset
with_head name head datasets = map (with_head_at name head) datasets

-- datasets as they are counted: partial states of absent datasets count too
abbrev pub count_datasets : Pool → ℕ
count_datasets pool = length pool.datasets + count_by (λ partial. not (is_some (dataset_named partial.target pool))) pool.partials

-- a dataset without objects, a clone of none
abbrev pub new_dataset : ℕ → List ℕ → Dataset
new_dataset kind name = record { name = name; kind = kind; origin = None; head = untouched; redact = [] }

-- one more dataset, whose name is free
abbrev pub with_dataset : Dataset → Pool → Result Stepped Refusal
with_dataset dataset pool =
    unless (is_some (dataset_named dataset.name pool)) (exists_already (names.Dataset dataset.name))
    (unless (is_some (partial_of dataset.name pool)) (exists_already (names.Dataset dataset.name))
    (limited quantities.Datasets most_datasets (count_datasets pool + 1)
    (committed (record pool { datasets = inserted (λ a b. is_before a.name b.name) dataset pool.datasets }))))

-- the dataset of this name, where it has no partial state
abbrev pub on_dataset : List ℕ → Pool → (Dataset → Result Stepped Refusal) → Result Stepped Refusal
on_dataset name pool next =
    or_else (no_such (names.Dataset name)) (dataset_named name pool) (λ dataset.
    unless (is_some (partial_of name pool)) (busy_partial name)
    (next dataset))

-- a command that changes the head of a dataset
abbrev pub on_head : List ℕ → Pool → (DatedState → Result DatedState Refusal) → Result Stepped Refusal
on_head name pool change =
    on_dataset name pool (λ dataset.
    change dataset.head >>= λ head.
    committed (record pool { datasets = with_head name head pool.datasets }))

-- items applied in the next commit
abbrev pub applied : Pool → List Item → DatedState → Result DatedState Refusal
applied pool items head = of_applying (apply_all_dated (pool.number + 1) items head)

-- zeros fill up a block
abbrev pub filled : ℕ → List ℕ → List ℕ
filled size bytes = bytes ++ replicate (size - length bytes) 0

-- write: one block, filled up
abbrev pub written : Pool → ℕ → ℕ → List ℕ → DatedState → Result DatedState Refusal
written pool k i bytes head =
    let size = size_at (head.state k) in
    applied pool (At k (Write (i * size) 0 (filled size bytes)) ∷ []) head >>= λ after.
    in_indices (i + 1) (Ok after)

-- punch: holes in a range of indices
abbrev pub punched : Pool → ℕ → ℕ → ℕ → DatedState → Result DatedState Refusal
punched pool k first count head =
    let size = size_at (head.state k) in
    applied pool (At k (Free (first * size) (count * size)) ∷ []) head >>= λ after.
    in_indices (first + count) (Ok after)

-- the guid of the pool's next snapshot
abbrev pub next_guid : Pool → ℕ
next_guid pool = pool.id * 2 ^ 32 + (pool.guids + 1)

-- snapshot: the head as it is, with the commit's number and the next guid
abbrev pub snapshot_of : ℕ → List ℕ → Pool → Dataset → Snapshot
snapshot_of now name pool dataset = record { name = name; guid = next_guid pool; time = now; number = pool.number + 1; objects = dataset.head; redact = dataset.redact }

abbrev pub with_snapshot : ℕ → List ℕ → Pool → Result Stepped Refusal
with_snapshot now name pool =
    on_dataset (dataset_of 64 name) pool (λ dataset.
    unless (is_some (snapshot_named name pool)) (exists_already (names.Snapshot name))
    (limited quantities.Snapshots most_snapshots (length pool.snapshots + length pool.partials + 1)
    (limited quantities.Guids last_guid (pool.guids + 1)
    (committed (record pool { guids = pool.guids + 1; snapshots = inserted snapshot_is_before (snapshot_of now name pool dataset) pool.snapshots })))))

-- clone: a dataset whose head is the snapshot's objects with their dates, of the kind of the snapshot's dataset and with the snapshot's redaction guids
abbrev pub clone_of : List ℕ → Dataset → Snapshot → Dataset
clone_of name source snapshot = record { name = name; kind = source.kind; origin = Some snapshot.name; head = snapshot.objects; redact = snapshot.redact }

abbrev pub with_clone : List ℕ → List ℕ → Pool → Result Stepped Refusal
with_clone origin name pool =
    or_else (no_such (names.Snapshot origin)) (snapshot_named origin pool) (λ snapshot.
    or_else (no_such (names.Dataset (dataset_of_snapshot snapshot))) (dataset_named (dataset_of_snapshot snapshot) pool) (λ source.
    with_dataset (clone_of name source snapshot) pool))

-- bookmark: a snapshot's guid, time and number, of the same dataset
abbrev pub bookmark_of : List ℕ → Snapshot → Bookmark
bookmark_of name snapshot = record { name = name; guid = snapshot.guid; time = snapshot.time; number = snapshot.number; redact = []; runs = [] }

abbrev pub with_bookmark : List ℕ → List ℕ → Pool → Result Stepped Refusal
with_bookmark of_snapshot name pool =
    or_else (no_such (names.Snapshot of_snapshot)) (snapshot_named of_snapshot pool) (λ snapshot.
    unless (not (bytes_eq (dataset_of_snapshot snapshot) (dataset_of 35 name))) (not_ancestor (names.Bookmark name) (names.Snapshot of_snapshot))
    (unless (is_some (bookmark_named name pool)) (exists_already (names.Bookmark name))
    (limited quantities.Bookmarks most_bookmarks (length pool.bookmarks + 1)
    (committed (record pool { bookmarks = inserted (λ a b. is_before a.name b.name) (bookmark_of name snapshot) pool.bookmarks })))))

-- ---- redaction

-- a guid among rising ones, in its place, once
abbrev pub with_guid : ℕ → List ℕ → List ℕ
with_guid guid [] = guid ∷ []
with_guid guid (next ∷ rest) = if nat_lt guid next then guid ∷ next ∷ rest else (if guid == next then next ∷ rest else next ∷ with_guid guid rest)

-- the guids of some snapshots, rising; equal ones count once
abbrev pub guids_of : List Snapshot → List ℕ
guids_of [] = []
guids_of (snapshot ∷ rest) = with_guid snapshot.guid (guids_of rest)

-- the snapshots of these names: E3 of the first that is absent
abbrev pub find_each : List (List ℕ) → Pool → Result (List Snapshot) Refusal
find_each [] pool = Ok []
find_each (name ∷ rest) pool =
    or_else (no_such (names.Snapshot name)) (snapshot_named name pool) (λ snapshot. find_each rest pool >>= λ others. Ok (snapshot ∷ others))

-- E8: the snapshot doesn't stand before this one
abbrev pub not_descendant : Snapshot → Refusal
not_descendant redaction = refusals.Plan (plans.NotDescendant redaction.name)

-- E19: what is redacted already isn't redacted once more
abbrev pub relayed : Refusal
relayed = refusals.Plan (plans.Unsupported lacks.Relay)

-- a redaction bookmark: a snapshot's guid, time and number, the guids of the redaction snapshots, and what they leave of it
abbrev pub redaction_of : List ℕ → Snapshot → List Snapshot → Bookmark
redaction_of name snapshot redactions = record {
  name = name;
  guid = snapshot.guid;
  time = snapshot.time;
  number = snapshot.number;
  redact = guids_of redactions;
  runs = runs_of (red_set snapshot.objects.state snapshot.number (objects_of redactions));
}

-- redact (zfs-redact(8)): E3 of the snapshot, then of the first redaction snapshot that is absent, E6, E4, E19, E8 of the first that doesn't come of the snapshot, E23 of bookmarks, then of runs
abbrev pub with_redaction : List ℕ → List ℕ → List (List ℕ) → Pool → Result Stepped Refusal
with_redaction of_snapshot name kept pool =
    or_else (no_such (names.Snapshot of_snapshot)) (snapshot_named of_snapshot pool) (λ snapshot.
    find_each kept pool >>= λ redactions.
    unless (not (bytes_eq (dataset_of_snapshot snapshot) (dataset_of 35 name))) (not_ancestor (names.Bookmark name) (names.Snapshot of_snapshot))
    (unless (is_some (bookmark_named name pool)) (exists_already (names.Bookmark name))
    (unless (has_guids snapshot.redact) relayed
    (unless_there not_descendant (find (λ redaction. not (comes_before pool (OfSnapshot snapshot) redaction)) redactions)
    (limited quantities.Bookmarks most_bookmarks (length pool.bookmarks + 1)
    (let row = redaction_of name snapshot redactions in
    limited quantities.Runs most_runs (length row.runs)
    (committed (record pool { bookmarks = inserted (λ a b. is_before a.name b.name) row pool.bookmarks }))))))))

-- ---- what goes, and what holds it

-- whether a name that may be none is that of one of these snapshots
abbrev pub is_one_of : List Snapshot → Option (List ℕ) → Bool
is_one_of snapshots None = false
is_one_of snapshots (Some name) = list_any (λ snapshot. bytes_eq snapshot.name name) snapshots

-- the session that holds one of these snapshots, with the least id
abbrev pub session_of_one : List Snapshot → List Held → Option ℕ
session_of_one snapshots held = least_id (λ one. list_any (λ snapshot. has_named (names.Snapshot snapshot.name) one) snapshots) held

-- E5 of snapshots that are to go: a partial state that has one of them as its base, or is such a one besides; then a clone of one of them. Both stand by name, so that the first has the least.
abbrev pub unless_used : {A : Type 0} → (Partial → Bool) → List Snapshot → Pool → Result A Refusal → Result A Refusal
unless_used is_such gone pool rest =
    unless_there (λ partial. busy_partial partial.target) (find (λ partial. is_such partial || is_one_of gone partial.base) pool.partials)
    (unless_there (λ dataset. busy_clone dataset.name) (find (λ dataset. is_one_of gone dataset.origin) pool.datasets) rest)

-- whether a snapshot, or a bookmark, of the same dataset is newer than a snapshot
abbrev pub is_newer : Snapshot → Snapshot → Bool
is_newer snapshot other = bytes_eq (dataset_of_snapshot other) (dataset_of_snapshot snapshot) && nat_lt snapshot.number other.number

abbrev pub is_newer_bookmark : Snapshot → Bookmark → Bool
is_newer_bookmark snapshot other = bytes_eq (dataset_of_bookmark other) (dataset_of_snapshot snapshot) && nat_lt snapshot.number other.number

abbrev pub newer_snapshots : Snapshot → Pool → List Snapshot
newer_snapshots snapshot pool = filter (is_newer snapshot) pool.snapshots

-- the lesser of a name and another, where there is another; and the least of some names
abbrev pub lesser_name : List ℕ → Option (List ℕ) → List ℕ
lesser_name name None = name
lesser_name name (Some other) = if is_before other name then other else name

abbrev pub least_name : List (List ℕ) → Option (List ℕ)
least_name [] = None
least_name (name ∷ rest) = Some (lesser_name name (least_name rest))

-- the snapshots that a rollback destroys: with -r those that are newer
abbrev pub destroyed_by : Bool → Snapshot → Pool → List Snapshot
destroyed_by false snapshot pool = []
destroyed_by true snapshot pool = newer_snapshots snapshot pool

-- E5 of a rollback without -r: a bookmark that is newer, or else a snapshot
abbrev pub unless_newer : {A : Type 0} → Bool → Snapshot → Pool → Result A Refusal → Result A Refusal
unless_newer true snapshot pool rest = rest
unless_newer false snapshot pool rest =
    unless_there (λ bookmark. busy_bookmark bookmark.name) (find (is_newer_bookmark snapshot) pool.bookmarks)
    (unless_there busy_snapshot (least_name (map (λ other. other.name) (newer_snapshots snapshot pool))) rest)

-- a dataset whose head is as a snapshot: its objects with their dates, and its redaction guids
abbrev pub rolled_to : Snapshot → Dataset → Dataset
rolled_to snapshot dataset = record dataset { head = snapshot.objects; redact = snapshot.redact }

-- a pool with the head of a snapshot's dataset as that, and without what is newer
abbrev pub rolled_back : Snapshot → Pool → Pool
rolled_back snapshot pool = record pool {
  datasets = map (λ dataset. if bytes_eq dataset.name (dataset_of_snapshot snapshot) then rolled_to snapshot dataset else dataset) pool.datasets;
  snapshots = filter (λ other. not (is_newer snapshot other)) pool.snapshots;
  bookmarks = filter (λ other. not (is_newer_bookmark snapshot other)) pool.bookmarks;
}

-- rollback, with -r or without
abbrev pub with_rollback : List Held → Bool → List ℕ → Pool → Result Stepped Refusal
with_rollback held destroys name pool =
    or_else (no_such (names.Snapshot name)) (snapshot_named name pool) (λ snapshot.
    let gone = destroyed_by destroys snapshot pool in
    unless_busy (session_of_one gone held)
    (unless_used (λ partial. bytes_eq partial.target (dataset_of_snapshot snapshot)) gone pool
    (unless_newer destroys snapshot pool
    (committed (rolled_back snapshot pool)))))

-- whether a snapshot, or a bookmark, is of the dataset of this name
abbrev pub is_of : List ℕ → Snapshot → Bool
is_of name snapshot = bytes_eq (dataset_of_snapshot snapshot) name

abbrev pub is_bookmark_of : List ℕ → Bookmark → Bool
is_bookmark_of name bookmark = bytes_eq (dataset_of_bookmark bookmark) name

-- a pool without a dataset, its snapshots and its bookmarks; without a snapshot; without a bookmark
abbrev pub without_dataset : List ℕ → Pool → Pool
without_dataset name pool = record pool {
  datasets = filter (λ dataset. not (bytes_eq dataset.name name)) pool.datasets;
  snapshots = filter (λ snapshot. not (is_of name snapshot)) pool.snapshots;
  bookmarks = filter (λ bookmark. not (is_bookmark_of name bookmark)) pool.bookmarks;
}

abbrev pub without_snapshot : List ℕ → Pool → Pool
without_snapshot name pool = record pool { snapshots = filter (λ snapshot. not (bytes_eq snapshot.name name)) pool.snapshots }

abbrev pub without_bookmark : List ℕ → Pool → Pool
without_bookmark name pool = record pool { bookmarks = filter (λ bookmark. not (bytes_eq bookmark.name name)) pool.bookmarks }

-- destroy: a dataset, a snapshot or a bookmark; a dataset is held by its partial state too
abbrev pub with_destroyed : List Held → Name → Pool → Result Stepped Refusal
with_destroyed held (names.Dataset name) pool =
    or_else (no_such (names.Dataset name)) (dataset_named name pool) (λ dataset.
    unless_busy (session_with (names.Dataset name) held)
    (unless_used (λ partial. bytes_eq partial.target name) (filter (is_of name) pool.snapshots) pool
    (committed (without_dataset name pool))))
with_destroyed held (names.Snapshot name) pool =
    or_else (no_such (names.Snapshot name)) (snapshot_named name pool) (λ snapshot.
    unless_busy (session_with (names.Snapshot name) held)
    (unless_used (λ partial. false) (snapshot ∷ []) pool
    (committed (without_snapshot name pool))))
with_destroyed held (names.Bookmark name) pool =
    or_else (no_such (names.Bookmark name)) (bookmark_named name pool) (λ bookmark.
    committed (without_bookmark name pool))

-- a pool without the partial state of this target; all else, the target with it, stays
abbrev pub without_partial : List ℕ → Pool → Pool
without_partial target pool = record pool { partials = filter (λ partial. not (bytes_eq partial.target target)) pool.partials }

-- abort: a partial state is given up (zfs-receive(8), -A). Of what sessions have, a receive into it alone counts: a send from its target doesn't.
abbrev pub with_aborted : List Held → List ℕ → Pool → Result Stepped Refusal
with_aborted held target pool =
    or_else (no_partial target) (partial_of target pool) (λ partial.
    unless_busy (session_into target held)
    (committed (without_partial target pool)))

-- the state of a dataset's head, or of a snapshot; a bookmark has none
abbrev pub state_named : Name → Pool → Option DatedState
state_named (names.Dataset name) pool = option_map (λ dataset. dataset.head) (dataset_named name pool)
state_named (names.Snapshot name) pool = option_map (λ snapshot. snapshot.objects) (snapshot_named name pool)
state_named (names.Bookmark name) pool = None

-- an answer that commits nothing
abbrev pub answered : Pool → List (List ℕ) → Result Stepped Refusal
answered pool lines = Ok (record { reply = lines; pool = pool })

-- read: a block's bytes, or that it is a hole; a redacted block is refused
abbrev pub block_read : Pool → ℕ → ℕ → Block → Result Stepped Refusal
block_read pool k i Redacted = Err (refusals.Redacted k i)
block_read pool k i Hole = in_indices (i + 1) (answered pool (codes "hole" ∷ []))
block_read pool k i (Data bytes) = in_indices (i + 1) (answered pool (data_line bytes ∷ []))

-- What a command makes of a pool at this time, while sessions hold and claim this. Rollback, destroy and abort alone look at what is held:
-- E5 of a session is for those that drop a dataset, a snapshot or a partial state. A reclaim leaves the pool as it is but for its number,
-- as which sectors of its image are free is no part of what a pool is; and as it drops nothing, it doesn't matter to it what sessions have.
unfoldable pub stepped : (held : List Held) → (now : ℕ) → Command → Pool → Result Stepped Refusal
stepped held now (commands.Fs dataset) pool = with_dataset (new_dataset 2 dataset) pool
stepped held now (commands.Volume dataset) pool = with_dataset (new_dataset 3 dataset) pool
stepped held now (commands.Object dataset k head bonus spill) pool =
    on_head dataset pool (λ d. in_numbers (k + 1) (applied pool (map (At k) (Put head bonus false 0 ∷ spill_change spill)) d))
stepped held now (commands.Write dataset k i bytes) pool = on_head dataset pool (written pool k i bytes)
stepped held now (commands.Punch dataset k first count) pool = on_head dataset pool (punched pool k first count)
stepped held now (commands.Free dataset first count) pool =
    on_head dataset pool (λ d. in_numbers (first + count) (applied pool (FreeObjects first count ∷ []) d))
stepped held now (commands.Snapshot name) pool = with_snapshot now name pool
stepped held now (commands.Clone origin dataset) pool = with_clone origin dataset pool
stepped held now (commands.Bookmark snapshot bookmark) pool = with_bookmark snapshot bookmark pool
stepped held now (commands.Redact snapshot bookmark redactions) pool = with_redaction snapshot bookmark redactions pool
stepped held now (commands.Rollback destroys snapshot) pool = with_rollback held destroys snapshot pool
stepped held now (commands.Destroy name) pool = with_destroyed held name pool
stepped held now (commands.Abort dataset) pool = with_aborted held dataset pool
stepped held now commands.Reclaim pool = committed pool
stepped held now (commands.Read name k i) pool =
    or_else (no_such name) (state_named name pool) (λ snap.
    or_else (cannot_apply NoObject) (snap.state k) (λ object.
    block_read pool k i (object.blocks i)))
stepped held now commands.List pool = answered pool (pool_lines pool)
stepped held now (commands.ListObjects name) pool = or_else (no_such name) (state_named name pool) (λ snap. answered pool (object_lines snap))

-- a command that commits: each but those that only tell what is there
abbrev pub commits : Command → Bool
commits (commands.Fs dataset) = true
commits (commands.Volume dataset) = true
commits (commands.Object dataset k head bonus spill) = true
commits (commands.Write dataset k i bytes) = true
commits (commands.Punch dataset k first count) = true
commits (commands.Free dataset first count) = true
commits (commands.Snapshot name) = true
commits (commands.Clone origin dataset) = true
commits (commands.Bookmark snapshot bookmark) = true
commits (commands.Redact snapshot bookmark redactions) = true
commits (commands.Rollback destroys snapshot) = true
commits (commands.Destroy name) = true
commits (commands.Abort dataset) = true
commits commands.Reclaim = true
commits (commands.Read name k i) = false
commits commands.List = false
commits (commands.ListObjects name) = false
