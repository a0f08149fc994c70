-- What a receive makes of a pool that runs, with the partial states that last no longer than their sessions: it puts a partial state, finishes one, or drops one.
use Rattle.std.specs.Prelude.{ℕ, ◌+◌, Bool, List, [], ◌∷◌, ◌++◌, length, map, filter, not, ◌&&◌, Option, Some, None, is_some, Result, Ok, bytes_eq, if◌then◌else◌}
use Rattle.zst_model.specs.declared.refusals.faults.Quantity.TheVariants as quantities
use Rattle.zst_model.specs.declared.refusals.refusal.Refusal.{Refusal}
use Rattle.zst_model.specs.pools.Pool.{Pool, Dataset, Snapshot, Partial, dataset_of_snapshot, dataset_named, is_before, snapshot_is_before, inserted}
use Rattle.zst_model.specs.pools.Limits.{most_partials}
use Rattle.zst_model.specs.pools.Step.{limited, count_datasets, last_number, most_datasets, most_snapshots}

-- this pool as that of the next commit, or the first limit that it passes (E23)
abbrev pub next_commit : Pool → Result Pool Refusal
next_commit pool =
    limited quantities.Partials most_partials (length pool.partials)
    (limited quantities.Datasets most_datasets (count_datasets pool)
    (limited quantities.Snapshots most_snapshots (length pool.snapshots + length pool.partials)
    (limited quantities.Number last_number (pool.number + 1)
    (Ok (record pool { number = pool.number + 1 })))))

-- the last element that passes a test, or what was found before it
abbrev pub last_from : {A : Type 0} → (A → Bool) → Option A → List A → Option A
last_from test found [] = found
last_from test found (x ∷ xs) = last_from test (if test x then Some x else found) xs

-- the last element that passes a test
abbrev pub last_where : {A : Type 0} → (A → Bool) → List A → Option A
last_where test xs = last_from test None xs

-- the latest snapshot of a dataset: the last one in the order of the directory
abbrev pub latest_snapshot : List ℕ → Pool → Option Snapshot
latest_snapshot name pool = last_where (λ snapshot. bytes_eq (dataset_of_snapshot snapshot) name) pool.snapshots

-- a dataset changed so, where it has this name
abbrev pub changed_at : List ℕ → (Dataset → Dataset) → Dataset → Dataset
changed_at name change dataset = if bytes_eq dataset.name name then change dataset else dataset

-- a head as its latest snapshot: that one's objects with their dates, and its redaction guids
abbrev pub rolled_to : Snapshot → Dataset → Dataset
rolled_to snapshot dataset = record dataset { head = snapshot.objects; redact = snapshot.redact }

-- the datasets, of which the one of this name is as this snapshot, where there is one
abbrev pub rolled : List ℕ → Option Snapshot → List Dataset → List Dataset
rolled name None datasets = datasets
rolled name (Some snapshot) datasets = map (changed_at name (rolled_to snapshot)) datasets

-- the datasets of a pool, of which one is rolled back to its latest snapshot
abbrev pub rolled_back : List ℕ → Pool → List Dataset
rolled_back name pool = rolled name (latest_snapshot name pool) pool.datasets

-- the partial states of other targets
abbrev pub partials_of_others : List ℕ → Pool → List Partial
partials_of_others target pool = filter (λ partial. not (bytes_eq partial.target target)) pool.partials

-- a pool with this partial state in place of its target's, and where it is asked for with the target's head rolled back
abbrev pub with_partial : Bool → Partial → Pool → Pool
with_partial roll partial pool = record pool {
  datasets = if roll then rolled_back partial.target pool else pool.datasets;
  partials = inserted (λ a b. is_before a.target b.target) partial (partials_of_others partial.target pool);
}

-- a receive commits what it has so far
abbrev pub partial_put : Bool → Partial → Pool → Result Pool Refusal
partial_put roll partial pool = next_commit (with_partial roll partial pool)

-- the snapshot that a partial state becomes: it has the commit's number, and the rest from the stream
abbrev pub snapshot_from : Partial → Pool → Snapshot
snapshot_from partial pool = record {
  name = partial.target ++ 64 ∷ partial.component;
  guid = partial.header.to;
  time = partial.header.time;
  number = pool.number + 1;
  objects = partial.objects;
  redact = partial.header.redact;
}

-- the dataset that one of an absent target makes: a clone of its base where it has one
abbrev pub dataset_from : Partial → Dataset
dataset_from partial = record { name = partial.target; kind = partial.header.kind; origin = partial.base; head = partial.objects; redact = partial.header.redact }

-- the head of a target that is there: its objects and redaction guids are the stream's
abbrev pub head_from : Partial → Dataset → Dataset
head_from partial dataset = record dataset { head = partial.objects; redact = partial.header.redact }

-- a pool with the snapshot and the head that a partial state becomes, and without that
abbrev pub with_finished : Partial → Pool → Pool
with_finished partial pool = record pool {
  datasets = if is_some (dataset_named partial.target pool) then map (changed_at partial.target (head_from partial)) pool.datasets else inserted (λ a b. is_before a.name b.name) (dataset_from partial) pool.datasets;
  snapshots = inserted snapshot_is_before (snapshot_from partial pool) pool.snapshots;
  partials = partials_of_others partial.target pool;
}

-- a receive commits all of its stream
abbrev pub partial_finished : Partial → Pool → Result Pool Refusal
partial_finished partial pool = next_commit (with_finished partial pool)

-- a session ended without keeping its partial state
abbrev pub without_unkept : List ℕ → Pool → Pool
without_unkept target pool = record pool { partials = filter (λ partial. not (bytes_eq partial.target target && not partial.keep)) pool.partials }
