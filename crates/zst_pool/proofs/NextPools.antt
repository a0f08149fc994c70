-- The rows of the next directory stand for the next pool.
use Rattle.std.proofs.Common.{◌≡◌, ℕ, ◌+◌, ◌*◌, ◌^◌, List, [], ◌∷◌, ◌++◌, ◌&&◌, ◌||◌, Bool, true, false, not, None, nat_lt, get_or, if◌then◌else◌, refl, sym, ap, ◌∙◌, subst, Option, Some, arith}
use Rattle.std.specs.List.{filter, list_any, All}
use Rattle.std.proofs.lemmas.List.Elements.{All-filter, filter_passes}
use Rattle.std.specs.Str.{bytes_eq}
use Rattle.std.proofs.lemmas.Bool.{true≢false}
use Rattle.std.proofs.lemmas.List.Folds.{list_any_at}
use Rattle.std.proofs.lemmas.Slice.Eq.{bytes_eq-Decides}
use Rattle.zst_names.specs.Names.{dataset_of}
use Rattle.zst_names.specs.Marks.{at_is_mark}
use Rattle.zst_names.proofs.MarkedNames.{join_is_name}
use Rattle.zst_image.specs.Bodies.{Body}
use Rattle.zst_model.specs.states.DatedState.{DatedState}
use Rattle.zst_model.specs.pools.Pool.{Pool, is_before, snapshot_is_before, inserted, untouched}
use Rattle.zst_model.specs.pools.Pool as plain
use Rattle.zst_model.specs.pools.Step.{new_dataset, with_head_at, snapshot_of}
use Rattle.zst_tree.specs.Sets as sets
use Rattle.zst_tree.specs.declared.tree.ObjSet.{ObjSet}
use Rattle.zst_pool.specs.Checks.{with_head_of, with_new, with_taken}
use Rattle.zst_pool.specs.RowChanges.{RunsAs}
use Rattle.zst_dir.specs.Rows.{Rows, IsPartialRow}
use Rattle.zst_dir.specs.Rows as dir_rows
use Rattle.zst_image.specs.Reads.{DatasetIs, RunsBy, SetIs, SnapshotIs, bound_of}
use Rattle.zst_image.specs.declared.pool_state.PoolState.{PoolState}
use Rattle.zst_tree.specs.Indices.{Blocks}
use Rattle.zst_objset.proofs.SetLaws.{empty}
use Rattle.zst_objset.proofs.TightLaws.{tight_empty}
use Rattle.zst_space.specs.FreeSectors.{FreeSectors}
use Rattle.zst_block.specs.Blocks.{Has}
use Rattle.zst_dir.specs.declared.rows.Dataset.{Dataset}
use Rattle.zst_dir.specs.declared.rows.Partial.{Partial}
use Rattle.zst_dir.specs.declared.rows.Snapshot.{Snapshot}
use Rattle.zst_dir.proofs.Matches.{inserted-Match, map-Match}

-- the row of a new dataset
abbrev pub new_row : ℕ → List ℕ → Dataset
new_row kind name = record { name = name; kind = kind; origin = None; head = sets.no_objects; redact = [] }

-- a set of no objects is known up to each number
empty_is : (bound : Option ℕ) (image : List ℕ) (space : FreeSectors) → SetIs bound (Has image space) sets.no_objects untouched
empty_is None image space = empty (Has image space)
empty_is (Some number) image space = (tight_empty image space, record { numbers = λ k. omega arith; indices = λ k i. omega arith })

pub new_row_is_new : (bound : Option ℕ) (image : List ℕ) (space : FreeSectors) (kind : ℕ) (name : List ℕ) → DatasetIs bound (Has image space) (new_row kind name) (new_dataset kind name)
new_row_is_new bound image space kind name = record {
  named = record { name = refl; kind = refl; origin = refl; redact = refl };
  head = empty_is bound image space;
}

-- the rows with that of a new dataset
pub dataset_runs : {bound : Option ℕ} (has : Blocks) (rows : Rows) (running : Pool) (row : Dataset) (dataset : plain.Dataset) → RunsBy bound has rows running → DatasetIs bound has row dataset
    → RunsBy bound has (record rows { datasets = inserted (λ a b. is_before a.name b.name) row rows.datasets }) (with_new dataset running)
dataset_runs {bound = bound} has rows running row dataset is new = record {
  datasets =
      inserted-Match (DatasetIs bound has) (λ a b. is_before a.name b.name) (λ a b. is_before a.name b.name) row dataset
      (λ x y matches. ap (λ (n : List ℕ). is_before n x.name) (sym new.named.name) ∙ ap (is_before dataset.name) (sym matches.named.name)) new rows.datasets running.datasets is.datasets;
  snapshots = is.snapshots;
  bookmarks = is.bookmarks;
  partials = is.partials;
}

-- the row of a new snapshot
abbrev pub taken_row : Body → ℕ → List ℕ → Dataset → Snapshot
taken_row body now name row = record { name = name; guid = body.uber.id * 2 ^ 32 + (body.uber.guids + 1); time = now; number = body.uber.number + 1; objects = row.head; redact = row.redact }

-- where a snapshot stands, by names and numbers
unfoldable pub stands_before : List ℕ → ℕ → List ℕ → ℕ → Bool
stands_before n k m l = is_before (dataset_of 64 n) (dataset_of 64 m) || (bytes_eq (dataset_of 64 n) (dataset_of 64 m) && nat_lt k l)

taken_row_is_taken : {tight : Bool} (has : Blocks) (kept : PoolState) (running : Pool) (now : ℕ) (name : List ℕ) (row : Dataset) (dataset : plain.Dataset)
    → RunsAs tight has kept running → DatasetIs (bound_of tight running.number) has row dataset → SnapshotIs (bound_of tight running.number) has (taken_row kept.body now name row) (snapshot_of now name running dataset)
taken_row_is_taken has kept running now name row dataset is matches = record {
  named = record {
    name = refl;
    guid = ap (λ i. i * 2 ^ 32 + (running.guids + 1)) is.id ∙ ap (λ g. kept.body.uber.id * 2 ^ 32 + (g + 1)) is.guids;
    time = refl;
    number = ap (λ n. n + 1) is.number;
    redact = matches.named.redact;
  };
  objects = matches.head;
}

taken_stands_alike : {bound : Option ℕ} (has : Blocks) (body : Body) (pool : Pool) (now : ℕ) (name : List ℕ) (row : Dataset) (dataset : plain.Dataset) (x : Snapshot) (y : plain.Snapshot)
    → pool.number ≡ body.uber.number → SnapshotIs bound has x y → dir_rows.snapshot_is_before (taken_row body now name row) x ≡ snapshot_is_before (snapshot_of now name pool dataset) y
unfolding stands_before
taken_stands_alike has body pool now name row dataset x y number is =
    ap (λ (k : ℕ). stands_before name (k + 1) x.name x.number) (sym number)
    ∙ ap (λ (n : List ℕ). stands_before name (pool.number + 1) n x.number) (sym is.named.name)
    ∙ ap (λ (k : ℕ). stands_before name (pool.number + 1) y.name k) (sym is.named.number)

-- the rows with that of a new snapshot
pub snapshot_runs : {tight : Bool} (has : Blocks) (kept : PoolState) (running : Pool) (now : ℕ) (name : List ℕ) (row : Dataset) (dataset : plain.Dataset) → RunsAs tight has kept running → DatasetIs (bound_of tight running.number) has row dataset
    → RunsBy (bound_of tight running.number) has (record kept.dir { snapshots = inserted dir_rows.snapshot_is_before (taken_row kept.body now name row) kept.dir.snapshots }) (with_taken now name dataset running)
snapshot_runs {tight = tight} has kept running now name row dataset is matches = record {
  datasets = is.runs_by.datasets;
  snapshots =
      inserted-Match (SnapshotIs (bound_of tight running.number) has) dir_rows.snapshot_is_before snapshot_is_before (taken_row kept.body now name row) (snapshot_of now name running dataset)
      (λ x y there. taken_stands_alike has kept.body running now name row dataset x y is.number there) (taken_row_is_taken has kept running now name row dataset is matches)
      kept.dir.snapshots running.snapshots is.runs_by.snapshots;
  bookmarks = is.runs_by.bookmarks;
  partials = is.runs_by.partials;
}

-- a dataset's partial state is left out where its names could meet
pub partials_are_apart : (rows : Rows) (name : List ℕ) → All IsPartialRow rows.partials
    → All (λ partial. partial.target ++ 64 ∷ partial.snapshot ≡ name → ⊥) (filter (λ partial. not (bytes_eq partial.target (dataset_of 64 name))) rows.partials)
partials_are_apart rows name lawful k d below same =
    let other = λ (partial : Partial). not (bytes_eq partial.target (dataset_of 64 name)) in
    let row = get_or (filter other rows.partials) k d in
    let is = All-filter other IsPartialRow rows.partials lawful k d below in
    let passes = filter_passes other rows.partials k d below in
    let back = (join_is_name 64 row.target row.snapshot at_is_mark is.target).dataset_back in
    let equal : bytes_eq row.target (dataset_of 64 name) ≡ true = (bytes_eq-Decides row.target (dataset_of 64 name)).1 (sym back ∙ ap (dataset_of 64) same) in
    true≢false (sym passes ∙ ap not equal)

-- where a dataset has no partial state, none is to become a snapshot of it
pub none_becomes : (rows : Rows) (name : List ℕ) → All IsPartialRow rows.partials → list_any (λ partial. bytes_eq partial.target (dataset_of 64 name)) rows.partials ≡ false
    → All (λ partial. partial.target ++ 64 ∷ partial.snapshot ≡ name → ⊥) rows.partials
none_becomes rows name lawful free k d below same =
    let row = get_or rows.partials k d in
    let is = lawful k d below in
    let back = (join_is_name 64 row.target row.snapshot at_is_mark is.target).dataset_back in
    let equal : bytes_eq row.target (dataset_of 64 name) ≡ true = (bytes_eq-Decides row.target (dataset_of 64 name)).1 (sym back ∙ ap (dataset_of 64) same) in
    true≢false (sym (list_any_at (λ (partial : Partial). bytes_eq partial.target (dataset_of 64 name)) rows.partials k d below equal) ∙ free)

-- a row with another head stands for the dataset with another head
head_at_is : {bound : Option ℕ} (has : Blocks) (name : List ℕ) (set : ObjSet) (head : DatedState) (x : Dataset) (y : plain.Dataset) → SetIs bound has set head → DatasetIs bound has x y
    → DatasetIs bound has (dir_rows.with_head_at name set x) (with_head_at name head y)
head_at_is {bound = bound} has name set head x y is_head is =
    subst (λ (n : List ℕ). DatasetIs bound has (dir_rows.with_head_at name set x) (if bytes_eq n name then record y { head = head } else y)) (sym is.named.name) (go (bytes_eq x.name name))
  where
    go : (b : Bool) → DatasetIs bound has (if b then record x { head = set } else x) (if b then record y { head = head } else y)
    go true = record { named = record { name = is.named.name; kind = is.named.kind; origin = is.named.origin; redact = is.named.redact }; head = is_head }
    go false = is

-- the rows with another head of a dataset
pub head_runs : {bound : Option ℕ} (has : Blocks) (rows : Rows) (running : Pool) (name : List ℕ) (set : ObjSet) (head : DatedState) → RunsBy bound has rows running → SetIs bound has set head
    → RunsBy bound has (record rows { datasets = dir_rows.with_head name set rows.datasets }) (with_head_of name head running)
head_runs {bound = bound} has rows running name set head is is_head = record {
  datasets =
      map-Match (DatasetIs bound has) (dir_rows.with_head_at name set) (with_head_at name head) (λ x y matches. head_at_is has name set head x y is_head matches)
      rows.datasets running.datasets is.datasets;
  snapshots = is.snapshots;
  bookmarks = is.bookmarks;
  partials = is.partials;
}
