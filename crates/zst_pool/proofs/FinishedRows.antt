-- What a receive makes of rows when it has all of its stream.
use Rattle.std.proofs.Common.{◌≡◌, ℕ, suc, ◌+◌, ◌||◌, Bool, true, false, List, [], ◌∷◌, ◌++◌, map, is_some, if◌then◌else◌, refl, sym, ap, ◌∙◌, subst, arith, Option}
use Rattle.std.specs.List.{Contains, list_any, position}
use Rattle.std.specs.Str.{bytes_eq}
use Rattle.std.proofs.lemmas.Bool.{false≢true}
use Rattle.std.proofs.lemmas.Slice.Eq.{bytes_eq-Decides}
use Rattle.zst_model.specs.declared.sends.header.Header.{Header}
use Rattle.zst_model.specs.pools.Pool.{Pool, is_before, inserted, dataset_named}
use Rattle.zst_model.specs.pools.Pool as plain
use Rattle.zst_model.proofs.InsertedLaws.{contains-map, inserted_has_row}
use Rattle.zst_tree.specs.Indices.{Blocks}
use Rattle.zst_tree.specs.declared.tree.ObjSet.{ObjSet}
use Rattle.zst_dir.specs.Rows.{Rows, HasDataset, with_objects, with_objects_at}
use Rattle.zst_dir.specs.Rows as dir_rows
use Rattle.zst_dir.specs.declared.rows.Dataset.{Dataset}
use Rattle.zst_dir.specs.declared.rows.Partial.{Partial}
use Rattle.zst_dir.specs.RowNames.{Match}
use Rattle.zst_image.specs.Reads.{DatasetIs, SnapshotIs, PartialIs, RunsBy}
use Rattle.zst_pool.specs.FinishedRows.{dataset_row_from, rows_with_finished, rows_with_target, snapshot_row_from}
use Rattle.zst_pool.specs.Partials.{changed_at, dataset_from, head_from, snapshot_from, with_finished}
use Rattle.zst_pool.proofs.LawfulPools.{stand_alike}
use Rattle.zst_dir.proofs.Matches.{inserted-Match, is_some-position, list_any-Match, map-Match}
use Rattle.zst_pool.proofs.PartialRows.{objects_at_is, others_match}

-- where one is found that has a name, it is there
has_name : (name : List ℕ) (rows : List Dataset) → list_any (λ d. bytes_eq d.name name) rows ≡ true → (d : Dataset) × Contains rows d × (d.name ≡ name)
has_name name [] some = absurd (false≢true some)
has_name name (row ∷ rows) some = go (bytes_eq row.name name) refl (has_name name rows) some
  where
    go : (b : Bool) → bytes_eq row.name name ≡ b → (list_any (λ d. bytes_eq d.name name) rows ≡ true → (d : Dataset) × Contains rows d × (d.name ≡ name))
        → (b || list_any (λ d. bytes_eq d.name name) rows) ≡ true → (d : Dataset) × Contains (row ∷ rows) d × (d.name ≡ name)
    go true is later some = (row, (0, omega arith, refl), (bytes_eq-Decides row.name name).0 is)
    go false is later some = let found = later some in (found.0, (suc found.1.0, omega (arith, found.1.1), found.1.2), found.2)

-- other objects leave a name
name_stays : (name : List ℕ) (head : ObjSet) (redact : List ℕ) (row : Dataset) → (with_objects_at name head redact row).name ≡ row.name
name_stays name head redact row = go (bytes_eq row.name name)
  where
    go : (b : Bool) → (if b then record row { head = head; redact = redact } else row).name ≡ row.name
    go true = refl
    go false = refl

-- the target is there afterwards
pub target_is_there : (partial : Partial) (rows : Rows) → HasDataset (record rows { datasets = rows_with_target partial rows.datasets }) partial.target
target_is_there partial rows = go (is_some (position (λ dataset. bytes_eq dataset.name partial.target) rows.datasets)) refl
  where
    change : Dataset → Dataset
    change = with_objects_at partial.target partial.objects partial.header.redact

    go : (b : Bool) → is_some (position (λ dataset. bytes_eq dataset.name partial.target) rows.datasets) ≡ b
        → (d : Dataset) × Contains (if b then map change rows.datasets else inserted (λ a b. is_before a.name b.name) (dataset_row_from partial) rows.datasets) d × (d.name ≡ partial.target)
    go true some =
        let found = has_name partial.target rows.datasets (sym (is_some-position (λ (dataset : Dataset). bytes_eq dataset.name partial.target) rows.datasets) ∙ some) in
        (change found.0, contains-map change rows.datasets found.0 found.1, name_stays partial.target partial.objects partial.header.redact found.0 ∙ found.2)
    go false none = (dataset_row_from partial, inserted_has_row (λ a b. is_before a.name b.name) (dataset_row_from partial) rows.datasets, refl)

module _ {bound : Option ℕ} (has : Blocks) (rows : Rows) (running : Pool) (runs : RunsBy bound has rows running) (row : Partial) (partial : plain.Partial) (is : PartialIs bound has row partial) where
  -- the rows of its snapshot and its dataset stand for these
  snapshot_is : (number : ℕ) → running.number + 1 ≡ number → SnapshotIs bound has (snapshot_row_from number row) (snapshot_from partial running)
  snapshot_is number next = record {
    named = record {
      name = ap (λ (t : List ℕ). t ++ 64 ∷ partial.component) is.named.target ∙ ap (λ (c : List ℕ). row.target ++ 64 ∷ c) is.named.component;
      guid = ap (λ (h : Header). h.to) is.named.header;
      time = ap (λ (h : Header). h.time) is.named.header;
      number = next;
      redact = ap (λ (h : Header). h.redact) is.named.header;
    };
    objects = is.objects;
  }

  dataset_is : DatasetIs bound has (dataset_row_from row) (dataset_from partial)
  dataset_is = record {
    named = record {
      name = is.named.target;
      kind = ap (λ (h : Header). h.kind) is.named.header;
      origin = is.named.base;
      redact = ap (λ (h : Header). h.redact) is.named.header;
    };
    head = is.objects;
  }

  -- the rows find the target where the pool does
  found_alike : is_some (position (λ dataset. bytes_eq dataset.name row.target) rows.datasets) ≡ is_some (dataset_named partial.target running)
  found_alike =
      is_some-position (λ (d : Dataset). bytes_eq d.name row.target) rows.datasets
      ∙ list_any-Match (DatasetIs bound has) (λ d. bytes_eq d.name row.target) (λ d. bytes_eq d.name row.target) (λ x y xy. ap (λ (n : List ℕ). bytes_eq n row.target) (sym xy.named.name))
      rows.datasets running.datasets runs.datasets
      ∙ ap (λ (t : List ℕ). is_some (dataset_named t running)) (sym is.named.target)

  changed_match : Match (DatasetIs bound has) (with_objects row.target row.objects row.header.redact rows.datasets) (map (changed_at partial.target (head_from partial)) running.datasets)
  changed_match =
      subst (λ (t : List ℕ). Match (DatasetIs bound has) (with_objects row.target row.objects row.header.redact rows.datasets) (map (changed_at t (head_from partial)) running.datasets)) (sym is.named.target)
      (map-Match (DatasetIs bound has) (with_objects_at row.target row.objects row.header.redact) (changed_at row.target (head_from partial))
      (λ x y xy. objects_at_is has row.target (snapshot_row_from (running.number + 1) row) (snapshot_from partial running) x y (snapshot_is (running.number + 1) refl) xy)
      rows.datasets running.datasets runs.datasets)

  made_match : Match (DatasetIs bound has) (inserted (λ a b. is_before a.name b.name) (dataset_row_from row) rows.datasets) (inserted (λ a b. is_before a.name b.name) (dataset_from partial) running.datasets)
  made_match =
      inserted-Match (DatasetIs bound has) (λ a b. is_before a.name b.name) (λ a b. is_before a.name b.name) (dataset_row_from row) (dataset_from partial)
      (λ x y xy. ap (λ (n : List ℕ). is_before n x.name) (sym is.named.target) ∙ ap (λ (n : List ℕ). is_before partial.target n) (sym xy.named.name)) dataset_is
      rows.datasets running.datasets runs.datasets

  targets_match : Match (DatasetIs bound has) (rows_with_target row rows.datasets) (with_finished partial running).datasets
  targets_match =
      subst (λ (b : Bool). Match (DatasetIs bound has) (rows_with_target row rows.datasets)
      (if b then map (changed_at partial.target (head_from partial)) running.datasets else inserted (λ a b. is_before a.name b.name) (dataset_from partial) running.datasets)) found_alike
      (go (is_some (position (λ dataset. bytes_eq dataset.name row.target) rows.datasets)))
    where
      go : (b : Bool) → Match (DatasetIs bound has) (if b then with_objects row.target row.objects row.header.redact rows.datasets else inserted (λ a b. is_before a.name b.name) (dataset_row_from row) rows.datasets)
          (if b then map (changed_at partial.target (head_from partial)) running.datasets else inserted (λ a b. is_before a.name b.name) (dataset_from partial) running.datasets)
      go true = changed_match
      go false = made_match

  -- so the rows with what a partial state becomes stand for the pool with it
  pub partial_is_finished : (number : ℕ) → running.number + 1 ≡ number → RunsBy bound has (rows_with_finished number row rows) (with_finished partial running)
  partial_is_finished number next = record {
    datasets = targets_match;
    snapshots =
        inserted-Match (SnapshotIs bound has) dir_rows.snapshot_is_before plain.snapshot_is_before (snapshot_row_from number row) (snapshot_from partial running)
        (λ x y xy. sym (stand_alike has x (snapshot_row_from number row) y (snapshot_from partial running) xy (snapshot_is number next))) (snapshot_is number next)
        rows.snapshots running.snapshots runs.snapshots;
    bookmarks = runs.bookmarks;
    partials = others_match has rows running runs row partial is;
  }
