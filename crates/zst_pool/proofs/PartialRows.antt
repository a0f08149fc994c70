-- What a receive and a command make of rows.
use Rattle.std.proofs.Common.{◌≡◌, ◌≢◌, ℕ, ◌&&◌, Bool, true, false, cond, not, List, [], ◌∷◌, filter, Option, Some, None, IfSome, if◌then◌else◌, get_or, sym, ap, ◌∙◌, subst, refl}
use Rattle.std.specs.List.{All, Contains}
use Rattle.std.specs.Str.{bytes_eq}
use Rattle.std.proofs.lemmas.Bool.{true≢false}
use Rattle.std.proofs.lemmas.List.Elements.{filter_passes}
use Rattle.std.proofs.lemmas.Slice.Eq.{bytes_eq-Decides}
use Rattle.zst_names.specs.Names.{dataset_of}
use Rattle.zst_model.specs.declared.pools.command.Command.{Command}
use Rattle.zst_model.specs.declared.pools.command.Command.TheVariants as commands
use Rattle.zst_model.specs.pools.Pool.{Pool, is_before, inserted}
use Rattle.zst_model.specs.pools.Pool as plain
use Rattle.zst_model.specs.pools.KeptPool.{kept_of}
use Rattle.zst_model.specs.pools.Step.{commits}
use Rattle.zst_tree.specs.Indices.{Blocks}
use Rattle.zst_dir.specs.Rows.{Rows, HasSnapshot, is_for, is_unkept_for, with_objects_at, with_partial}
use Rattle.zst_dir.specs.declared.rows.Dataset.{Dataset}
use Rattle.zst_dir.specs.declared.rows.Snapshot.{Snapshot}
use Rattle.zst_dir.specs.declared.rows.Partial.{Partial}
use Rattle.zst_pool.specs.PartialRows.{latest_row, rolled_rows, rows_after, rows_with_partial}
use Rattle.zst_pool.specs.Partials.{changed_at, latest_snapshot, partials_of_others, rolled, rolled_back, rolled_to}
use Rattle.zst_pool.specs.Partials as plains
use Rattle.zst_dir.specs.RowNames.{Match}
use Rattle.zst_image.specs.Reads.{DatasetIs, SnapshotIs, PartialIs, RunsBy, kept_rows}
use Rattle.zst_pool.proofs.LastElements.{last-Match}
use Rattle.zst_dir.proofs.Matches.{filter-Match, inserted-Match, map-Match, FoundAlike}

-- once those of a target are left out, none has it
pub none_for : (target : List ℕ) (partials : List Partial) → All (λ other. other.target ≢ target) (filter (λ other. not (is_for target other)) partials)
none_for target partials k d below same =
    let other = λ (partial : Partial). not (is_for target partial) in
    let row = get_or (filter other partials) k d in
    true≢false (sym (filter_passes other partials k d below) ∙ ap not ((bytes_eq-Decides row.target target).1 same))

-- where the snapshots stay, one that is there still is, and one that isn't still isn't
pub has_snapshot_still : (rows next : Rows) (name : Option (List ℕ)) → next.snapshots ≡ rows.snapshots → IfSome name (HasSnapshot rows) → IfSome name (HasSnapshot next)
has_snapshot_still rows next None same has = tt
has_snapshot_still rows next (Some name) same has = (has.0, subst (λ (l : _). Contains l has.0) (sym same) has.1, has.2)

module _ (has : Blocks) where
  -- a dataset with the objects and the redaction guids of a snapshot
  pub objects_at_is : {bound : Option ℕ} (name : List ℕ) (row : Snapshot) (snapshot : plain.Snapshot) (x : Dataset) (y : plain.Dataset) → SnapshotIs bound has row snapshot → DatasetIs bound has x y
      → DatasetIs bound has (with_objects_at name row.objects row.redact x) (changed_at name (rolled_to snapshot) y)
  objects_at_is {bound = bound} name row snapshot x y of is =
      subst (λ (n : List ℕ). DatasetIs bound has (with_objects_at name row.objects row.redact x) (if bytes_eq n name then rolled_to snapshot y else y)) (sym is.named.name) (go (bytes_eq x.name name))
    where
      go : (b : Bool) → DatasetIs bound has (if b then record x { head = row.objects; redact = row.redact } else x) (if b then rolled_to snapshot y else y)
      go true = record { named = record { name = is.named.name; kind = is.named.kind; origin = is.named.origin; redact = of.named.redact }; head = of.objects }
      go false = is

  module _ {bound : Option ℕ} (rows : Rows) (running : Pool) (runs : RunsBy bound has rows running) where
    -- the datasets of which one is rolled back
    rolled_match : (name : List ℕ) → Match (DatasetIs bound has) (rolled_rows name (latest_row name rows) rows.datasets) (rolled_back name running)
    rolled_match name =
        go (latest_row name rows) (latest_snapshot name running)
        (last-Match (SnapshotIs bound has) (λ s. bytes_eq (dataset_of 64 s.name) name) (λ s. bytes_eq (dataset_of 64 s.name) name) (λ x y is. ap (λ (n : List ℕ). bytes_eq (dataset_of 64 n) name) (sym is.named.name))
        rows.snapshots running.snapshots runs.snapshots)
      where
        go : (o : Option Snapshot) (p : Option plain.Snapshot) → FoundAlike (SnapshotIs bound has) o p → Match (DatasetIs bound has) (rolled_rows name o rows.datasets) (rolled name p running.datasets)
        go None None is = runs.datasets
        go None (Some y) is = absurd is
        go (Some x) None is = absurd is
        go (Some x) (Some y) is =
            map-Match (DatasetIs bound has) (with_objects_at name x.objects x.redact) (changed_at name (rolled_to y)) (λ d e de. objects_at_is name x y d e is de) rows.datasets running.datasets runs.datasets

    module _ (row : Partial) (partial : plain.Partial) (is : PartialIs bound has row partial) where
      -- the partial states of other targets
      pub others_match : Match (PartialIs bound has) (filter (λ other. not (is_for row.target other)) rows.partials) (partials_of_others partial.target running)
      others_match =
          filter-Match (PartialIs bound has) (λ other. not (is_for row.target other)) (λ other. not (bytes_eq other.target partial.target))
          (λ x y xy. ap (λ (t : List ℕ). not (bytes_eq t row.target)) (sym xy.named.target) ∙ ap (λ (t : List ℕ). not (bytes_eq y.target t)) (sym is.named.target)) rows.partials running.partials runs.partials

      put_match : Match (PartialIs bound has) (with_partial row (filter (λ other. not (is_for row.target other)) rows.partials))
          (inserted (λ a b. is_before a.target b.target) partial (partials_of_others partial.target running))
      put_match =
          inserted-Match (PartialIs bound has) (λ a b. is_before a.target b.target) (λ a b. is_before a.target b.target) row partial
          (λ x y xy. ap (λ (t : List ℕ). is_before t x.target) (sym is.named.target) ∙ ap (λ (t : List ℕ). is_before partial.target t) (sym xy.named.target)) is
          (filter (λ other. not (is_for row.target other)) rows.partials) (partials_of_others partial.target running) others_match

      -- so the rows with a partial state stand for the pool with it
      pub partial_is_put : (roll : Bool) → RunsBy bound has (rows_with_partial roll row rows) (plains.with_partial roll partial running)
      partial_is_put true = record {
        datasets = subst (λ (t : List ℕ). Match (DatasetIs bound has) (rolled_rows row.target (latest_row row.target rows) rows.datasets) (rolled_back t running)) (sym is.named.target) (rolled_match row.target);
        snapshots = runs.snapshots;
        bookmarks = runs.bookmarks;
        partials = put_match;
      }
      partial_is_put false = record { datasets = runs.datasets; snapshots = runs.snapshots; bookmarks = runs.bookmarks; partials = put_match }

-- the rows without a partial state that isn't kept
pub unkept_dropped : {bound : Option ℕ} (has : Blocks) (rows : Rows) (running : Pool) (target : List ℕ) → RunsBy bound has rows running
    → RunsBy bound has (record rows { partials = filter (λ partial. not (is_unkept_for target partial)) rows.partials }) (plains.without_unkept target running)
unkept_dropped {bound = bound} has rows running target runs = record {
  datasets = runs.datasets;
  snapshots = runs.snapshots;
  bookmarks = runs.bookmarks;
  partials =
      filter-Match (PartialIs bound has) (λ partial. not (is_unkept_for target partial)) (λ partial. not (bytes_eq partial.target target && not partial.keep))
      (λ x y xy. ap (λ (t : List ℕ). not (bytes_eq t target && not x.keep)) (sym xy.named.target) ∙ ap (λ (k : Bool). not (bytes_eq y.target target && not k)) (sym xy.named.keep))
      rows.partials running.partials runs.partials;
}

-- what isn't kept is no part of what is
kept_left : {A : Type 0} (is_its keep : A → Bool) (xs : List A) → filter keep (filter (λ x. not (is_its x && not (keep x))) xs) ≡ filter keep xs
kept_left is_its keep [] = refl
kept_left {A = A} is_its keep (x ∷ xs) = go (is_its x) (keep x) refl (filter (λ y. not (is_its y && not (keep y))) xs) (kept_left is_its keep xs)
  where
    go : (b k : Bool) → keep x ≡ k → (left : List A) → filter keep left ≡ filter keep xs → filter keep (cond (not (b && not k)) (x ∷ left) left) ≡ cond k (x ∷ filter keep xs) (filter keep xs)
    go true true is left rest = ap (λ (t : Bool). cond t (x ∷ filter keep left) (filter keep left)) is ∙ ap (λ (l : List A). x ∷ l) rest
    go true false is left rest = rest
    go false true is left rest = ap (λ (t : Bool). cond t (x ∷ filter keep left) (filter keep left)) is ∙ ap (λ (l : List A). x ∷ l) rest
    go false false is left rest = ap (λ (t : Bool). cond t (x ∷ filter keep left) (filter keep left)) is ∙ rest

pub kept_stays : (target : List ℕ) (running : Pool) → kept_of (plains.without_unkept target running) ≡ kept_of running
kept_stays target running =
    ap (λ (l : List plain.Partial). record running { partials = l }) (kept_left (λ (partial : plain.Partial). bytes_eq partial.target target) (λ (partial : plain.Partial). partial.keep) running.partials)

-- nor of the rows that last
pub kept_rows_stay : (target : List ℕ) (rows : Rows) → kept_rows (record rows { partials = filter (λ partial. not (is_unkept_for target partial)) rows.partials }) ≡ kept_rows rows
kept_rows_stay target rows = ap (λ (l : List Partial). record rows { partials = l }) (kept_left (λ (partial : Partial). bytes_eq partial.target target) (λ (partial : Partial). partial.keep) rows.partials)

-- a command that only answers touches no partial state
pub rows_stay : (command : Command) (rows : List Partial) → commits command ≡ false → rows_after command rows ≡ rows
rows_stay (commands.Abort target) rows idle = absurd (cc)
rows_stay command rows idle = refl
