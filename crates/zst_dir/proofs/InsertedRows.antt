-- A lawful directory with a row put in its place.
use Rattle.std.proofs.Common.{inl, inr, ◌≡◌, ◌≢◌, ℕ, Bool, List, ◌∷◌, ◌++◌, IfSome, sym, ap, ◌∙◌}
use Rattle.std.specs.List.{All, Contains, insert, position_or_len}
use Rattle.std.proofs.lemmas.List.Elements.{All-weaker, All-contains}
use Rattle.std.proofs.lemmas.Option.{IfSome_then}
use Rattle.zst_names.specs.Names.{dataset_of}
use Rattle.zst_model.specs.pools.Pool.{is_before, inserted}
use Rattle.zst_model.proofs.InsertedLaws.{inserted-place, All-from_contains, contains-inserted, inserted_has_rest, All-inserted}
use Rattle.zst_model.proofs.OrderLaws.{names_differ-inserted, names_rise-inserted, rows_rise-inserted}
use Rattle.zst_dir.specs.Rows.{Rows, snapshot_is_before, with_partial, HasDataset, HasSnapshot, IsBookmarkRow, IsDatasetRow, IsSnapshotRow, IsPartialRow, IsLawful}
use Rattle.zst_dir.specs.declared.rows.Dataset.{Dataset}
use Rattle.zst_dir.specs.declared.rows.Snapshot.{Snapshot}
use Rattle.zst_dir.specs.declared.rows.Bookmark.{Bookmark}
use Rattle.zst_dir.specs.declared.rows.Partial.{Partial}

-- a row put at the place that was found for it
pub at_place : {A : Type 0} (comes_before : A → A → Bool) (row : A) (olds seen news : List A) (place : ℕ) → seen ≡ olds
    → place ≡ position_or_len (comes_before row) seen → news ≡ insert olds place row → news ≡ inserted comes_before row olds
at_place comes_before row olds seen news place same found is =
    is ∙ ap (λ (n : ℕ). insert olds n row) (found ∙ ap (position_or_len (comes_before row)) same) ∙ sym (inserted-place comes_before row olds)

-- the dataset of a snapshot
abbrev pub of_snapshot : Snapshot → List ℕ
of_snapshot snapshot = dataset_of 64 snapshot.name

-- a lawful directory with a new dataset
pub dataset_added : (rows : Rows) (row : Dataset) → IsLawful rows → IsDatasetRow row → (HasDataset rows row.name → ⊥) → IfSome row.origin (HasSnapshot rows)
    → IsLawful (record rows { datasets = inserted (λ a b. is_before a.name b.name) row rows.datasets })
dataset_added rows row lawful is_row absent origin =
    let by_name = λ (a b : Dataset). is_before a.name b.name in
    let differs : (x : Dataset) → Contains rows.datasets x → x.name ≢ row.name = λ x there e. absent (x, there, e) in
    let added = record rows { datasets = inserted by_name row rows.datasets } in
    let more : (n : List ℕ) → HasDataset rows n → HasDataset added n = λ n h. (h.0, inserted_has_rest by_name row rows.datasets h.0 h.1, h.2) in
    record {
      ordered = record {
        datasets = names_rise-inserted (λ (d : Dataset). d.name) row rows.datasets differs lawful.ordered.datasets;
        snapshots = lawful.ordered.snapshots;
        snapshots_differ = lawful.ordered.snapshots_differ;
        bookmarks = lawful.ordered.bookmarks;
        partials = lawful.ordered.partials;
      };
      linked = record {
        snapshots =
            All-weaker (λ s. HasDataset rows (of_snapshot s)) (λ s. HasDataset added (of_snapshot s)) (λ s. more (of_snapshot s))
            rows.snapshots lawful.linked.snapshots;
        origins = All-inserted (λ d. IfSome d.origin (HasSnapshot rows)) by_name row rows.datasets origin lawful.linked.origins;
        bases = lawful.linked.bases;
        components = lawful.linked.components;
      };
      datasets = All-inserted IsDatasetRow by_name row rows.datasets is_row lawful.datasets;
      snapshots = lawful.snapshots;
      bookmarks = lawful.bookmarks;
      partials = lawful.partials;
    }

-- a lawful directory with a new snapshot
pub snapshot_added : (rows : Rows) (row : Snapshot) → IsLawful rows → IsSnapshotRow row → (HasSnapshot rows row.name → ⊥) → HasDataset rows (dataset_of 64 row.name)
    → All (λ partial. partial.target ++ 64 ∷ partial.snapshot ≢ row.name) rows.partials
    → IsLawful (record rows { snapshots = inserted snapshot_is_before row rows.snapshots })
snapshot_added rows row lawful is_row absent dataset component =
    let olds = rows.snapshots in
    let differs : (x : Snapshot) → Contains olds x → x.name ≢ row.name = λ x there e. absent (x, there, e) in
    let added = record rows { snapshots = inserted snapshot_is_before row olds } in
    let more : (n : List ℕ) → HasSnapshot rows n → HasSnapshot added n = λ n h. (h.0, inserted_has_rest snapshot_is_before row olds h.0 h.1, h.2) in
    record {
      ordered = record {
        datasets = lawful.ordered.datasets;
        snapshots = rows_rise-inserted of_snapshot (λ s. s.number) row olds lawful.ordered.snapshots;
        snapshots_differ = names_differ-inserted (λ (s : Snapshot). s.name) snapshot_is_before row olds differs lawful.ordered.snapshots_differ;
        bookmarks = lawful.ordered.bookmarks;
        partials = lawful.ordered.partials;
      };
      linked = record {
        snapshots = All-inserted (λ s. HasDataset rows (of_snapshot s)) snapshot_is_before row olds dataset lawful.linked.snapshots;
        origins =
            All-weaker (λ d. IfSome d.origin (HasSnapshot rows)) (λ d. IfSome d.origin (HasSnapshot added))
            (λ d h. IfSome_then d.origin h more) rows.datasets lawful.linked.origins;
        bases =
            All-weaker (λ p. IfSome p.base (HasSnapshot rows)) (λ p. IfSome p.base (HasSnapshot added))
            (λ p h. IfSome_then p.base h more) rows.partials lawful.linked.bases;
        components = All-from_contains (λ p. HasSnapshot added (p.target ++ 64 ∷ p.snapshot) → ⊥) rows.partials
            (λ p there has. elim (contains-inserted snapshot_is_before row olds has.0 has.1) [
              | inl e ↦ All-contains (λ q. q.target ++ 64 ∷ q.snapshot ≢ row.name) rows.partials p component there (sym has.2 ∙ ap (λ s. s.name) (sym e))
              | inr old ↦ All-contains (λ q. HasSnapshot rows (q.target ++ 64 ∷ q.snapshot) → ⊥) rows.partials p lawful.linked.components there (has.0, old, has.2)
            ]);
      };
      datasets = lawful.datasets;
      snapshots = All-inserted IsSnapshotRow snapshot_is_before row olds is_row lawful.snapshots;
      bookmarks = lawful.bookmarks;
      partials = lawful.partials;
    }

-- a lawful directory with a new partial state
pub partial_added : (rows : Rows) (row : Partial) → IsLawful rows → IsPartialRow row → All (λ other. other.target ≢ row.target) rows.partials → IfSome row.base (HasSnapshot rows)
    → (HasSnapshot rows (row.target ++ 64 ∷ row.snapshot) → ⊥) → IsLawful (record rows { partials = with_partial row rows.partials })
partial_added rows row lawful is_row new base component =
    let by_target = λ (a b : Partial). is_before a.target b.target in
    let differs : (x : Partial) → Contains rows.partials x → x.target ≢ row.target = λ x there. All-contains (λ (other : Partial). other.target ≢ row.target) rows.partials x new there in
    record {
      ordered = record {
        datasets = lawful.ordered.datasets;
        snapshots = lawful.ordered.snapshots;
        snapshots_differ = lawful.ordered.snapshots_differ;
        bookmarks = lawful.ordered.bookmarks;
        partials = names_rise-inserted (λ (p : Partial). p.target) row rows.partials differs lawful.ordered.partials;
      };
      linked = record {
        snapshots = lawful.linked.snapshots;
        origins = lawful.linked.origins;
        bases = All-inserted (λ p. IfSome p.base (HasSnapshot rows)) by_target row rows.partials base lawful.linked.bases;
        components = All-inserted (λ p. HasSnapshot rows (p.target ++ 64 ∷ p.snapshot) → ⊥) by_target row rows.partials component lawful.linked.components;
      };
      datasets = lawful.datasets;
      snapshots = lawful.snapshots;
      bookmarks = lawful.bookmarks;
      partials = All-inserted IsPartialRow by_target row rows.partials is_row lawful.partials;
    }

-- a lawful directory with a new bookmark
pub bookmark_added : (rows : Rows) (row : Bookmark) → IsLawful rows → IsBookmarkRow row → All (λ other. other.name ≢ row.name) rows.bookmarks
    → IsLawful (record rows { bookmarks = inserted (λ a b. is_before a.name b.name) row rows.bookmarks })
bookmark_added rows row lawful is_row new =
    let by_name = λ (a b : Bookmark). is_before a.name b.name in
    let differs : (x : Bookmark) → Contains rows.bookmarks x → x.name ≢ row.name = λ x there. All-contains (λ (other : Bookmark). other.name ≢ row.name) rows.bookmarks x new there in
    record {
      ordered = record {
        datasets = lawful.ordered.datasets;
        snapshots = lawful.ordered.snapshots;
        snapshots_differ = lawful.ordered.snapshots_differ;
        bookmarks = names_rise-inserted (λ (b : Bookmark). b.name) row rows.bookmarks differs lawful.ordered.bookmarks;
        partials = lawful.ordered.partials;
      };
      linked = record {
        snapshots = lawful.linked.snapshots;
        origins = lawful.linked.origins;
        bases = lawful.linked.bases;
        components = lawful.linked.components;
      };
      datasets = lawful.datasets;
      snapshots = lawful.snapshots;
      bookmarks = All-inserted IsBookmarkRow by_name row rows.bookmarks is_row lawful.bookmarks;
      partials = lawful.partials;
    }
