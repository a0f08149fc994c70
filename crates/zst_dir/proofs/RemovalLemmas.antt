-- A lawful directory without what goes.
use Rattle.std.proofs.Common.{inl, inr, ◌≡◌, ◌≢◌, ℕ, Bool, true, false, cond, ◌&&◌, not, List, [], ◌∷◌, ◌++◌, filter, Option, Some, None, IfSome, bytes_eq, refl, sym, ap, ◌∙◌, subst}
use Rattle.std.specs.List.{Contains}
use Rattle.std.proofs.lemmas.Bool.{true≢false, not-true}
use Rattle.std.proofs.lemmas.List.Elements.{All-filter, All-contains}
use Rattle.std.proofs.lemmas.List.Kept.{AllPairs-filter}
use Rattle.zst_names.specs.Names.{dataset_of}
use Rattle.zst_model.specs.pools.Pool.{is_before}
use Rattle.zst_model.proofs.InsertedLaws.{All-from_contains, contains_cases, contains_first, contains_later, contains_nothing}
use Rattle.zst_model.proofs.OrderLaws.{bytes_same}
use Rattle.zst_model.proofs.FilteredLists.{filter_parts}
use Rattle.zst_model.proofs.ListTests.{failed_by_each}
use Rattle.zst_dir.specs.Removal.{AreUnused, names_going, takes_bookmark, takes_dataset, takes_snapshot, without}
use Rattle.zst_dir.specs.Rows.{Rows, snapshot_is_before, HasDataset, HasSnapshot, IsBookmarkRow, IsDatasetRow, IsSnapshotRow, IsLawful}
use Rattle.zst_dir.specs.declared.removal.Removal.{Removal}
use Rattle.zst_dir.specs.declared.removal.Removal.TheVariants as goes
use Rattle.zst_dir.specs.declared.rows.Dataset.{Dataset}
use Rattle.zst_dir.specs.declared.rows.Snapshot.{Snapshot}
use Rattle.zst_dir.specs.declared.rows.Bookmark.{Bookmark}
use Rattle.zst_dir.specs.declared.rows.Partial.{Partial}

-- what isn't taken is still there
pub stays_there : {A : Type 0} (takes : A → Bool) (xs : List A) (x : A) → Contains xs x → takes x ≡ false → Contains (filter (λ y. not (takes y)) xs) x
stays_there takes [] x there stays = absurd (contains_nothing x there)
stays_there {A = A} takes (y ∷ ys) x there stays = elim (contains_cases y ys x there) [
  | inl e ↦ subst (λ z. Contains (filter (λ w. not (takes w)) (z ∷ ys)) x) (sym e) (rw stays (contains_first x (filter (λ w. not (takes w)) ys)))
  | inr later ↦ go (takes y) (stays_there takes ys x later stays)
]
  where
    rest : List A
    rest = filter (λ w. not (takes w)) ys

    go : (t : Bool) → Contains rest x → Contains (cond (not t) (y ∷ rest) rest) x
    go true k = k
    go false k = contains_later y rest x k

-- a name that is there and names nothing that goes is there still
name_stays : (going : Removal) (rows : Rows) (name : Option (List ℕ)) → names_going going rows name ≡ false → IfSome name (HasSnapshot rows) → IfSome name (HasSnapshot (without going rows))
name_stays going rows None unused has = tt
name_stays going rows (Some name) unused has = (has.0, stays_there (takes_snapshot going) rows.snapshots has.0 has.1 (stays (takes_snapshot going has.0) refl), has.2)
  where
    stays : (t : Bool) → takes_snapshot going has.0 ≡ t → takes_snapshot going has.0 ≡ false
    stays false e = e
    stays true e =
        absurd (true≢false (sym (ap (λ b. b && bytes_eq has.0.name name) e ∙ bytes_same has.0.name name has.2)
        ∙ failed_by_each (λ snapshot. takes_snapshot going snapshot && bytes_eq snapshot.name name) rows.snapshots unused has.0 has.1))

-- the dataset of a snapshot that stays, stays
dataset_stays : (going : Removal) (snapshot : Snapshot) (dataset : Dataset) → dataset.name ≡ dataset_of 64 snapshot.name → takes_snapshot going snapshot ≡ false → takes_dataset going dataset ≡ false
dataset_stays (goes.Dataset name) snapshot dataset same stays = ap (λ n. bytes_eq n name) same ∙ stays
dataset_stays (goes.Snapshot name) snapshot dataset same stays = refl
dataset_stays (goes.Bookmark name) snapshot dataset same stays = refl
dataset_stays (goes.Newer name number) snapshot dataset same stays = refl

-- a lawful directory without what goes, of which nothing is used
pub rows_left : (going : Removal) (rows : Rows) → IsLawful rows → AreUnused going rows → IsLawful (without going rows)
rows_left going rows lawful unused = record {
  ordered = record {
    datasets = AllPairs-filter (λ a b. is_before a.name b.name ≡ true) stays_dataset rows.datasets lawful.ordered.datasets;
    snapshots = AllPairs-filter (λ a b. snapshot_is_before b a ≡ false) stays_snapshot rows.snapshots lawful.ordered.snapshots;
    snapshots_differ = AllPairs-filter (λ a b. a.name ≢ b.name) stays_snapshot rows.snapshots lawful.ordered.snapshots_differ;
    bookmarks = AllPairs-filter (λ a b. is_before a.name b.name ≡ true) stays_bookmark rows.bookmarks lawful.ordered.bookmarks;
    partials = lawful.ordered.partials;
  };
  linked = record {
    snapshots = All-from_contains (λ s. HasDataset (without going rows) (dataset_of 64 s.name)) (filter stays_snapshot rows.snapshots) (λ s there.
        let found = filter_parts stays_snapshot rows.snapshots s there in
        let has = All-contains (λ s. HasDataset rows (dataset_of 64 s.name)) rows.snapshots s lawful.linked.snapshots found.0 in
        (has.0, stays_there (takes_dataset going) rows.datasets has.0 has.1 (dataset_stays going s has.0 has.2 (not-true (takes_snapshot going s) found.1)), has.2));
    origins = All-from_contains (λ d. IfSome d.origin (HasSnapshot (without going rows))) (filter stays_dataset rows.datasets) (λ d there.
        let found = filter_parts stays_dataset rows.datasets d there in
        name_stays going rows d.origin
        (All-contains (λ d. names_going going rows d.origin ≡ false) rows.datasets d unused.origins found.0)
        (All-contains (λ d. IfSome d.origin (HasSnapshot rows)) rows.datasets d lawful.linked.origins found.0));
    bases = All-from_contains (λ p. IfSome p.base (HasSnapshot (without going rows))) rows.partials (λ p there.
        name_stays going rows p.base
        (All-contains (λ p. names_going going rows p.base ≡ false) rows.partials p unused.bases there)
        (All-contains (λ p. IfSome p.base (HasSnapshot rows)) rows.partials p lawful.linked.bases there));
    components = All-from_contains (λ p. HasSnapshot (without going rows) (p.target ++ 64 ∷ p.snapshot) → ⊥) rows.partials (λ p there has.
        All-contains (λ p. HasSnapshot rows (p.target ++ 64 ∷ p.snapshot) → ⊥) rows.partials p lawful.linked.components there
        (has.0, (filter_parts stays_snapshot rows.snapshots has.0 has.1).0, has.2));
  };
  datasets = All-filter stays_dataset IsDatasetRow rows.datasets lawful.datasets;
  snapshots = All-filter stays_snapshot IsSnapshotRow rows.snapshots lawful.snapshots;
  bookmarks = All-filter stays_bookmark IsBookmarkRow rows.bookmarks lawful.bookmarks;
  partials = lawful.partials;
}
  where
    stays_dataset : Dataset → Bool
    stays_dataset dataset = not (takes_dataset going dataset)

    stays_snapshot : Snapshot → Bool
    stays_snapshot snapshot = not (takes_snapshot going snapshot)

    stays_bookmark : Bookmark → Bool
    stays_bookmark bookmark = not (takes_bookmark going bookmark)

-- rows of these lists, and of equal ones
abbrev pub rows_of : List Dataset → List Snapshot → List Bookmark → List Partial → Rows
rows_of datasets snapshots bookmarks partials = record { datasets = datasets; snapshots = snapshots; bookmarks = bookmarks; partials = partials }

pub same_rows : (partials : List Partial) → {datasets others : List Dataset} → {snapshots rest : List Snapshot} → {bookmarks marks : List Bookmark} → datasets ≡ others → snapshots ≡ rest → bookmarks ≡ marks
    → rows_of datasets snapshots bookmarks partials ≡ rows_of others rest marks partials
same_rows partials d s b = cc
