-- What a rollback, a destroy or an abort leaves of a lawful pool is lawful.
use Rattle.std.proofs.Common.{subst, ◌≡◌, ◌≢◌, ℕ, ◌^◌, ◌<◌, Bool, true, false, not, List, [], ◌∷◌, ◌++◌, map, filter, Option, Some, None, IfSome, bytes_eq, if◌then◌else◌, refl, sym, ap, ◌∙◌}
use Rattle.std.specs.List.{All, AllPairs, Contains}
use Rattle.std.proofs.lemmas.Bool.{true≢false, not-false}
use Rattle.std.proofs.lemmas.List.Elements.{All-contains, All-filter, filter_passes}
use Rattle.std.proofs.lemmas.List.Kept.{AllPairs-filter}
use Rattle.zst_names.specs.Names.{IsDataset, IsSnapshot, IsBookmark, IsComponent}
use Rattle.zst_model.specs.fields.Guids.{IsGuidSet}
use Rattle.zst_model.specs.fields.Lists.{IsRunList}
use Rattle.zst_model.specs.states.State.{IsState}
use Rattle.zst_model.specs.pools.Pool.{Pool, Dataset, Snapshot, Bookmark, Partial, IsPool, IsKind, IsGuid, IsStated, HasDataset, HasSnapshot, snapshot_named, dataset_of_snapshot, is_before, snapshot_is_before}
use Rattle.zst_model.specs.pools.Step.{is_one_of, is_newer, newer_snapshots, rolled_to, rolled_back, is_of, without_dataset, without_snapshot, without_bookmark, without_partial}
use Rattle.zst_model.proofs.InsertedLaws.{All-from_contains, contains_first, contains-map, map_contains, AllPairs-map}
use Rattle.zst_model.proofs.OrderLaws.{same_bytes, bytes_same}
use Rattle.zst_model.proofs.FilteredLists.{filter_contains, contains-filter}
use Rattle.zst_model.proofs.ListTests.{passed_by_some}
use Rattle.zst_laws.proofs.pools.Rows.{named_found}
use Rattle.zst_laws.proofs.pools.AcceptedRemovals.{AreUnused, is_for}
use Rattle.zst_laws.proofs.pools.Holders.{named_in}

-- a pool with these datasets, and with the snapshots that pass a test
abbrev pub with_fewer : Pool → List Dataset → (Snapshot → Bool) → Pool
with_fewer pool datasets keep = record pool { datasets = datasets; snapshots = filter keep pool.snapshots }

-- datasets that are lawful themselves, with the origins of old ones, among them the dataset of each snapshot that is kept
pub record AreLeft (pool : Pool) (datasets : List Dataset) (keep : Snapshot → Bool) : Type 0 where
  pub names : All (λ d. IsDataset d.name) datasets
  pub order : AllPairs (λ a b. is_before a.name b.name ≡ true) datasets
  pub lawful : All (λ d. IsKind d.kind × IsGuidSet d.redact × IsState d.head.state) datasets
  pub owners : (s : Snapshot) → Contains pool.snapshots s → keep s ≡ true → HasDataset (with_fewer pool datasets keep) (dataset_of_snapshot s)
  pub olds : (d : Dataset) → Contains datasets d → (old : Dataset) × Contains pool.datasets old × (old.origin ≡ d.origin)

-- each snapshot that isn't kept has the name of one of these
abbrev pub AreGone : Pool → (Snapshot → Bool) → List Snapshot → Type 0
AreGone pool keep gone = (s : Snapshot) → Contains pool.snapshots s → keep s ≡ false → is_one_of gone (Some s.name) ≡ true

module _ (pool : Pool) (datasets : List Dataset) (keep : Snapshot → Bool) (gone : List Snapshot) (is_such : Partial → Bool)
    (p : IsPool pool) (left : AreLeft pool datasets keep) (are_gone : AreGone pool keep gone) (unused : AreUnused is_such gone pool)
  where
    abbrev fewer : Pool
    fewer = with_fewer pool datasets keep

    -- a name that is none of those that go is still one of a snapshot
    still_linked : (name : Option (List ℕ)) → is_one_of gone name ≡ false → IfSome name (HasSnapshot pool) → IfSome name (HasSnapshot fewer)
    still_linked None free has = tt
    still_linked (Some name) free (s, there, named) = go (keep s) refl
      where
        go : (t : Bool) → keep s ≡ t → HasSnapshot fewer name
        go true e = (s, contains-filter keep pool.snapshots s there e, named)
        go false e = absurd (true≢false (sym (are_gone s there e) ∙ ap (λ n. is_one_of gone (Some n)) named ∙ free))

    still_origin : (d : Dataset) → Contains datasets d → IfSome d.origin (HasSnapshot fewer)
    still_origin d there =
        let (old, was, same) = left.olds d there in
        subst (λ o. IfSome o (HasSnapshot fewer)) same
        (still_linked old.origin (unused.origins old was) (All-contains (λ d. IfSome d.origin (HasSnapshot pool)) pool.datasets old p.linked.origins was))

    still_owned : (s : Snapshot) → Contains (filter keep pool.snapshots) s → keep s ≡ true → HasDataset fewer (dataset_of_snapshot s)
    still_owned s there kept = left.owners s (filter_contains keep pool.snapshots s there) kept

    pub fewer_is_lawful : IsPool fewer
    fewer_is_lawful = record {
      id = p.id;
      number = p.number;
      guids = p.guids;
      named = record {
        dataset_names = left.names;
        datasets = left.order;
        snapshot_names = All-filter keep (λ s. IsSnapshot s.name) pool.snapshots p.named.snapshot_names;
        snapshots = AllPairs-filter (λ a b. snapshot_is_before b a ≡ false) keep pool.snapshots p.named.snapshots;
        snapshots_differ = AllPairs-filter (λ a b. a.name ≢ b.name) keep pool.snapshots p.named.snapshots_differ;
        bookmark_names = p.named.bookmark_names;
        bookmarks = p.named.bookmarks;
        targets = p.named.targets;
        partials = p.named.partials;
      };
      linked = record {
        snapshots = All-from_contains (λ s. HasDataset fewer (dataset_of_snapshot s)) (filter keep pool.snapshots)
            (λ s there. still_owned s there (All-contains (λ s. keep s ≡ true) (filter keep pool.snapshots) s (filter_passes keep pool.snapshots) there));
        origins = All-from_contains (λ d. IfSome d.origin (HasSnapshot fewer)) datasets still_origin;
        bases = All-from_contains (λ q. IfSome q.base (HasSnapshot fewer)) pool.partials (λ q there.
            still_linked q.base (unused.bases q there) (All-contains (λ q. IfSome q.base (HasSnapshot pool)) pool.partials q p.linked.bases there));
        components = All-from_contains (λ q. HasSnapshot fewer (q.target ++ 64 ∷ q.component) → ⊥) pool.partials (λ q there (s, is, named).
            All-contains (λ q. HasSnapshot pool (q.target ++ 64 ∷ q.component) → ⊥) pool.partials q p.linked.components there
            (s, filter_contains keep pool.snapshots s is, named));
      };
      datasets = left.lawful;
      snapshots = All-filter keep (λ s. IsGuid s.guid × IsGuidSet s.redact × IsState s.objects.state × (s.time < 2 ^ 64)) pool.snapshots p.snapshots;
      bookmarks = p.bookmarks;
      partials = p.partials;
    }

-- a lawful pool with the bookmarks that pass a test
fewer_bookmarks_are_lawful : (keep : Bookmark → Bool) (pool : Pool) → IsPool pool → IsPool (record pool { bookmarks = filter keep pool.bookmarks })
fewer_bookmarks_are_lawful keep pool p = record {
  id = p.id;
  number = p.number;
  guids = p.guids;
  named = record {
    dataset_names = p.named.dataset_names;
    datasets = p.named.datasets;
    snapshot_names = p.named.snapshot_names;
    snapshots = p.named.snapshots;
    snapshots_differ = p.named.snapshots_differ;
    bookmark_names = All-filter keep (λ b. IsBookmark b.name) pool.bookmarks p.named.bookmark_names;
    bookmarks = AllPairs-filter (λ a b. is_before a.name b.name ≡ true) keep pool.bookmarks p.named.bookmarks;
    targets = p.named.targets;
    partials = p.named.partials;
  };
  linked = record { snapshots = p.linked.snapshots; origins = p.linked.origins; bases = p.linked.bases; components = p.linked.components };
  datasets = p.datasets;
  snapshots = p.snapshots;
  bookmarks = All-filter keep (λ b. IsGuid b.guid × IsGuidSet b.redact × IsRunList b.runs × (b.time < 2 ^ 64)) pool.bookmarks p.bookmarks;
  partials = p.partials;
}

-- without a bookmark
pub lawful_without_bookmark : (name : List ℕ) (pool : Pool) → IsPool pool → IsPool (without_bookmark name pool)
lawful_without_bookmark name pool p = fewer_bookmarks_are_lawful (λ b. not (bytes_eq b.name name)) pool p

-- a lawful pool with the partial states that pass a test
pub fewer_partials_are_lawful : (keep : Partial → Bool) (pool : Pool) → IsPool pool → IsPool (record pool { partials = filter keep pool.partials })
fewer_partials_are_lawful keep pool is = record {
  id = is.id;
  number = is.number;
  guids = is.guids;
  named = record {
    dataset_names = is.named.dataset_names;
    datasets = is.named.datasets;
    snapshot_names = is.named.snapshot_names;
    snapshots = is.named.snapshots;
    snapshots_differ = is.named.snapshots_differ;
    bookmark_names = is.named.bookmark_names;
    bookmarks = is.named.bookmarks;
    targets = All-filter keep (λ p. IsDataset p.target × IsComponent p.component) pool.partials is.named.targets;
    partials = AllPairs-filter (λ a b. is_before a.target b.target ≡ true) keep pool.partials is.named.partials;
  };
  linked = record {
    snapshots = is.linked.snapshots;
    origins = is.linked.origins;
    bases = All-filter keep (λ p. IfSome p.base (HasSnapshot pool)) pool.partials is.linked.bases;
    components = All-filter keep (λ p. HasSnapshot pool (p.target ++ 64 ∷ p.component) → ⊥) pool.partials is.linked.components;
  };
  datasets = is.datasets;
  snapshots = is.snapshots;
  bookmarks = is.bookmarks;
  partials = All-filter keep (λ p. IsStated p.header × IsState p.objects.state) pool.partials is.partials;
}

-- without a partial state
pub lawful_without_partial : (target : List ℕ) (pool : Pool) → IsPool pool → IsPool (without_partial target pool)
lawful_without_partial target pool is = fewer_partials_are_lawful (λ partial. not (bytes_eq partial.target target)) pool is

-- without a snapshot
pub lawful_without_snapshot : (name : List ℕ) (pool : Pool) (snapshot : Snapshot) → IsPool pool → snapshot_named name pool ≡ Some snapshot
    → AreUnused (λ partial. false) (snapshot ∷ []) pool → IsPool (without_snapshot name pool)
lawful_without_snapshot name pool snapshot p found unused =
    fewer_is_lawful pool pool.datasets (λ s. not (bytes_eq s.name name)) (snapshot ∷ []) (λ partial. false) p (record {
      names = p.named.dataset_names;
      order = p.named.datasets;
      lawful = p.datasets;
      owners = λ s there kept. All-contains (λ s. HasDataset pool (dataset_of_snapshot s)) pool.snapshots s p.linked.snapshots there;
      olds = λ d there. (d, there, refl);
    }) gone unused
  where
    gone : AreGone pool (λ s. not (bytes_eq s.name name)) (snapshot ∷ [])
    gone s there dropped =
        let same = same_bytes s.name name (not-false (bytes_eq s.name name) dropped) in
        let own = (named_found (λ s. s.name) name pool.snapshots snapshot found).1 in
        passed_by_some (λ other. bytes_eq other.name s.name) (snapshot ∷ []) snapshot (contains_first snapshot []) (bytes_same snapshot.name s.name (own ∙ sym same))

-- without a dataset
pub lawful_without_dataset : (name : List ℕ) (pool : Pool) → IsPool pool → AreUnused (is_for name) (filter (is_of name) pool.snapshots) pool
    → IsPool (without_dataset name pool)
lawful_without_dataset name pool p unused =
    fewer_bookmarks_are_lawful _ _
    (fewer_is_lawful pool (filter stays pool.datasets) (λ s. not (is_of name s)) (filter (is_of name) pool.snapshots) (is_for name) p (record {
      names = All-filter stays (λ d. IsDataset d.name) pool.datasets p.named.dataset_names;
      order = AllPairs-filter (λ a b. is_before a.name b.name ≡ true) stays pool.datasets p.named.datasets;
      lawful = All-filter stays (λ d. IsKind d.kind × IsGuidSet d.redact × IsState d.head.state) pool.datasets p.datasets;
      owners = owner;
      olds = λ d there. (d, filter_contains stays pool.datasets d there, refl);
    }) (λ s there dropped. named_in (filter (is_of name) pool.snapshots) s (contains-filter (is_of name) pool.snapshots s there (not-false (is_of name s) dropped))) unused)
  where
    stays : Dataset → Bool
    stays d = not (bytes_eq d.name name)

    owner : (s : Snapshot) → Contains pool.snapshots s → not (is_of name s) ≡ true → HasDataset (with_fewer pool (filter stays pool.datasets) (λ s. not (is_of name s))) (dataset_of_snapshot s)
    owner s there kept =
        let (d, is, named) = All-contains (λ s. HasDataset pool (dataset_of_snapshot s)) pool.snapshots s p.linked.snapshots there in
        (d, contains-filter stays pool.datasets d is (ap (λ n. not (bytes_eq n name)) named ∙ kept), named)

-- rolled back to a snapshot
pub rolled_is_lawful : (name : List ℕ) (pool : Pool) (snapshot : Snapshot) → IsPool pool → snapshot_named name pool ≡ Some snapshot
    → AreUnused (is_for (dataset_of_snapshot snapshot)) (newer_snapshots snapshot pool) pool → IsPool (rolled_back snapshot pool)
rolled_is_lawful name pool snapshot p found unused =
    fewer_bookmarks_are_lawful _ _
    (fewer_is_lawful pool (map roll pool.datasets) keep (newer_snapshots snapshot pool) (is_for (dataset_of_snapshot snapshot)) p (record {
      names = All-from_contains (λ d. IsDataset d.name) (map roll pool.datasets) (λ d there.
          let (old, was, e) = map_contains roll pool.datasets d there in
          subst IsDataset (sym (roll_name old) ∙ ap (λ d. d.name) e) (All-contains (λ d. IsDataset d.name) pool.datasets old p.named.dataset_names was));
      order = AllPairs-map (λ a b. is_before a.name b.name ≡ true) (λ a b. is_before a.name b.name ≡ true) roll
          (λ a b h. ap (λ n. is_before n (roll b).name) (roll_name a) ∙ ap (is_before a.name) (roll_name b) ∙ h) pool.datasets p.named.datasets;
      lawful = All-from_contains (λ d. IsKind d.kind × IsGuidSet d.redact × IsState d.head.state) (map roll pool.datasets) (λ d there.
          let (old, was, e) = map_contains roll pool.datasets d there in
          subst (λ d. IsKind d.kind × IsGuidSet d.redact × IsState d.head.state) e
          (roll_lawful old (All-contains (λ d. IsKind d.kind × IsGuidSet d.redact × IsState d.head.state) pool.datasets old p.datasets was)));
      owners = λ s there kept.
          let (d, is, named) = All-contains (λ s. HasDataset pool (dataset_of_snapshot s)) pool.snapshots s p.linked.snapshots there in
          (roll d, contains-map roll pool.datasets d is, roll_name d ∙ named);
      olds = λ d there.
          let (old, was, e) = map_contains roll pool.datasets d there in (old, was, sym (roll_origin old) ∙ ap (λ d. d.origin) e);
    }) (λ s there dropped. named_in (newer_snapshots snapshot pool) s (contains-filter (is_newer snapshot) pool.snapshots s there (not-false (is_newer snapshot s) dropped))) unused)
  where
    keep : Snapshot → Bool
    keep other = not (is_newer snapshot other)

    roll : Dataset → Dataset
    roll dataset = if bytes_eq dataset.name (dataset_of_snapshot snapshot) then rolled_to snapshot dataset else dataset

    roll_name : (d : Dataset) → (roll d).name ≡ d.name
    roll_name d = go (bytes_eq d.name (dataset_of_snapshot snapshot))
      where
        go : (t : Bool) → (if t then rolled_to snapshot d else d).name ≡ d.name
        go true = refl
        go false = refl

    roll_origin : (d : Dataset) → (roll d).origin ≡ d.origin
    roll_origin d = go (bytes_eq d.name (dataset_of_snapshot snapshot))
      where
        go : (t : Bool) → (if t then rolled_to snapshot d else d).origin ≡ d.origin
        go true = refl
        go false = refl

    there : Contains pool.snapshots snapshot
    there = (named_found (λ s. s.name) name pool.snapshots snapshot found).0

    roll_lawful : (d : Dataset) → IsKind d.kind × IsGuidSet d.redact × IsState d.head.state
        → IsKind (roll d).kind × IsGuidSet (roll d).redact × IsState (roll d).head.state
    roll_lawful d h = go (bytes_eq d.name (dataset_of_snapshot snapshot))
      where
        go : (t : Bool) → (λ (e : Dataset). IsKind e.kind × IsGuidSet e.redact × IsState e.head.state) (if t then rolled_to snapshot d else d)
        go true =
            let of = All-contains (λ s. IsGuid s.guid × IsGuidSet s.redact × IsState s.objects.state × (s.time < 2 ^ 64)) pool.snapshots snapshot p.snapshots there in
            (h.0, of.1, of.2)
        go false = h
