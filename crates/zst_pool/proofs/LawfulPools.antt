-- Lawful rows stand for a lawful pool.
use Rattle.std.proofs.Common.{inl, inr, ◌≡◌, ◌≢◌, ℕ, suc, ◌<◌, ◌≤◌, ◌^◌, true, false, List, [], ◌∷◌, ◌++◌, Option, IfSome, refl, sym, ap, ◌∙◌, subst, arith}
use Rattle.std.specs.List.{All, AllPairs, Contains}
use Rattle.std.proofs.lemmas.List.Elements.{All-nil, All-cons, All-head, All-tail}
use Rattle.std.proofs.lemmas.List.Kept.{AllPairs-cons}
use Rattle.std.proofs.lemmas.Option.{IfSome_then}
use Rattle.zst_names.specs.Names.{IsDataset, IsSnapshot, IsBookmark, IsComponent, dataset_of}
use Rattle.zst_model.specs.fields.Guids.{IsGuidSet}
use Rattle.zst_model.specs.fields.Lists.{IsRunList}
use Rattle.zst_model.specs.pools.Limits.{last_number, last_guid}
use Rattle.zst_model.specs.pools.Pool.{Pool, IsPool, IsNamed, IsLinked, IsKind, IsGuid, IsStated, is_before, dataset_of_snapshot}
use Rattle.zst_model.specs.pools.Pool as plain
use Rattle.zst_model.specs.states.State.{IsState}
use Rattle.zst_model.proofs.InsertedLaws.{contains_cases}
use Rattle.zst_tree.specs.Indices.{Blocks}
use Rattle.zst_dir.specs.Rows.{Rows, HasDataset, HasSnapshot, IsDatasetRow, IsSnapshotRow, IsBookmarkRow, IsPartialRow, IsLawful}
use Rattle.zst_dir.specs.Rows as dir_rows
use Rattle.zst_dir.specs.declared.rows.Snapshot.{Snapshot}
use Rattle.zst_dir.specs.RowNames.{Match}
use Rattle.zst_image.specs.Reads.{RunsBy, DatasetIs, SnapshotIs, BookmarkIs, PartialIs}
use Rattle.zst_image.proofs.OnePool.{SetIs-holds}
use Rattle.zst_pool.proofs.NextPools.{stands_before}

-- what holds of all rows holds of all that they stand for
All-Match : {A B : Type 0} (Is : A → B → Type 0) (P : A → Type 0) (Q : B → Type 0) → ((x : A) (y : B) → Is x y → P x → Q y) → (xs : List A) (ys : List B) → Match Is xs ys → All P xs → All Q ys
All-Match Is P Q up [] [] m all = All-nil Q
All-Match Is P Q up [] (y ∷ ys) m all = absurd m
All-Match Is P Q up (x ∷ xs) [] m all = absurd m
All-Match Is P Q up (x ∷ xs) (y ∷ ys) m all = All-cons Q y ys (up x y m.0 (All-head P x xs all)) (All-Match Is P Q up xs ys m.1 (All-tail P x xs all))

AllPairs-Match : {A B : Type 0} (Is : A → B → Type 0) (R : A → A → Type 0) (S : B → B → Type 0) → ((a b : A) (c d : B) → Is a c → Is b d → R a b → S c d)
    → (xs : List A) (ys : List B) → Match Is xs ys → AllPairs R xs → AllPairs S ys
AllPairs-Match Is R S up [] [] m all = λ i j d l b. absurd (omega arith)
AllPairs-Match Is R S up [] (y ∷ ys) m all = absurd m
AllPairs-Match Is R S up (x ∷ xs) [] m all = absurd m
AllPairs-Match {A = A} Is R S up (x ∷ xs) (y ∷ ys) m all =
    let first : All (R x) xs = λ k d l. all 0 (suc k) d (omega arith) (omega arith) in
    let rest : AllPairs R xs = λ i j d l b. all (suc i) (suc j) d (omega arith) (omega arith) in
    AllPairs-cons S y ys (All-Match Is (R x) (S y) (λ b d is r. up x b y d m.0 is r) xs ys m.1 first) (AllPairs-Match Is R S up xs ys m.1 rest)

-- a row that is there stands for something that is there
contains-Match : {A B : Type 0} (Is : A → B → Type 0) (xs : List A) (ys : List B) → Match Is xs ys → (x : A) → Contains xs x → (y : B) × Contains ys y × Is x y
contains-Match Is [] [] m x h = absurd (omega (arith, h.1))
contains-Match Is [] (y ∷ ys) m x h = absurd m
contains-Match Is (z ∷ xs) [] m x h = absurd m
contains-Match Is (z ∷ xs) (y ∷ ys) m x h = elim (contains_cases z xs x h) [
  | inl e ↦ (y, (0, omega arith, refl), subst (λ w. Is w y) e m.0)
  | inr later ↦ let found = contains-Match Is xs ys m.1 x later in (found.0, (suc found.1.0, omega (arith, found.1.1), found.1.2), found.2)
]

turned : {A B : Type 0} (Is : A → B → Type 0) (xs : List A) (ys : List B) → Match Is xs ys → Match (λ y x. Is x y) ys xs
turned Is [] [] m = tt
turned Is [] (y ∷ ys) m = absurd m
turned Is (x ∷ xs) [] m = absurd m
turned Is (x ∷ xs) (y ∷ ys) m = (m.0, turned Is xs ys m.1)

-- rows stand as what they stand for does
pub stand_alike : {bound : Option ℕ} (has : Blocks) (a b : Snapshot) (c d : plain.Snapshot) → SnapshotIs bound has a c → SnapshotIs bound has b d → plain.snapshot_is_before d c ≡ dir_rows.snapshot_is_before b a
unfolding stands_before
stand_alike has a b c d ac bd =
    ap (λ (n : List ℕ). stands_before n d.number c.name c.number) bd.named.name
    ∙ ap (λ (k : ℕ). stands_before b.name k c.name c.number) bd.named.number
    ∙ ap (λ (n : List ℕ). stands_before b.name b.number n c.number) ac.named.name
    ∙ ap (λ (k : ℕ). stands_before b.name b.number a.name k) ac.named.number

module _ {bound : Option ℕ} (has : Blocks) (rows : Rows) (pool : Pool) (lawful : IsLawful rows) (are : RunsBy bound has rows pool) where
  dataset_there : (name : List ℕ) → HasDataset rows name → plain.HasDataset pool name
  dataset_there name h = let found = contains-Match (DatasetIs bound has) rows.datasets pool.datasets are.datasets h.0 h.1 in (found.0, found.1, found.2.named.name ∙ h.2)

  snapshot_there : (name : List ℕ) → HasSnapshot rows name → plain.HasSnapshot pool name
  snapshot_there name h = let found = contains-Match (SnapshotIs bound has) rows.snapshots pool.snapshots are.snapshots h.0 h.1 in (found.0, found.1, found.2.named.name ∙ h.2)

  snapshot_back : (name : List ℕ) → plain.HasSnapshot pool name → HasSnapshot rows name
  snapshot_back name h =
      let found = contains-Match (λ y x. SnapshotIs bound has x y) pool.snapshots rows.snapshots (turned (SnapshotIs bound has) rows.snapshots pool.snapshots are.snapshots) h.0 h.1 in
      (found.0, found.1, sym found.2.named.name ∙ h.2)

  named : IsNamed pool
  named = record {
    dataset_names = All-Match (DatasetIs bound has) IsDatasetRow (λ d. IsDataset d.name) (λ x y is row. subst IsDataset (sym is.named.name) row.name) rows.datasets pool.datasets are.datasets lawful.datasets;
    datasets =
        AllPairs-Match (DatasetIs bound has) (λ a b. is_before a.name b.name ≡ true) (λ a b. is_before a.name b.name ≡ true)
        (λ a b c d ac bd r. ap (λ (n : List ℕ). is_before n d.name) ac.named.name ∙ ap (λ (n : List ℕ). is_before a.name n) bd.named.name ∙ r) rows.datasets pool.datasets are.datasets lawful.ordered.datasets;
    snapshot_names = All-Match (SnapshotIs bound has) IsSnapshotRow (λ s. IsSnapshot s.name) (λ x y is row. subst IsSnapshot (sym is.named.name) row.name) rows.snapshots pool.snapshots are.snapshots lawful.snapshots;
    snapshots =
        AllPairs-Match (SnapshotIs bound has) (λ a b. dir_rows.snapshot_is_before b a ≡ false) (λ a b. plain.snapshot_is_before b a ≡ false)
        (λ a b c d ac bd r. stand_alike has a b c d ac bd ∙ r) rows.snapshots pool.snapshots are.snapshots lawful.ordered.snapshots;
    snapshots_differ =
        AllPairs-Match (SnapshotIs bound has) (λ a b. a.name ≢ b.name) (λ a b. a.name ≢ b.name) (λ a b c d ac bd r e. r (sym ac.named.name ∙ e ∙ bd.named.name)) rows.snapshots pool.snapshots are.snapshots lawful.ordered.snapshots_differ;
    bookmark_names = All-Match (BookmarkIs has) IsBookmarkRow (λ b. IsBookmark b.name) (λ x y is row. subst IsBookmark (sym is.named.name) row.name) rows.bookmarks pool.bookmarks are.bookmarks lawful.bookmarks;
    bookmarks =
        AllPairs-Match (BookmarkIs has) (λ a b. is_before a.name b.name ≡ true) (λ a b. is_before a.name b.name ≡ true)
        (λ a b c d ac bd r. ap (λ (n : List ℕ). is_before n d.name) ac.named.name ∙ ap (λ (n : List ℕ). is_before a.name n) bd.named.name ∙ r) rows.bookmarks pool.bookmarks are.bookmarks lawful.ordered.bookmarks;
    targets =
        All-Match (PartialIs bound has) IsPartialRow (λ p. IsDataset p.target × IsComponent p.component)
        (λ x y is row. (subst IsDataset (sym is.named.target) row.target, subst IsComponent (sym is.named.component) row.snapshot)) rows.partials pool.partials are.partials lawful.partials;
    partials =
        AllPairs-Match (PartialIs bound has) (λ a b. is_before a.target b.target ≡ true) (λ a b. is_before a.target b.target ≡ true)
        (λ a b c d ac bd r. ap (λ (n : List ℕ). is_before n d.target) ac.named.target ∙ ap (λ (n : List ℕ). is_before a.target n) bd.named.target ∙ r) rows.partials pool.partials are.partials lawful.ordered.partials;
  }

  linked : IsLinked pool
  linked = record {
    snapshots =
        All-Match (SnapshotIs bound has) (λ s. HasDataset rows (dataset_of 64 s.name)) (λ s. plain.HasDataset pool (dataset_of_snapshot s))
        (λ x y is h. dataset_there (dataset_of_snapshot y) (subst (λ (n : List ℕ). HasDataset rows (dataset_of 64 n)) (sym is.named.name) h)) rows.snapshots pool.snapshots are.snapshots lawful.linked.snapshots;
    origins =
        All-Match (DatasetIs bound has) (λ d. IfSome d.origin (HasSnapshot rows)) (λ d. IfSome d.origin (plain.HasSnapshot pool))
        (λ x y is h. subst (λ (o : Option (List ℕ)). IfSome o (plain.HasSnapshot pool)) (sym is.named.origin) (IfSome_then x.origin h snapshot_there)) rows.datasets pool.datasets are.datasets lawful.linked.origins;
    bases =
        All-Match (PartialIs bound has) (λ p. IfSome p.base (HasSnapshot rows)) (λ p. IfSome p.base (plain.HasSnapshot pool))
        (λ x y is h. subst (λ (o : Option (List ℕ)). IfSome o (plain.HasSnapshot pool)) (sym is.named.base) (IfSome_then x.base h snapshot_there)) rows.partials pool.partials are.partials lawful.linked.bases;
    components =
        All-Match (PartialIs bound has) (λ p. HasSnapshot rows (p.target ++ 64 ∷ p.snapshot) → ⊥) (λ p. plain.HasSnapshot pool (p.target ++ 64 ∷ p.component) → ⊥)
        (λ x y is none found. none (subst (λ (t : List ℕ). HasSnapshot rows (t ++ 64 ∷ x.snapshot)) is.named.target
        (subst (λ (s : List ℕ). HasSnapshot rows (y.target ++ 64 ∷ s)) is.named.component (snapshot_back (y.target ++ 64 ∷ y.component) found)))) rows.partials pool.partials are.partials lawful.linked.components;
  }

  -- besides its names its numbers are to be in their ranges
  pub rows_make_pools : (0 < pool.id) × (pool.id < 2 ^ 31) → pool.number ≤ last_number → pool.guids ≤ last_guid → IsPool pool
  rows_make_pools id number guids = record {
    id = id;
    number = number;
    guids = guids;
    named = named;
    linked = linked;
    datasets =
        All-Match (DatasetIs bound has) IsDatasetRow (λ d. IsKind d.kind × IsGuidSet d.redact × IsState d.head.state)
        (λ x y is row. (subst IsKind (sym is.named.kind) row.kind, subst IsGuidSet (sym is.named.redact) row.redact, (SetIs-holds bound has x.head y.head is.head).lawful)) rows.datasets pool.datasets are.datasets lawful.datasets;
    snapshots =
        All-Match (SnapshotIs bound has) IsSnapshotRow (λ s. IsGuid s.guid × IsGuidSet s.redact × IsState s.objects.state × (s.time < 2 ^ 64))
        (λ x y is row. (subst IsGuid (sym is.named.guid) row.guid, subst IsGuidSet (sym is.named.redact) row.redact, (SetIs-holds bound has x.objects y.objects is.objects).lawful, subst (λ (t : ℕ). t < 2 ^ 64) (sym is.named.time) row.time))
        rows.snapshots pool.snapshots are.snapshots lawful.snapshots;
    bookmarks =
        All-Match (BookmarkIs has) IsBookmarkRow (λ b. IsGuid b.guid × IsGuidSet b.redact × IsRunList b.runs × (b.time < 2 ^ 64))
        (λ x y is row. (subst IsGuid (sym is.named.guid) row.guid, subst IsGuidSet (sym is.named.redact) row.redact, is.list.lawful, subst (λ (t : ℕ). t < 2 ^ 64) (sym is.named.time) row.time))
        rows.bookmarks pool.bookmarks are.bookmarks lawful.bookmarks;
    partials =
        All-Match (PartialIs bound has) IsPartialRow (λ p. IsStated p.header × IsState p.objects.state)
        (λ x y is row. (subst IsStated (sym is.named.header) row.header, (SetIs-holds bound has x.objects y.objects is.objects).lawful)) rows.partials pool.partials are.partials lawful.partials;
  }
