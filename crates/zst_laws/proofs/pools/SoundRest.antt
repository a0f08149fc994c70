-- What a rollback, a destroy or an abort leaves of a sound pool is sound.
use Rattle.std.proofs.Common.{◌≡◌, inl, inr, ℕ, ◌+◌, ◌≤◌, Bool, true, false, not, ◌&&◌, List, map, filter, Some, None, AllPairs, Contains, bytes_eq, nat_lt, if◌then◌else◌, refl, sym, ap, subst, ◌∙◌, arith}
use Rattle.std.proofs.lemmas.Bool.{true≢false, not-true, not_from_false, and_from, lt-ltb, cases_lt}
use Rattle.std.proofs.lemmas.List.Elements.{All-contains, filter_passes}
use Rattle.std.proofs.lemmas.List.Kept.{AllPairs-filter}
use Rattle.zst_model.specs.pools.Pool.{Pool, Dataset, Snapshot, Bookmark, Partial, HasDataset, IsLinked, dataset_of_snapshot, dataset_of_bookmark}
use Rattle.zst_model.specs.pools.Ancestry.{Source, OfSnapshot, OfBookmark, IsIn, StandsBefore, Earlier, AtOrigin, BeforeOrigin, dataset_of_source, number_of_source}
use Rattle.zst_model.specs.pools.Rows.{Row, snapshot_row, head_row}
use Rattle.zst_model.specs.pools.Soundness.{Sound}
use Rattle.zst_model.specs.pools.Step.{is_newer, is_newer_bookmark, rolled_to, is_of, is_bookmark_of}
use Rattle.zst_model.proofs.InsertedLaws.{contains-map, map_contains}
use Rattle.zst_model.proofs.OrderLaws.{same_bytes, bytes_same}
use Rattle.zst_model.proofs.DatedStates.{dated_higher}
use Rattle.zst_model.proofs.FilteredLists.{filter_contains, contains-filter}
use Rattle.zst_laws.proofs.pools.Ancestry.{HasOrigins, HasOldOrigins, stands_on}
use Rattle.zst_laws.proofs.pools.Descent.{IsRow, SnapshotRow, HeadRow, PartialRow, snapshot_has_row, row_cases, Rises, StandsBy, ComesFrom, Descends, IsNext, next_sound, snapshot_stays, head_stays, partial_stays}

-- the next commit's pool with these datasets, snapshots and bookmarks
abbrev pub with_rest : Pool → List Dataset → List Snapshot → List Bookmark → Pool
with_rest pool datasets snapshots bookmarks = record pool { datasets = datasets; snapshots = snapshots; bookmarks = bookmarks; number = pool.number + 1 }

-- the snapshots and bookmarks are some of the pool's, the datasets have the names and origins of old ones, each bookmark's dataset and each
-- partial state's target is there as before, and each head comes from an old row
pub record IsRest (pool : Pool) (datasets : List Dataset) (snapshots : List Snapshot) (bookmarks : List Bookmark) : Type 0 where
  pub snapshots_there : (snapshot : Snapshot) → Contains snapshots snapshot → Contains pool.snapshots snapshot
  pub rise : AllPairs Rises snapshots
  pub bookmarks_there : (bookmark : Bookmark) → Contains bookmarks bookmark → Contains pool.bookmarks bookmark
  pub owners : (bookmark : Bookmark) → Contains bookmarks bookmark → HasDataset pool (dataset_of_bookmark bookmark) → HasDataset (with_rest pool datasets snapshots bookmarks) (dataset_of_bookmark bookmark)
  pub olds : (dataset : Dataset) → Contains datasets dataset → (old : Dataset) × Contains pool.datasets old × (old.name ≡ dataset.name) × (old.origin ≡ dataset.origin)
  pub targets : (partial : Partial) → Contains pool.partials partial → HasDataset pool partial.target → HasDataset (with_rest pool datasets snapshots bookmarks) partial.target

module _ (pool : Pool) (datasets : List Dataset) (snapshots : List Snapshot) (bookmarks : List Bookmark) (linked : IsLinked pool) (rest : IsRest pool datasets snapshots bookmarks) where
  abbrev next_pool : Pool
  next_pool = with_rest pool datasets snapshots bookmarks

  -- what has a name has the origin that it had
  pub rest_origins : HasOrigins pool next_pool
  rest_origins origin name is =
      let (old, was, named, origin_is) = rest.olds is.dataset is.there in record {
        dataset = old;
        there = was;
        named = named ∙ is.named;
        snapshot_there = rest.snapshots_there origin is.snapshot_there;
        is_origin = origin_is ∙ is.is_origin;
      }

  pub rest_old_origins : HasOldOrigins pool next_pool
  rest_old_origins origin name has is = rest_origins origin name is

  had_target : (partial : Partial) → HasDataset next_pool partial.target → HasDataset pool partial.target
  had_target partial (dataset, there, named) = let (old, was, same, origin) = rest.olds dataset there in (old, was, same ∙ named)

  row_stays : ((dataset : Dataset) → Contains datasets dataset → ComesFrom pool next_pool (head_row (pool.number + 1) dataset))
      → (row : Row) → IsRow next_pool row → Descends pool next_pool row
  row_stays heads row (SnapshotRow snapshot there) = inl (snapshot_stays pool next_pool linked rest_old_origins refl snapshot (rest.snapshots_there snapshot there))
  row_stays heads row (HeadRow dataset there) = inl (heads dataset there)
  row_stays heads row (PartialRow partial there) =
      inl (partial_stays pool next_pool linked rest_old_origins refl partial there
      (λ base is. record { there = rest.snapshots_there base is.there; is_base = is.is_base }) (had_target partial) (rest.targets partial there))

  module _ (heads : (dataset : Dataset) → Contains datasets dataset → ComesFrom pool next_pool (head_row (pool.number + 1) dataset)) where
    pub rest_next : IsNext pool next_pool
    rest_next = record {
      number = refl;
      origins = rest_old_origins;
      bookmarks = λ bookmark there. inl (rest.bookmarks_there bookmark there, rest.owners bookmark there);
      snapshots = λ snapshot there. inl (rest.snapshots_there snapshot there);
      rows = λ row there. row_stays heads row (row_cases next_pool row there);
    }

    pub rest_sound : Sound pool → Sound next_pool
    rest_sound sound = next_sound pool next_pool linked sound rest_next rest.rise
        (λ earlier row here e there before.
        let l : earlier.number ≤ pool.number = All-contains (λ s. s.number ≤ pool.number) pool.snapshots earlier sound.dated.numbers (rest.snapshots_there earlier here) in
        absurd (omega arith))

-- datasets, snapshots and bookmarks that are the pool's own, or pass a test
all_olds : (pool : Pool) (dataset : Dataset) → Contains pool.datasets dataset → (old : Dataset) × Contains pool.datasets old × (old.name ≡ dataset.name) × (old.origin ≡ dataset.origin)
all_olds pool dataset there = (dataset, there, refl, refl)

-- what a snapshot or a bookmark leaves that is destroyed
module _ (pool : Pool) (snapshots : List Snapshot) (bookmarks : List Bookmark) (linked : IsLinked pool) (sound : Sound pool)
    (some : (snapshot : Snapshot) → Contains snapshots snapshot → Contains pool.snapshots snapshot) (rise : AllPairs Rises snapshots)
    (marks : (bookmark : Bookmark) → Contains bookmarks bookmark → Contains pool.bookmarks bookmark)
  where
    abbrev fewer_pool : Pool
    fewer_pool = with_rest pool pool.datasets snapshots bookmarks

    fewer_rest : IsRest pool pool.datasets snapshots bookmarks
    fewer_rest = record {
      snapshots_there = some;
      rise = rise;
      bookmarks_there = marks;
      owners = λ bookmark there has. has;
      olds = all_olds pool;
      targets = λ partial there has. has;
    }

    fewer_head : (dataset : Dataset) → Contains pool.datasets dataset → ComesFrom pool fewer_pool (head_row (pool.number + 1) dataset)
    fewer_head dataset there = head_stays pool fewer_pool linked (rest_old_origins pool pool.datasets snapshots bookmarks linked fewer_rest) refl dataset there

    pub fewer_next : IsNext pool fewer_pool
    fewer_next = rest_next pool pool.datasets snapshots bookmarks linked fewer_rest fewer_head

    pub fewer_sound : Sound fewer_pool
    fewer_sound = rest_sound pool pool.datasets snapshots bookmarks linked fewer_rest fewer_head sound

-- what a dataset leaves that is destroyed: no partial state is for it
module _ (pool : Pool) (name : List ℕ) (linked : IsLinked pool) (sound : Sound pool)
    (free : (partial : Partial) → Contains pool.partials partial → bytes_eq partial.target name ≡ false)
  where
    abbrev left_datasets : List Dataset
    left_datasets = filter (λ dataset. not (bytes_eq dataset.name name)) pool.datasets

    abbrev left_snapshots : List Snapshot
    left_snapshots = filter (λ snapshot. not (is_of name snapshot)) pool.snapshots

    abbrev left_bookmarks : List Bookmark
    left_bookmarks = filter (λ bookmark. not (is_bookmark_of name bookmark)) pool.bookmarks

    abbrev left_pool : Pool
    left_pool = with_rest pool left_datasets left_snapshots left_bookmarks

    -- a dataset of another name is still there
    still_there : (other : List ℕ) → bytes_eq other name ≡ false → HasDataset pool other → HasDataset left_pool other
    still_there other differs (dataset, there, named) = (
      dataset,
      contains-filter (λ d. not (bytes_eq d.name name)) pool.datasets dataset there
          (not_from_false (bytes_eq dataset.name name) (ap (λ n. bytes_eq n name) named ∙ differs)),
      named,
    )

    left_owner : (bookmark : Bookmark) → Contains left_bookmarks bookmark → HasDataset pool (dataset_of_bookmark bookmark) → HasDataset left_pool (dataset_of_bookmark bookmark)
    left_owner bookmark there has =
        still_there (dataset_of_bookmark bookmark)
        (not-true (is_bookmark_of name bookmark)
        (All-contains (λ b. not (is_bookmark_of name b) ≡ true) left_bookmarks bookmark (filter_passes (λ b. not (is_bookmark_of name b)) pool.bookmarks) there)) has

    left_rest : IsRest pool left_datasets left_snapshots left_bookmarks
    left_rest = record {
      snapshots_there = filter_contains (λ s. not (is_of name s)) pool.snapshots;
      rise = AllPairs-filter Rises (λ s. not (is_of name s)) pool.snapshots sound.dated.rise;
      bookmarks_there = filter_contains (λ b. not (is_bookmark_of name b)) pool.bookmarks;
      owners = left_owner;
      olds = λ dataset there. all_olds pool dataset (filter_contains (λ d. not (bytes_eq d.name name)) pool.datasets dataset there);
      targets = λ partial there has. still_there partial.target (free partial there) has;
    }

    left_head : (dataset : Dataset) → Contains left_datasets dataset → ComesFrom pool left_pool (head_row (pool.number + 1) dataset)
    left_head dataset there =
        head_stays pool left_pool linked (rest_old_origins pool left_datasets left_snapshots left_bookmarks linked left_rest) refl dataset
        (filter_contains (λ d. not (bytes_eq d.name name)) pool.datasets dataset there)

    pub left_next : IsNext pool left_pool
    left_next = rest_next pool left_datasets left_snapshots left_bookmarks linked left_rest left_head

    pub left_sound : Sound left_pool
    left_sound = rest_sound pool left_datasets left_snapshots left_bookmarks linked left_rest left_head sound

-- what a rollback leaves: the head of the snapshot's dataset comes from the snapshot
module _ (pool : Pool) (snapshot : Snapshot) (linked : IsLinked pool) (sound : Sound pool) (there : Contains pool.snapshots snapshot) where
  abbrev of : List ℕ
  of = dataset_of_snapshot snapshot

  abbrev roll : Dataset → Dataset
  roll dataset = if bytes_eq dataset.name of then rolled_to snapshot dataset else dataset

  abbrev older_snapshots : List Snapshot
  older_snapshots = filter (λ other. not (is_newer snapshot other)) pool.snapshots

  abbrev older_bookmarks : List Bookmark
  older_bookmarks = filter (λ other. not (is_newer_bookmark snapshot other)) pool.bookmarks

  abbrev rolled_pool : Pool
  rolled_pool = with_rest pool (map roll pool.datasets) older_snapshots older_bookmarks

  -- a rolled dataset has its name and origin
  roll_seen : {A : Type 0} (seen : Dataset → A) (dataset : Dataset) → seen (rolled_to snapshot dataset) ≡ seen dataset → seen (roll dataset) ≡ seen dataset
  roll_seen {A = A} seen dataset same = go (bytes_eq dataset.name of)
    where
      go : (t : Bool) → seen (if t then rolled_to snapshot dataset else dataset) ≡ seen dataset
      go true = same
      go false = refl

  roll_has : (name : List ℕ) → HasDataset pool name → HasDataset rolled_pool name
  roll_has name (dataset, is, named) = (roll dataset, contains-map roll pool.datasets dataset is, roll_seen (λ d. d.name) dataset refl ∙ named)

  rolled_rest : IsRest pool (map roll pool.datasets) older_snapshots older_bookmarks
  rolled_rest = record {
    snapshots_there = filter_contains (λ other. not (is_newer snapshot other)) pool.snapshots;
    rise = AllPairs-filter Rises (λ other. not (is_newer snapshot other)) pool.snapshots sound.dated.rise;
    bookmarks_there = filter_contains (λ other. not (is_newer_bookmark snapshot other)) pool.bookmarks;
    owners = λ bookmark is has. roll_has (dataset_of_bookmark bookmark) has;
    olds = λ dataset is.
        let (old, was, e) = map_contains roll pool.datasets dataset is in
        (old, was, sym (roll_seen (λ d. d.name) old refl) ∙ ap (λ d. d.name) e, sym (roll_seen (λ d. d.origin) old refl) ∙ ap (λ d. d.origin) e);
    targets = λ partial is has. roll_has partial.target has;
  }

  rolled_origins : HasOrigins pool rolled_pool
  rolled_origins = rest_origins pool (map roll pool.datasets) older_snapshots older_bookmarks linked rolled_rest

  -- a number that isn't found greater is at most as great
  not_newer : (other : List ℕ) (number : ℕ) → not (bytes_eq other of && nat_lt snapshot.number number) ≡ true → other ≡ of → number ≤ snapshot.number
  not_newer other number kept same = elim (cases_lt snapshot.number number) [
    | inl newer ↦
        let is = and_from (bytes_eq other of) (nat_lt snapshot.number number) (bytes_same other of same) (lt-ltb snapshot.number number newer) in
        absurd (true≢false (sym is ∙ not-true (bytes_eq other of && nat_lt snapshot.number number) kept))
    | inr most ↦ most
  ]

  -- so a source that is left of the snapshot's dataset has at most its number
  most : (source : Source) → IsIn rolled_pool source → dataset_of_source source ≡ of → number_of_source source ≤ snapshot.number
  most (OfSnapshot other) is same =
      not_newer (dataset_of_snapshot other) other.number
      (All-contains (λ s. not (is_newer snapshot s) ≡ true) older_snapshots other (filter_passes (λ s. not (is_newer snapshot s)) pool.snapshots) is) same
  most (OfBookmark other) is same =
      not_newer (dataset_of_bookmark other) other.number
      (All-contains (λ b. not (is_newer_bookmark snapshot b) ≡ true) older_bookmarks other (filter_passes (λ b. not (is_newer_bookmark snapshot b)) pool.bookmarks) is) same

  at_most : (source : Source) → dataset_of_source source ≡ of → number_of_source source ≤ snapshot.number → StandsBy pool source (snapshot_row snapshot)
  at_most source same le = elim (cases_lt (number_of_source source) snapshot.number) [
    | inl less ↦ inl (Earlier of (Some snapshot.number) same less)
    | inr past ↦ inr (record { snapshot = snapshot; there = there; own = record { dataset = same; number = omega arith }; is = refl })
  ]

  rolled_before : (source : Source) → IsIn rolled_pool source → StandsBefore rolled_pool source of None → StandsBy pool source (snapshot_row snapshot)
  rolled_before source is (Earlier _ _ same below) = at_most source same (most source is same)
  rolled_before source is (AtOrigin _ _ origin o marks) = inl (AtOrigin of (Some snapshot.number) origin (rolled_origins origin of o) marks)
  rolled_before source is (BeforeOrigin _ _ origin o before) =
      inl (BeforeOrigin of (Some snapshot.number) origin (rolled_origins origin of o)
      (stands_on rolled_pool pool source rolled_origins (dataset_of_snapshot origin) (Some origin.number) before))

  rolled_comes : (old : Dataset) → Contains pool.datasets old → ComesFrom pool rolled_pool (head_row (pool.number + 1) (roll old))
  rolled_comes old was = go (bytes_eq old.name of) refl
    where
      go : (t : Bool) → bytes_eq old.name of ≡ t → ComesFrom pool rolled_pool (head_row (pool.number + 1) (if t then rolled_to snapshot old else old))
      go true e = record {
        old = snapshot_row snapshot;
        there = snapshot_has_row pool snapshot there;
        before = λ source here is before. rolled_before source is (subst (λ n. StandsBefore rolled_pool source n None) (same_bytes old.name of e) before);
        remembers = λ number state l h. h;
        agrees = λ earlier l h. h;
        dated = let l : snapshot.number ≤ pool.number = All-contains (λ s. s.number ≤ pool.number) pool.snapshots snapshot sound.dated.numbers there in
            dated_higher snapshot.number (pool.number + 1) (omega arith) snapshot.objects;
      }
      go false e = head_stays pool rolled_pool linked (rest_old_origins pool (map roll pool.datasets) older_snapshots older_bookmarks linked rolled_rest) refl old was

  rolled_head : (dataset : Dataset) → Contains (map roll pool.datasets) dataset → ComesFrom pool rolled_pool (head_row (pool.number + 1) dataset)
  rolled_head dataset is =
      let (old, was, e) = map_contains roll pool.datasets dataset is in subst (λ d. ComesFrom pool rolled_pool (head_row (pool.number + 1) d)) e (rolled_comes old was)

  pub rolled_next : IsNext pool rolled_pool
  rolled_next = rest_next pool (map roll pool.datasets) older_snapshots older_bookmarks linked rolled_rest rolled_head

  pub rolled_sound : Sound rolled_pool
  rolled_sound = rest_sound pool (map roll pool.datasets) older_snapshots older_bookmarks linked rolled_rest rolled_head sound

-- what an abort leaves: the partial states that pass a test
module _ (pool : Pool) (keep : Partial → Bool) (linked : IsLinked pool) (sound : Sound pool) where
  abbrev aborted_pool : Pool
  aborted_pool = record pool { partials = filter keep pool.partials; number = pool.number + 1 }

  aborted_origins : HasOldOrigins pool aborted_pool
  aborted_origins origin name has is = record { dataset = is.dataset; there = is.there; named = is.named; snapshot_there = is.snapshot_there; is_origin = is.is_origin }

  aborted_row : (row : Row) → IsRow aborted_pool row → Descends pool aborted_pool row
  aborted_row row (SnapshotRow snapshot there) = inl (snapshot_stays pool aborted_pool linked aborted_origins refl snapshot there)
  aborted_row row (HeadRow dataset there) = inl (head_stays pool aborted_pool linked aborted_origins refl dataset there)
  aborted_row row (PartialRow partial there) =
      inl (partial_stays pool aborted_pool linked aborted_origins refl partial (filter_contains keep pool.partials partial there)
      (λ base is. record { there = is.there; is_base = is.is_base }) (λ has. has) (λ has. has))

  pub aborted_next : IsNext pool aborted_pool
  aborted_next = record {
    number = refl;
    origins = aborted_origins;
    bookmarks = λ bookmark there. inl (there, λ has. has);
    snapshots = λ snapshot there. inl there;
    rows = λ row there. aborted_row row (row_cases aborted_pool row there);
  }

  pub aborted_sound : Sound aborted_pool
  aborted_sound = next_sound pool aborted_pool linked sound aborted_next sound.dated.rise
      (λ earlier row here e there before.
      let l : earlier.number ≤ pool.number = All-contains (λ s. s.number ≤ pool.number) pool.snapshots earlier sound.dated.numbers here in
      absurd (omega arith))
