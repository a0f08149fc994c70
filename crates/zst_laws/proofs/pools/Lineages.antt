-- What clone, bookmark, rollback and destroy make of a pool, and what they leave.
use Rattle.std.proofs.Common.{◌≡◌, ◌≢◌, inl, inr, ℕ, ◌+◌, Bool, true, false, not, List, [], map, filter, Option, Some, None, option_map, Contains, bytes_eq, if◌then◌else◌, nat_lt, refl, sym, ap, subst, ◌∙◌}
use Rattle.std.proofs.lemmas.Bool.{true≢false, not-true, not_from_false, false_from_ne_true, and_from, and_parts, lt-ltb, ltb-true}
use Rattle.std.proofs.lemmas.List.Elements.{All-contains, filter_passes}
use Rattle.std.proofs.lemmas.Option.{same_Some}
use Rattle.zst_names.specs.Names.{dataset_of}
use Rattle.zst_model.specs.pools.Pool.{Pool, Dataset, Snapshot, Bookmark, dataset_named, bookmark_named, dataset_of_snapshot, dataset_of_bookmark, is_before}
use Rattle.zst_model.specs.pools.Step.{Stepped, stepped, clone_of, bookmark_of, is_newer, is_newer_bookmark, rolled_to, is_of, is_bookmark_of}
use Rattle.zst_model.proofs.InsertedLaws.{contains_nothing}
use Rattle.zst_model.proofs.OrderLaws.{same_bytes, bytes_same}
use Rattle.zst_model.proofs.Options.{none_there}
use Rattle.zst_model.proofs.FoundElements.{none_passes}
use Rattle.zst_model.proofs.FilteredLists.{filter_contains, contains-filter}
use Rattle.zst_model.proofs.NameTests.{differ}
use Rattle.zst_laws.specs.StepRefusals.{dataset_before}
use Rattle.zst_laws.specs.Lineage.{dataset_before_mark, IsNewer, IsNewerMark, HasAllBut, OtherDatasetsStay, CloneMakes, BookmarkMakes, RollbackMakes, RollbackWantsNewest, DatasetGoes, SnapshotGoes, BookmarkGoes}
use Rattle.zst_laws.proofs.pools.Rows.{none_from_absent, named_found, committed_ok}
use Rattle.zst_laws.proofs.pools.Lookups.{find-inserted_row, find-inserted_other, find-filter, find-map}
use Rattle.zst_laws.proofs.pools.AcceptedCommands.{with_clone_ok, with_bookmark_ok}
use Rattle.zst_laws.proofs.pools.AcceptedRemovals.{IsNewest, with_rollback_ok, dataset_destroyed_ok, snapshot_destroyed_ok, bookmark_destroyed_ok}

-- what a filter leaves is what was there but for what goes
left_but : {A : Type 0} (test : A → Bool) (xs : List A) (goes : A → Type 0) → ((x : A) → test x ≡ true → goes x) → ((x : A) → goes x → test x ≡ true)
    → HasAllBut (filter (λ x. not (test x)) xs) xs goes
left_but {A = A} test xs goes had passes x = (λ there. (filter_contains keep xs x there, λ g. stays x (kept x there) g), λ (there, free). contains-filter keep xs x there (not_from_false (test x) (false_from_ne_true (test x) (λ t. free (had x t)))))
  where
    keep : A → Bool
    keep y = not (test y)

    kept : (y : A) → Contains (filter keep xs) y → keep y ≡ true
    kept y there = All-contains (λ z. keep z ≡ true) (filter keep xs) y (filter_passes keep xs) there

    stays : (y : A) → keep y ≡ true → goes y → ⊥
    stays y e g = true≢false (sym (passes y g) ∙ not-true (test y) e)

-- a clone
clone_row : (name origin : List ℕ) (s t : Snapshot) (c d : Dataset) → s ≡ t → c ≡ d → s.name ≡ origin
    → clone_of name c s ≡ record { name = name; kind = d.kind; origin = Some origin; head = t.objects; redact = t.redact }
clone_row name origin s t c d e f named =
    ap (λ n. record { name = name; kind = c.kind; origin = Some n; head = s.objects; redact = s.redact }) named
    ∙ ap (λ (x : Snapshot). record { name = name; kind = c.kind; origin = Some origin; head = x.objects; redact = x.redact }) e
    ∙ ap (λ (x : Dataset). record { name = name; kind = x.kind; origin = Some origin; head = t.objects; redact = t.redact }) f

pub clone_makes : CloneMakes
unfolding stepped
clone_makes held now origin name pool after snapshot source h found of_source =
    let cloned = with_clone_ok origin name pool after h in
    let same = same_Some cloned.snapshot snapshot (sym cloned.there ∙ found) in
    let named = (named_found (λ s. s.name) origin pool.snapshots cloned.snapshot cloned.there).1 in
    let from : dataset_named (dataset_of_snapshot cloned.snapshot) pool ≡ Some source = ap (λ n. dataset_named (dataset_of 64 n) pool) named ∙ of_source in
    let source_same = same_Some cloned.source source (sym cloned.source_there ∙ from) in
    let row = clone_of name cloned.source cloned.snapshot in
    let none = none_passes (λ d. bytes_eq d.name name) pool.datasets (none_there (dataset_named name pool) cloned.new.absent) in
    subst (λ (s : Stepped).
    (dataset_named name s.pool ≡ Some (record { name = name; kind = source.kind; origin = Some origin; head = snapshot.objects; redact = snapshot.redact }))
    × OtherDatasetsStay name pool s.pool
    × (s.pool ≡ record pool { number = pool.number + 1; datasets = s.pool.datasets })) (committed_ok _ after cloned.new.made).1 (
      find-inserted_row (λ d. bytes_eq d.name name) (λ a b. is_before a.name b.name) row pool.datasets none (bytes_same name name refl)
          ∙ ap (λ d. Some d) (clone_row name origin cloned.snapshot snapshot cloned.source source same source_same named),
      λ other apart. find-inserted_other (λ d. bytes_eq d.name other) (λ a b. is_before a.name b.name) row pool.datasets (differ name other (λ e. apart (sym e))),
      refl,
    )

-- a bookmark
pub bookmark_makes : BookmarkMakes
unfolding stepped
bookmark_makes held now of name pool after snapshot h found =
    let made = with_bookmark_ok of name pool after h in
    let same = same_Some made.snapshot snapshot (sym made.there ∙ found) in
    let named = (named_found (λ s. s.name) of pool.snapshots made.snapshot made.there).1 in
    let row = bookmark_of name made.snapshot in
    let none = none_passes (λ b. bytes_eq b.name name) pool.bookmarks (none_there (bookmark_named name pool) made.absent) in
    subst (λ (s : Stepped).
    (bookmark_named name s.pool ≡ Some (record { name = name; guid = snapshot.guid; time = snapshot.time; number = snapshot.number; redact = []; runs = [] }))
    × (dataset_before_mark name ≡ dataset_before of)
    × ((other : List ℕ) → other ≢ name → bookmark_named other s.pool ≡ bookmark_named other pool)
    × (s.pool ≡ record pool { number = pool.number + 1; bookmarks = s.pool.bookmarks })) (committed_ok _ after made.made).1 (
      find-inserted_row (λ b. bytes_eq b.name name) (λ a b. is_before a.name b.name) row pool.bookmarks none (bytes_same name name refl)
          ∙ ap (λ s. Some (bookmark_of name s)) same,
      sym made.same ∙ ap (dataset_of 64) named,
      λ other apart. find-inserted_other (λ b. bytes_eq b.name other) (λ a b. is_before a.name b.name) row pool.bookmarks (differ name other (λ e. apart (sym e))),
      refl,
    )

-- what is found newer is newer
pub newer_had : (snapshot other : Snapshot) → is_newer snapshot other ≡ true → IsNewer snapshot other
newer_had snapshot other h =
    let both = and_parts (bytes_eq (dataset_of_snapshot other) (dataset_of_snapshot snapshot)) (nat_lt snapshot.number other.number) h in
    record { of_one = same_bytes (dataset_of_snapshot other) (dataset_of_snapshot snapshot) both.0; later = ltb-true snapshot.number other.number both.1 }

pub newer_passes : (snapshot other : Snapshot) → IsNewer snapshot other → is_newer snapshot other ≡ true
newer_passes snapshot other h =
    and_from (bytes_eq (dataset_of_snapshot other) (dataset_of_snapshot snapshot)) (nat_lt snapshot.number other.number)
    (bytes_same (dataset_of_snapshot other) (dataset_of_snapshot snapshot) h.of_one) (lt-ltb snapshot.number other.number h.later)

pub mark_had : (snapshot : Snapshot) (other : Bookmark) → is_newer_bookmark snapshot other ≡ true → IsNewerMark snapshot other
mark_had snapshot other h =
    let both = and_parts (bytes_eq (dataset_of_bookmark other) (dataset_of_snapshot snapshot)) (nat_lt snapshot.number other.number) h in
    record { of_one = same_bytes (dataset_of_bookmark other) (dataset_of_snapshot snapshot) both.0; later = ltb-true snapshot.number other.number both.1 }

pub mark_passes : (snapshot : Snapshot) (other : Bookmark) → IsNewerMark snapshot other → is_newer_bookmark snapshot other ≡ true
mark_passes snapshot other h =
    and_from (bytes_eq (dataset_of_bookmark other) (dataset_of_snapshot snapshot)) (nat_lt snapshot.number other.number)
    (bytes_same (dataset_of_bookmark other) (dataset_of_snapshot snapshot) h.of_one) (lt-ltb snapshot.number other.number h.later)

-- a rollback
module _ (snapshot : Snapshot) (pool : Pool) (name : List ℕ) (named : snapshot.name ≡ name) where
  abbrev of : List ℕ
  of = dataset_before name

  abbrev roll : Dataset → Dataset
  roll dataset = if bytes_eq dataset.name (dataset_of_snapshot snapshot) then rolled_to snapshot dataset else dataset

  abbrev rolled : Pool
  rolled = record pool { datasets = map roll pool.datasets }

  own : dataset_of_snapshot snapshot ≡ of
  own = ap (dataset_of 64) named

  roll_name : (dataset : Dataset) → (roll dataset).name ≡ dataset.name
  roll_name dataset = go (bytes_eq dataset.name (dataset_of_snapshot snapshot))
    where
      go : (t : Bool) → (if t then rolled_to snapshot dataset else dataset).name ≡ dataset.name
      go true = refl
      go false = refl

  found_rolled : (other : List ℕ) → dataset_named other rolled ≡ option_map roll (dataset_named other pool)
  found_rolled other = find-map (λ d. bytes_eq d.name other) roll pool.datasets (λ d. ap (λ n. bytes_eq n other) (roll_name d))

  rolled_own : (dataset : Dataset) → dataset_named of pool ≡ Some dataset → dataset_named of rolled ≡ Some (rolled_to snapshot dataset)
  rolled_own dataset found =
      let is = (named_found (λ d. d.name) of pool.datasets dataset found).1 in
      let test : bytes_eq dataset.name (dataset_of_snapshot snapshot) ≡ true = bytes_same dataset.name (dataset_of_snapshot snapshot) (is ∙ sym own) in
      found_rolled of ∙ ap (option_map roll) found ∙ ap (λ t. Some (if t then rolled_to snapshot dataset else dataset)) test

  stays : (other : List ℕ) → other ≢ of → (o : Option Dataset) → dataset_named other pool ≡ o → option_map roll o ≡ o
  stays other apart None found = refl
  stays other apart (Some dataset) found =
      let is = (named_found (λ d. d.name) other pool.datasets dataset found).1 in
      let test = differ dataset.name (dataset_of_snapshot snapshot) (λ e. apart (sym is ∙ e ∙ own)) in ap (λ t. Some (if t then rolled_to snapshot dataset else dataset)) test

  rolled_others : OtherDatasetsStay of pool rolled
  rolled_others other apart = found_rolled other ∙ stays other apart (dataset_named other pool) refl

pub rollback_makes : RollbackMakes
unfolding stepped
rollback_makes held now destroys name pool after snapshot dataset h found of_dataset =
    let made = with_rollback_ok held destroys name pool after h in
    let same = same_Some made.snapshot snapshot (sym made.there ∙ found) in
    let named = (named_found (λ s. s.name) name pool.snapshots made.snapshot made.there).1 in
    subst (λ (t : Snapshot). (dataset_named (dataset_before name) after.pool ≡ Some (rolled_to t dataset))
    × OtherDatasetsStay (dataset_before name) pool after.pool
    × HasAllBut after.pool.snapshots pool.snapshots (IsNewer t)
    × HasAllBut after.pool.bookmarks pool.bookmarks (IsNewerMark t)
    × (after.pool ≡ record pool { number = pool.number + 1; datasets = after.pool.datasets; snapshots = after.pool.snapshots; bookmarks = after.pool.bookmarks })) same
    (subst (λ (s : Stepped). (dataset_named (dataset_before name) s.pool ≡ Some (rolled_to made.snapshot dataset))
    × OtherDatasetsStay (dataset_before name) pool s.pool
    × HasAllBut s.pool.snapshots pool.snapshots (IsNewer made.snapshot)
    × HasAllBut s.pool.bookmarks pool.bookmarks (IsNewerMark made.snapshot)
    × (s.pool ≡ record pool { number = pool.number + 1; datasets = s.pool.datasets; snapshots = s.pool.snapshots; bookmarks = s.pool.bookmarks })) (committed_ok _ after made.made).1 (
      rolled_own made.snapshot pool name named dataset of_dataset,
      rolled_others made.snapshot pool name named,
      left_but (is_newer made.snapshot) pool.snapshots (IsNewer made.snapshot) (newer_had made.snapshot) (newer_passes made.snapshot),
      left_but (is_newer_bookmark made.snapshot) pool.bookmarks (IsNewerMark made.snapshot) (mark_had made.snapshot) (mark_passes made.snapshot),
      refl,
    ))

nothing_newer : (snapshot : Snapshot) (pool : Pool) → IsNewest snapshot pool
    → ((newer : Snapshot) → Contains pool.snapshots newer → IsNewer snapshot newer → ⊥) × ((newer : Bookmark) → Contains pool.bookmarks newer → IsNewerMark snapshot newer → ⊥)
nothing_newer snapshot pool newest = (
  λ newer there is. contains_nothing newer
      (subst (λ xs. Contains xs newer) newest.snapshots (contains-filter (is_newer snapshot) pool.snapshots newer there (newer_passes snapshot newer is))),
  λ newer there is. true≢false (sym (mark_passes snapshot newer is) ∙ newest.bookmarks newer there),
)

pub rollback_wants : RollbackWantsNewest
unfolding stepped
rollback_wants held now name pool after snapshot h found =
    let made = with_rollback_ok held false name pool after h in
    let same = same_Some made.snapshot snapshot (sym made.there ∙ found) in
    elim made.newest [
      | inl e ↦ absurd (true≢false (sym e))
      | inr newest ↦ nothing_newer snapshot pool (subst (λ t. IsNewest t pool) same newest)
    ]

-- a destroy
pub dataset_goes : DatasetGoes
unfolding stepped
dataset_goes held now name pool after h =
    subst (λ (s : Stepped). (dataset_named name s.pool ≡ None)
    × OtherDatasetsStay name pool s.pool
    × HasAllBut s.pool.snapshots pool.snapshots (λ snapshot. dataset_before snapshot.name ≡ name)
    × HasAllBut s.pool.bookmarks pool.bookmarks (λ bookmark. dataset_before_mark bookmark.name ≡ name)
    × (s.pool ≡ record pool { number = pool.number + 1; datasets = s.pool.datasets; snapshots = s.pool.snapshots; bookmarks = s.pool.bookmarks }))
    (committed_ok _ after (dataset_destroyed_ok held name pool after h).made).1 (
      none_from_absent (λ d. bytes_eq d.name name) (filter (λ (d : Dataset). not (bytes_eq d.name name)) pool.datasets) gone,
      λ other apart. find-filter (λ d. bytes_eq d.name other) (λ (d : Dataset). not (bytes_eq d.name name)) pool.datasets
          (λ d passes. not_from_false (bytes_eq d.name name) (differ d.name name (λ e. apart (sym (same_bytes d.name other passes) ∙ e)))),
      left_but (is_of name) pool.snapshots (λ s. dataset_before s.name ≡ name) (λ s. same_bytes (dataset_of_snapshot s) name) (λ s. bytes_same (dataset_of_snapshot s) name),
      left_but (is_bookmark_of name) pool.bookmarks (λ b. dataset_before_mark b.name ≡ name) (λ b. same_bytes (dataset_of_bookmark b) name) (λ b. bytes_same (dataset_of_bookmark b) name),
      refl,
    )
  where
    gone : (d : Dataset) → Contains (filter (λ (d : Dataset). not (bytes_eq d.name name)) pool.datasets) d → bytes_eq d.name name ≡ false
    gone d there =
        not-true (bytes_eq d.name name)
        (All-contains (λ d. not (bytes_eq d.name name) ≡ true) (filter (λ (d : Dataset). not (bytes_eq d.name name)) pool.datasets) d
        (filter_passes (λ (d : Dataset). not (bytes_eq d.name name)) pool.datasets) there)

pub snapshot_goes : SnapshotGoes
unfolding stepped
snapshot_goes held now name pool after h =
    subst (λ (s : Stepped). HasAllBut s.pool.snapshots pool.snapshots (λ snapshot. snapshot.name ≡ name)
    × (s.pool ≡ record pool { number = pool.number + 1; snapshots = s.pool.snapshots }))
    (committed_ok _ after (snapshot_destroyed_ok held name pool after h).made).1
    (left_but (λ s. bytes_eq s.name name) pool.snapshots (λ s. s.name ≡ name) (λ s. same_bytes s.name name) (λ s. bytes_same s.name name), refl)

pub bookmark_goes : BookmarkGoes
unfolding stepped
bookmark_goes held now name pool after h =
    subst (λ (s : Stepped). HasAllBut s.pool.bookmarks pool.bookmarks (λ bookmark. bookmark.name ≡ name)
    × (s.pool ≡ record pool { number = pool.number + 1; bookmarks = s.pool.bookmarks }))
    (committed_ok _ after (bookmark_destroyed_ok held name pool after h).made).1
    (left_but (λ b. bytes_eq b.name name) pool.bookmarks (λ b. b.name ≡ name) (λ b. same_bytes b.name name) (λ b. bytes_same b.name name), refl)
