-- Which rollbacks and destroys are refused, and for whom.
use Rattle.std.proofs.Common.{◌≡◌, inl, inr, ℕ, Bool, true, false, ◌||◌, List, [], ◌∷◌, map, filter, find, Option, Some, None, Result, Err, Contains, bytes_eq, if◌then◌else◌, refl, sym, ap, subst, ◌∙◌}
use Rattle.std.proofs.lemmas.Bool.{true≢false, false_from_ne_true, or_left, or_right, or_cases}
use Rattle.std.proofs.lemmas.List.Elements.{All-contains, filter_passes}
use Rattle.std.proofs.lemmas.Option.{same_Some}
use Rattle.zst_model.specs.declared.pools.command.Command.{Command}
use Rattle.zst_model.specs.declared.pools.command.Command.TheVariants as commands
use Rattle.zst_model.specs.declared.refusals.faults.Quantity.TheVariants as quantities
use Rattle.zst_model.specs.declared.refusals.subjects.Name.TheVariants as names
use Rattle.zst_model.specs.declared.refusals.refusal.Refusal.{Refusal}
use Rattle.zst_model.specs.declared.refusals.refusal.Refusal.TheVariants as refusals
use Rattle.zst_names.specs.Names.{dataset_of}
use Rattle.zst_model.specs.pools.Sessions.{Held, session_with, unless_busy}
use Rattle.zst_model.specs.pools.Pool.{Pool, Dataset, Snapshot, Bookmark, Partial, IsPool, dataset_named, snapshot_named, dataset_of_snapshot, is_before}
use Rattle.zst_model.specs.pools.Step.{Stepped, stepped, no_such, busy_partial, busy_clone, busy_bookmark, busy_snapshot, or_else, unless_there, committed, is_one_of, session_of_one, unless_used, is_newer, is_newer_bookmark, newer_snapshots, lesser_name, least_name, destroyed_by, unless_newer, rolled_back, is_of, without_dataset, without_snapshot, without_bookmark}
use Rattle.zst_model.proofs.InsertedLaws.{contains_first, contains_later, contains_cases, contains_nothing, contains-map, map_contains}
use Rattle.zst_model.proofs.OrderLaws.{same_bytes, bytes_same, before_cases, before_trans, not_before_itself}
use Rattle.zst_model.proofs.Options.{there_is}
use Rattle.zst_model.proofs.FoundElements.{none_passes}
use Rattle.zst_model.proofs.FilteredLists.{filter_contains, contains-filter}
use Rattle.zst_model.proofs.ListTests.{passed_by_some}
use Rattle.zst_laws.specs.Lineage.{IsNewer, IsNewerMark}
use Rattle.zst_laws.specs.StepRefusals.{dataset_before}
use Rattle.zst_laws.specs.LineageRefusals.{NothingToDestroy, IsFound, Destroys, Touches, IsDestroyed, HoldsAsPartial, HoldsAsClone, IsLeastHolder, NoneHolds, PartialIsNamed, CloneIsNamed, IsRollback, NewerMarkIsNamed, NewerSnapshotIsNamed, IsNewestOf, DestroyHasNoNumber, BookmarkStays}
use Rattle.zst_laws.proofs.pools.Rows.{named_found, none_from_absent}
use Rattle.zst_laws.proofs.pools.Filters.{some_passes}
use Rattle.zst_laws.proofs.pools.Lookups.{find_least}
use Rattle.zst_laws.proofs.pools.Lineages.{newer_had, newer_passes, mark_had, mark_passes}
use Rattle.zst_laws.proofs.pools.StepRefusals.{no_number}
use Rattle.zst_laws.proofs.pools.HoldingSessions.{free_ones}

-- the tests that a command makes of partial states and snapshots are what it touches and destroys
record Tells (pool : Pool) (command : Command) (is_such : Partial → Bool) (gone : List Snapshot) : Type 0 where
  such : (partial : Partial) → is_such partial ≡ true → Touches command partial.target
  such_back : (partial : Partial) → Touches command partial.target → is_such partial ≡ true
  goes : (snapshot : Snapshot) → Contains gone snapshot → Contains pool.snapshots snapshot × Destroys pool command snapshot
  goes_back : (snapshot : Snapshot) → Contains pool.snapshots snapshot → Destroys pool command snapshot → is_one_of gone (Some snapshot.name) ≡ true

module _ (pool : Pool) (command : Command) (is_such : Partial → Bool) (gone : List Snapshot) (tells : Tells pool command is_such gone) where
  abbrev is_based : Partial → Bool
  is_based partial = is_such partial || is_one_of gone partial.base

  abbrev is_clone : Dataset → Bool
  is_clone dataset = is_one_of gone dataset.origin

  destroyed : (name : Option (List ℕ)) → is_one_of gone name ≡ true → IsDestroyed pool command name
  destroyed None h = absurd (true≢false (sym h))
  destroyed (Some name) h =
      let (s, there, same) = some_passes (λ s. bytes_eq s.name name) gone h in
      let is = tells.goes s there in (s, is.0, is.1, ap (λ n. Some n) (sym (same_bytes s.name name same)))

  destroyed_back : (name : Option (List ℕ)) → IsDestroyed pool command name → is_one_of gone name ≡ true
  destroyed_back name (s, there, goes, same) = ap (is_one_of gone) same ∙ tells.goes_back s there goes

  holds : (partial : Partial) → is_based partial ≡ true → HoldsAsPartial pool command partial
  holds partial h = elim (or_cases (is_such partial) (is_one_of gone partial.base) h) [
    | inl e ↦ inl (tells.such partial e)
    | inr e ↦ inr (destroyed partial.base e)
  ]

  holds_back : (partial : Partial) → HoldsAsPartial pool command partial → is_based partial ≡ true
  holds_back partial (inl h) = or_left (is_such partial) (is_one_of gone partial.base) (tells.such_back partial h)
  holds_back partial (inr h) = or_right (is_such partial) (is_one_of gone partial.base) (destroyed_back partial.base h)

  -- a partial state is named, or none stands in the way
  used_partial : (rest : Result Stepped Refusal) (partial : Partial) → IsPool pool → IsLeastHolder (λ p. p.target) (HoldsAsPartial pool command) pool.partials partial
      → unless_used is_such gone pool rest ≡ Err (busy_partial partial.target)
  used_partial rest partial lawful h =
      ap (λ o. unless_there (λ (p : Partial). busy_partial p.target) o (unless_there (λ (d : Dataset). busy_clone d.name) (find is_clone pool.datasets) rest))
      (find_least is_based (λ p. p.target) pool.partials partial lawful.named.partials h.there (holds_back partial h.holds_it) (λ other there passes. h.least other there (holds other passes)))

  no_partial : (rest : Result Stepped Refusal) → NoneHolds (HoldsAsPartial pool command) pool.partials
      → unless_used is_such gone pool rest ≡ unless_there (λ (d : Dataset). busy_clone d.name) (find is_clone pool.datasets) rest
  no_partial rest none =
      ap (λ o. unless_there (λ (p : Partial). busy_partial p.target) o (unless_there (λ (d : Dataset). busy_clone d.name) (find is_clone pool.datasets) rest))
      (none_from_absent is_based pool.partials (λ p there. false_from_ne_true (is_based p) (λ e. none p there (holds p e))))

  -- then a clone
  used_clone : (rest : Result Stepped Refusal) (dataset : Dataset) → IsPool pool → NoneHolds (HoldsAsPartial pool command) pool.partials
      → IsLeastHolder (λ d. d.name) (HoldsAsClone pool command) pool.datasets dataset → unless_used is_such gone pool rest ≡ Err (busy_clone dataset.name)
  used_clone rest dataset lawful none h =
      no_partial rest none
      ∙ ap (λ o. unless_there (λ (d : Dataset). busy_clone d.name) o rest)
      (find_least is_clone (λ d. d.name) pool.datasets dataset lawful.named.datasets h.there (destroyed_back dataset.origin h.holds_it)
      (λ other there passes. h.least other there (destroyed other.origin passes)))

  used_none : (rest : Result Stepped Refusal) → NoneHolds (HoldsAsPartial pool command) pool.partials → NoneHolds (HoldsAsClone pool command) pool.datasets
      → unless_used is_such gone pool rest ≡ rest
  used_none rest none unused =
      no_partial rest none
      ∙ ap (λ o. unless_there (λ (d : Dataset). busy_clone d.name) o rest)
      (none_from_absent is_clone pool.datasets (λ d there. false_from_ne_true (is_clone d) (λ e. unused d there (destroyed d.origin e))))

-- a snapshot that is one of a list has the name of one of it
pub named_in : (gone : List Snapshot) (s : Snapshot) → Contains gone s → is_one_of gone (Some s.name) ≡ true
named_in gone s there = passed_by_some (λ other. bytes_eq other.name s.name) gone s there (bytes_same s.name s.name refl)

-- without sessions
record IsForm (pool : Pool) (command : Command) (now : ℕ) : Type 0 where
  is_such : Partial → Bool
  gone : List Snapshot
  rest : Result Stepped Refusal
  tells : Tells pool command is_such gone
  form : stepped [] now command pool ≡ unless_used is_such gone pool rest
  last : IsNewestOf pool command → pool.number ≡ 9223372036854775808 → rest ≡ Err (refusals.Limit quantities.Number 9223372036854775808)

-- what is found by a name
-- rollback with -r
abbrev rollback_rest : Pool → Bool → Snapshot → Result Stepped Refusal
rollback_rest pool destroys own = unless_newer destroys own pool (committed (rolled_back own pool))

abbrev is_for_own : Snapshot → Partial → Bool
is_for_own own partial = bytes_eq partial.target (dataset_of_snapshot own)

module _ (pool : Pool) (name : List ℕ) (own : Snapshot) (found : snapshot_named name pool ≡ Some own) where
  own_dataset : dataset_of_snapshot own ≡ dataset_before name
  own_dataset = ap (dataset_of 64) (named_found (λ s. s.name) name pool.snapshots own found).1

  newer_goes : (s : Snapshot) → Contains (newer_snapshots own pool) s → Contains pool.snapshots s × Destroys pool (commands.Rollback true name) s
  newer_goes s there =
      let passes = All-contains (λ s. is_newer own s ≡ true) (newer_snapshots own pool) s (filter_passes (is_newer own) pool.snapshots) there in
      (filter_contains (is_newer own) pool.snapshots s there, (own, found, newer_had own s passes))

  newer_goes_back : (s : Snapshot) → Contains pool.snapshots s → Destroys pool (commands.Rollback true name) s → is_one_of (newer_snapshots own pool) (Some s.name) ≡ true
  newer_goes_back s there (other, is, newer) =
      let same = same_Some other own (sym is ∙ found) in
      named_in (newer_snapshots own pool) s (contains-filter (is_newer own) pool.snapshots s there (newer_passes own s (subst (λ o. IsNewer o s) same newer)))

  tells_newer : Tells pool (commands.Rollback true name) (is_for_own own) (newer_snapshots own pool)
  tells_newer = record {
    such = λ partial e. same_bytes partial.target (dataset_of_snapshot own) e ∙ own_dataset;
    such_back = λ partial e. bytes_same partial.target (dataset_of_snapshot own) (e ∙ sym own_dataset);
    goes = newer_goes;
    goes_back = newer_goes_back;
  }

  -- and without, which destroys nothing
  tells_kept : Tells pool (commands.Rollback false name) (is_for_own own) []
  tells_kept = record {
    such = λ partial e. same_bytes partial.target (dataset_of_snapshot own) e ∙ own_dataset;
    such_back = λ partial e. bytes_same partial.target (dataset_of_snapshot own) (e ∙ sym own_dataset);
    goes = λ s there. absurd (contains_nothing s there);
    goes_back = λ s there h. absurd h;
  }

  rollback_form : (destroys : Bool) (now : ℕ) → stepped [] now (commands.Rollback destroys name) pool
      ≡ unless_used (is_for_own own) (destroyed_by destroys own pool) pool (rollback_rest pool destroys own)
  unfolding stepped
  rollback_form destroys now =
      ap (λ o. or_else (no_such (names.Snapshot name)) o (λ s. unless_used (is_for_own s) (destroyed_by destroys s pool) pool (rollback_rest pool destroys s))) found

-- a filter whose test none passes leaves nothing
filter_absent : {A : Type 0} (p : A → Bool) (xs : List A) → ((x : A) → Contains xs x → p x ≡ false) → filter p xs ≡ []
filter_absent p [] none = refl
filter_absent p (y ∷ ys) none =
    ap (λ t. if t then y ∷ filter p ys else filter p ys) (none y (contains_first y ys)) ∙ filter_absent p ys (λ x there. none x (contains_later y ys x there))

-- what a rollback without -r finds newer
module _ (own : Snapshot) (pool : Pool) (rest : Result Stepped Refusal) where
  abbrev newer_names : List (List ℕ)
  newer_names = map (λ (s : Snapshot). s.name) (newer_snapshots own pool)

  no_mark : NoneHolds (IsNewerMark own) pool.bookmarks → unless_newer false own pool rest ≡ unless_there busy_snapshot (least_name newer_names) rest
  no_mark none =
      ap (λ o. unless_there (λ (b : Bookmark). busy_bookmark b.name) o (unless_there busy_snapshot (least_name newer_names) rest))
      (none_from_absent (is_newer_bookmark own) pool.bookmarks (λ b there. false_from_ne_true (is_newer_bookmark own b) (λ e. none b there (mark_had own b e))))

  no_newer : NoneHolds (IsNewer own) pool.snapshots × NoneHolds (IsNewerMark own) pool.bookmarks → unless_newer false own pool rest ≡ rest
  no_newer none =
      no_mark none.1
      ∙ ap (λ (xs : List Snapshot). unless_there busy_snapshot (least_name (map (λ (s : Snapshot). s.name) xs)) rest)
      (filter_absent (is_newer own) pool.snapshots (λ s there. false_from_ne_true (is_newer own s) (λ e. none.0 s there (newer_had own s e))))

  -- the bookmark with the least name
  mark_first : (bookmark : Bookmark) → IsPool pool → IsLeastHolder (λ b. b.name) (IsNewerMark own) pool.bookmarks bookmark → unless_newer false own pool rest ≡ Err (busy_bookmark bookmark.name)
  mark_first bookmark lawful h =
      ap (λ o. unless_there (λ (b : Bookmark). busy_bookmark b.name) o (unless_there busy_snapshot (least_name newer_names) rest))
      (find_least (is_newer_bookmark own) (λ b. b.name) pool.bookmarks bookmark lawful.named.bookmarks h.there (mark_passes own bookmark h.holds_it)
      (λ other there passes. h.least other there (mark_had own other passes)))

-- what is no later than all is the least name
record IsLeastName (names : List (List ℕ)) (one : List ℕ) : Type 0 where
  there : Contains names one
  least : (other : List ℕ) → Contains names other → is_before other one ≡ false

not_itself : (name : List ℕ) → is_before name name ≡ false
not_itself name = false_from_ne_true (is_before name name) (not_before_itself name)

least_exists : (x : List ℕ) (xs : List (List ℕ)) → (l : List ℕ) × (least_name (x ∷ xs) ≡ Some l) × IsLeastName (x ∷ xs) l
least_exists x [] = (
  x,
  refl,
  record {
    there = contains_first x [];
    least = λ other there. elim (contains_cases x [] other there) [
      | inl e ↦ subst (λ o. is_before o x ≡ false) e (not_itself x)
      | inr later ↦ absurd (contains_nothing other later)
    ];
  },
)
least_exists x (y ∷ ys) = go (least_exists y ys)
  where
    by_order : (l : List ℕ) → Contains (y ∷ ys) l → ((other : List ℕ) → Contains (y ∷ ys) other → is_before other l ≡ false)
        → (t : Bool) → is_before l x ≡ t → (m : List ℕ) × (◌≡◌ {A = Option (List ℕ)} (Some (if t then l else x)) (Some m)) × IsLeastName (x ∷ y ∷ ys) m
    by_order l there least true e = (
      l,
      refl,
      record {
        there = contains_later x (y ∷ ys) l there;
        least = λ other is. elim (contains_cases x (y ∷ ys) other is) [
          | inl same ↦ false_from_ne_true (is_before other l) (λ b. not_before_itself l (before_trans l x l e (subst (λ o. is_before o l ≡ true) (sym same) b)))
          | inr later ↦ least other later
        ];
      },
    )
    by_order l there least false e = (
      x,
      refl,
      record {
        there = contains_first x (y ∷ ys);
        least = λ other is. elim (contains_cases x (y ∷ ys) other is) [
          | inl same ↦ subst (λ o. is_before o x ≡ false) same (not_itself x)
          | inr later ↦ false_from_ne_true (is_before other x) (λ b. elim (before_cases l other) [
            | inl first ↦ true≢false (sym (before_trans l other x first b) ∙ e)
            | inr (inl same) ↦ true≢false (sym (subst (λ o. is_before o x ≡ true) (sym same) b) ∙ e)
            | inr (inr second) ↦ true≢false (sym second ∙ least other later)
          ])
        ];
      },
    )

    go : (l : List ℕ) × (least_name (y ∷ ys) ≡ Some l) × IsLeastName (y ∷ ys) l → (m : List ℕ) × (least_name (x ∷ y ∷ ys) ≡ Some m) × IsLeastName (x ∷ y ∷ ys) m
    go (l, e, is_least) =
        let (m, f, is) = by_order l is_least.there is_least.least (is_before l x) refl in (m, ap (λ o. Some (lesser_name x o)) e ∙ f, is)

least_is_named : (names : List (List ℕ)) (one : List ℕ) → IsLeastName names one → least_name names ≡ Some one
least_is_named [] one h = absurd (contains_nothing one h.there)
least_is_named (x ∷ xs) one h =
    let (l, e, is) = least_exists x xs in
    elim (before_cases l one) [
      | inl first ↦ absurd (true≢false (sym first ∙ h.least l is.there))
      | inr (inl same) ↦ e ∙ ap (λ n. Some n) same
      | inr (inr second) ↦ absurd (true≢false (sym second ∙ is.least one h.there))
    ]

-- the newer snapshot with the least name
newer_first : (own : Snapshot) (pool : Pool) (rest : Result Stepped Refusal) (newer : Snapshot) → NoneHolds (IsNewerMark own) pool.bookmarks
    → IsLeastHolder (λ s. s.name) (IsNewer own) pool.snapshots newer → unless_newer false own pool rest ≡ Err (busy_snapshot newer.name)
newer_first own pool rest newer none h =
    no_mark own pool rest none
    ∙ ap (λ o. unless_there busy_snapshot o rest) (least_is_named (newer_names own pool rest) newer.name (record {
      there = contains-map (λ s. s.name) (newer_snapshots own pool) newer (contains-filter (is_newer own) pool.snapshots newer h.there (newer_passes own newer h.holds_it));
      least = λ name there.
          let (s, is, same) = map_contains (λ (s : Snapshot). s.name) (newer_snapshots own pool) name there in
          let passes = All-contains (λ s. is_newer own s ≡ true) (newer_snapshots own pool) s (filter_passes (is_newer own) pool.snapshots) is in
          subst (λ n. is_before n newer.name ≡ false) same (h.least s (filter_contains (is_newer own) pool.snapshots s is) (newer_had own s passes));
    }))

-- the commands, as they are without sessions
rollback_is : (pool : Pool) (destroys : Bool) (name : List ℕ) (now : ℕ) (own : Snapshot) → snapshot_named name pool ≡ Some own → IsForm pool (commands.Rollback destroys name) now
rollback_is pool true name now own found = record {
  is_such = is_for_own own;
  gone = newer_snapshots own pool;
  rest = rollback_rest pool true own;
  tells = tells_newer pool name own found;
  form = rollback_form pool name own found true now;
  last = λ newest e. no_number (rolled_back own pool) e;
}
rollback_is pool false name now own found = record {
  is_such = is_for_own own;
  gone = [];
  rest = rollback_rest pool false own;
  tells = tells_kept pool name own found;
  form = rollback_form pool name own found false now;
  last = λ newest e. no_newer own pool (committed (rolled_back own pool)) (newest own found) ∙ no_number (rolled_back own pool) e;
}

dataset_is : (pool : Pool) (name : List ℕ) (now : ℕ) (own : Dataset) → dataset_named name pool ≡ Some own → IsForm pool (commands.Destroy (names.Dataset name)) now
unfolding stepped
dataset_is pool name now own found = record {
  is_such = λ partial. bytes_eq partial.target name;
  gone = filter (is_of name) pool.snapshots;
  rest = committed (without_dataset name pool);
  tells = record {
    such = λ partial e. same_bytes partial.target name e;
    such_back = λ partial e. bytes_same partial.target name e;
    goes = λ s there. (
      filter_contains (is_of name) pool.snapshots s there,
      same_bytes (dataset_of_snapshot s) name
          (All-contains (λ s. is_of name s ≡ true) (filter (is_of name) pool.snapshots) s (filter_passes (is_of name) pool.snapshots) there),
    );
    goes_back = λ s there same. named_in (filter (is_of name) pool.snapshots) s
        (contains-filter (is_of name) pool.snapshots s there (bytes_same (dataset_of_snapshot s) name same));
  };
  form = ap (λ o. or_else (no_such (names.Dataset name)) o (λ (d : Dataset). unless_used (λ p. bytes_eq p.target name) (filter (is_of name) pool.snapshots) pool (committed (without_dataset name pool)))) found;
  last = λ newest e. no_number (without_dataset name pool) e;
}

snapshot_is : (pool : Pool) (name : List ℕ) (now : ℕ) (own : Snapshot) → snapshot_named name pool ≡ Some own → IsForm pool (commands.Destroy (names.Snapshot name)) now
unfolding stepped
snapshot_is pool name now own found =
    let own_found = named_found (λ s. s.name) name pool.snapshots own found in record {
      is_such = λ partial. false;
      gone = own ∷ [];
      rest = committed (without_snapshot name pool);
      tells = record {
        such = λ partial e. absurd (true≢false (sym e));
        such_back = λ partial h. absurd h;
        goes = λ s there. elim (contains_cases own [] s there) [
          | inl e ↦ (subst (Contains pool.snapshots) e own_found.0, ap (λ s. s.name) (sym e) ∙ own_found.1)
          | inr later ↦ absurd (contains_nothing s later)
        ];
        goes_back = λ s there same. passed_by_some (λ other. bytes_eq other.name s.name) (own ∷ []) own (contains_first own [])
            (bytes_same own.name s.name (own_found.1 ∙ sym same));
      };
      form = ap (λ o. or_else (no_such (names.Snapshot name)) o (λ s. unless_used (λ p. false) (s ∷ []) pool (committed (without_snapshot name pool)))) found;
      last = λ newest e. no_number (without_snapshot name pool) e;
    }

formed : (pool : Pool) (command : Command) (now : ℕ) → IsFound pool command → IsForm pool command now
formed pool (commands.Rollback destroys name) now h = let (own, found) = there_is (snapshot_named name pool) h in rollback_is pool destroys name now own found
formed pool (commands.Destroy (names.Dataset name)) now h = let (own, found) = there_is (dataset_named name pool) h in dataset_is pool name now own found
formed pool (commands.Destroy (names.Snapshot name)) now h = let (own, found) = there_is (snapshot_named name pool) h in snapshot_is pool name now own found
formed pool (commands.Destroy (names.Bookmark name)) now h = absurd h
formed pool (commands.Abort target) now h = absurd h
formed pool commands.Reclaim now h = absurd h
formed pool (commands.Fs name) now h = absurd h
formed pool (commands.Volume name) now h = absurd h
formed pool (commands.Object name k head bonus spill) now h = absurd h
formed pool (commands.Write name k i bytes) now h = absurd h
formed pool (commands.Punch name k first count) now h = absurd h
formed pool (commands.Free name first count) now h = absurd h
formed pool (commands.Snapshot name) now h = absurd h
formed pool (commands.Clone origin name) now h = absurd h
formed pool (commands.Bookmark of name) now h = absurd h
formed pool (commands.Redact of name kept) now h = absurd h
formed pool (commands.Read name k i) now h = absurd h
formed pool commands.List now h = absurd h
formed pool (commands.ListObjects name) now h = absurd h

pub partial_named : PartialIsNamed
partial_named pool command held now partial unheld least =
    let f = formed pool command now unheld.found in
    free_ones pool command held now unheld.free ∙ f.form ∙ used_partial pool command f.is_such f.gone f.tells f.rest partial unheld.lawful least

pub clone_named : CloneIsNamed
clone_named pool command held now dataset unheld none least =
    let f = formed pool command now unheld.found in
    free_ones pool command held now unheld.free ∙ f.form ∙ used_clone pool command f.is_such f.gone f.tells f.rest dataset unheld.lawful none least

pub destroy_number : DestroyHasNoNumber
destroy_number pool command held now unheld none unused newest e =
    let f = formed pool command now unheld.found in
    free_ones pool command held now unheld.free ∙ f.form ∙ used_none pool command f.is_such f.gone f.tells f.rest none unused ∙ f.last newest e

-- a rollback without -r that no partial state stands in the way of
kept_on : (pool : Pool) (name : List ℕ) (snapshot : Snapshot) (held : List Held) (now : ℕ) → IsRollback pool name snapshot
    → stepped held now (commands.Rollback false name) pool ≡ rollback_rest pool false snapshot
kept_on pool name snapshot held now is =
    free_ones pool (commands.Rollback false name) held now (λ one there. tt)
    ∙ rollback_form pool name snapshot is.found false now
    ∙ used_none pool (commands.Rollback false name) (is_for_own snapshot) [] (tells_kept pool name snapshot is.found) (rollback_rest pool false snapshot) no_target (λ d there h. h.2)
  where
    no_target : NoneHolds (HoldsAsPartial pool (commands.Rollback false name)) pool.partials
    no_target partial there (inl e) =
        true≢false (sym (bytes_same partial.target (dataset_before name) e) ∙ none_passes (λ p. bytes_eq p.target (dataset_before name)) pool.partials is.free partial there)
    no_target partial there (inr h) = h.2

pub mark_named : NewerMarkIsNamed
mark_named pool name snapshot bookmark is least held now =
    kept_on pool name snapshot held now is ∙ mark_first snapshot pool (committed (rolled_back snapshot pool)) bookmark is.lawful least

pub newer_named : NewerSnapshotIsNamed
newer_named pool name snapshot newer is none least held now =
    kept_on pool name snapshot held now is ∙ newer_first snapshot pool (committed (rolled_back snapshot pool)) newer none least

-- what is absent
pub nothing_there : NothingToDestroy
unfolding stepped
nothing_there pool name = (
  λ h held now. ap (λ o. or_else (no_such (names.Dataset name)) o (λ (d : Dataset). unless_busy (session_with (names.Dataset name) held)
      (unless_used (λ p. bytes_eq p.target name) (filter (is_of name) pool.snapshots) pool (committed (without_dataset name pool))))) h,
  λ h held now. ap (λ o. or_else (no_such (names.Snapshot name)) o (λ s. unless_busy (session_with (names.Snapshot name) held)
      (unless_used (λ p. false) (s ∷ []) pool (committed (without_snapshot name pool))))) h,
  λ h held now. ap (λ o. or_else (no_such (names.Bookmark name)) o (λ (b : Bookmark). committed (without_bookmark name pool))) h,
  λ h destroys held now. ap (λ o. or_else (no_such (names.Snapshot name)) o (λ s. unless_busy (session_of_one (destroyed_by destroys s pool) held)
      (unless_used (is_for_own s) (destroyed_by destroys s pool) pool (rollback_rest pool destroys s)))) h,
)

pub bookmark_stays : BookmarkStays
unfolding stepped
bookmark_stays pool name bookmark found e held now =
    ap (λ o. or_else (no_such (names.Bookmark name)) o (λ (b : Bookmark). committed (without_bookmark name pool))) found ∙ no_number (without_bookmark name pool) e
