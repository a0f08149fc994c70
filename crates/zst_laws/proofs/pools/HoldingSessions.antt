-- Which session has a thing that is named, and which commands it holds back.
use Rattle.std.proofs.Common.{◌≡◌, inl, inr, ◌⊎◌, ℕ, ◌≤◌, Bool, true, false, List, [], ◌∷◌, Option, Some, None, Result, Contains, min, filter, bytes_eq, if◌then◌else◌, refl, sym, ap, subst, ◌∙◌, arith}
use Rattle.std.specs.Fmt.{digits}
use Rattle.std.specs.List.{list_any}
use Rattle.std.proofs.lemmas.Bool.{true≢false, false_from_ne_true}
use Rattle.std.proofs.lemmas.List.Elements.{All-contains, filter_passes}
use Rattle.std.proofs.lemmas.Option.{same_Some}
use Rattle.zst_model.specs.declared.pools.command.Command.TheVariants as commands
use Rattle.zst_names.specs.Names.{dataset_of}
use Rattle.zst_model.specs.declared.refusals.subjects.Name.TheVariants as names
use Rattle.zst_model.specs.declared.refusals.refusal.Refusal.{Refusal}
use Rattle.zst_model.specs.pools.Sessions.{Held, Holds, Claims, id_of, lesser, has_named, has_claimed, least_id, session_with, session_into, unless_busy}
use Rattle.zst_model.specs.pools.Pool.{Pool, Dataset, Snapshot, Partial, dataset_named, snapshot_named, partial_of, dataset_of_snapshot}
use Rattle.zst_model.specs.pools.Step.{Stepped, stepped, no_such, no_partial, or_else, committed, unless_used, unless_newer, is_newer, newer_snapshots, session_of_one, rolled_back, is_of, without_dataset, without_snapshot, with_destroyed, without_partial, with_aborted}
use Rattle.zst_model.specs.refusals.PlanFault.{plan_text}
use Rattle.zst_model.specs.refusals.Refusal.{text_of}
use Rattle.zst_model.proofs.InsertedLaws.{contains_cases, contains_first, contains_later, contains_nothing}
use Rattle.zst_model.proofs.OrderLaws.{same_bytes, bytes_same}
use Rattle.zst_model.proofs.FilteredLists.{filter_contains, contains-filter}
use Rattle.zst_model.proofs.ListTests.{passed_by_some}
use Rattle.zst_laws.specs.HoldingSessions.{SessionsHave, ClaimsCountAlone, LeastIsNamed, BusySessions, StepsAskNoSession, HasOf, HasThis, HasClaim, HasNewer, IsLeastWith, HeldDatasetStays, HeldSnapshotStays, HeldNewerStays, HeldTargetStays, FreeOnesGo}
use Rattle.zst_laws.proofs.pools.Lineages.{newer_had, newer_passes}
use Rattle.zst_laws.proofs.pools.Filters.{some_passes}

pub sessions_have : SessionsHave
sessions_have = (refl, refl, refl, refl, refl, refl, refl, refl)

pub claims_count : ClaimsCountAlone
claims_count = (refl, refl, refl)

pub busy_sessions : BusySessions
unfolding text_of plan_text digits
busy_sessions id rest = (refl, refl, refl, refl)

-- what is said of the session that is named, by cases on whether one is
data IsLeast (test : Held → Bool) (held : List Held) : Option ℕ → Type 0 where
  NoneIs : ((other : Held) → Contains held other → test other ≡ false) → IsLeast test held None
  OneIs : (id : ℕ) (one : Held) → Contains held one → test one ≡ true → id_of one ≡ id
      → ((other : Held) → Contains held other → test other ≡ true → id ≤ id_of other) → IsLeast test held (Some id)

-- a session that passes before others
first_is : (test : Held → Bool) (first : Held) (rest : List Held) (found : Option ℕ) → test first ≡ true → IsLeast test rest found
    → IsLeast test (first ∷ rest) (Some (lesser (id_of first) found))
first_is test first rest _ passes (NoneIs none) =
    OneIs (id_of first) first (contains_first first rest) passes refl (λ other there also. elim (contains_cases first rest other there) [
      | inl e ↦ let same = ap id_of e in omega arith
      | inr later ↦ absurd (true≢false (sym also ∙ none other later))
    ])
first_is test first rest _ passes (OneIs id one there also same least) = go (min_cases (id_of first) id)
  where
    min_cases : (a b : ℕ) → ((min a b ≡ a) × (a ≤ b)) ⊎ ((min a b ≡ b) × (b ≤ a))
    min_cases a b = grind (arith)

    all : (m : ℕ) → m ≤ id_of first → m ≤ id → (other : Held) → Contains (first ∷ rest) other → test other ≡ true → m ≤ id_of other
    all m low lower other k t = elim (contains_cases first rest other k) [
      | inl e ↦ let named = ap id_of e in omega arith
      | inr later ↦ let l = least other later t in omega arith
    ]

    go : ((min (id_of first) id ≡ id_of first) × (id_of first ≤ id)) ⊎ ((min (id_of first) id ≡ id) × (id ≤ id_of first))
        → IsLeast test (first ∷ rest) (Some (min (id_of first) id))
    go (inl h) = OneIs (min (id_of first) id) first (contains_first first rest) passes (sym h.0) (all (min (id_of first) id) (omega (arith, h.0)) (omega (arith, h.0, h.1)))
    go (inr h) = OneIs (min (id_of first) id) one (contains_later first rest one there) also (same ∙ sym h.0) (all (min (id_of first) id) (omega (arith, h.0, h.1)) (omega (arith, h.0)))

-- one that doesn't
first_not : (test : Held → Bool) (first : Held) (rest : List Held) (found : Option ℕ) → test first ≡ false → IsLeast test rest found → IsLeast test (first ∷ rest) found
first_not test first rest _ fails (NoneIs none) = NoneIs (λ other there. elim (contains_cases first rest other there) [
  | inl e ↦ ap test (sym e) ∙ fails
  | inr later ↦ none other later
])
first_not test first rest _ fails (OneIs id one there also same least) =
    OneIs id one (contains_later first rest one there) also same (λ other k t. elim (contains_cases first rest other k) [
      | inl e ↦ absurd (true≢false (sym t ∙ ap test (sym e) ∙ fails))
      | inr later ↦ least other later t
    ])

is_least : (test : Held → Bool) (held : List Held) → IsLeast test held (least_id test held)
is_least test [] = NoneIs (λ other there. absurd (contains_nothing other there))
is_least test (first ∷ rest) = go (test first) refl (is_least test rest)
  where
    go : (t : Bool) → test first ≡ t → IsLeast test rest (least_id test rest)
        → IsLeast test (first ∷ rest) (if t then Some (lesser (id_of first) (least_id test rest)) else least_id test rest)
    go true e known = first_is test first rest (least_id test rest) e known
    go false e known = first_not test first rest (least_id test rest) e known

pub least_named : LeastIsNamed
least_named test held = (λ id e. some (least_id test held) (is_least test held) id e, λ e. none (least_id test held) (is_least test held) e)
  where
    some : (found : Option ℕ) → IsLeast test held found → (id : ℕ) → found ≡ Some id
        → ((one : Held) × Contains held one × (test one ≡ true) × (id_of one ≡ id))
        × ((other : Held) → Contains held other → test other ≡ true → id ≤ id_of other)
    some _ (NoneIs all) id e = absurd (cc)
    some _ (OneIs least one there also same all) id e =
        let is : least ≡ id = same_Some least id e in
        ((one, there, also, same ∙ is), λ other k t. subst (λ n. n ≤ id_of other) is (all other k t))

    none : (found : Option ℕ) → IsLeast test held found → found ≡ None → (other : Held) → Contains held other → test other ≡ false
    none _ (NoneIs all) e = all
    none _ (OneIs least one there also same all) e = absurd (cc)

-- what comes behind the sessions
abbrev rest_of_dataset : List ℕ → Pool → Result Stepped Refusal
rest_of_dataset name pool = unless_used (λ partial. bytes_eq partial.target name) (filter (is_of name) pool.snapshots) pool (committed (without_dataset name pool))

abbrev rest_of_snapshot : List ℕ → Pool → Snapshot → Result Stepped Refusal
rest_of_snapshot name pool snapshot = unless_used (λ partial. false) (snapshot ∷ []) pool (committed (without_snapshot name pool))

abbrev rest_of_rollback : Pool → Snapshot → Result Stepped Refusal
rest_of_rollback pool snapshot =
    unless_used (λ partial. bytes_eq partial.target (dataset_of_snapshot snapshot)) (newer_snapshots snapshot pool) pool (committed (rolled_back snapshot pool))

-- a rollback without -r asks for none of its snapshots
abbrev kept_back : Pool → List ℕ → Option ℕ → Result Stepped Refusal
kept_back pool name session =
    or_else (no_such (names.Snapshot name)) (snapshot_named name pool) (λ snapshot.
    unless_busy session
    (unless_used (λ partial. bytes_eq partial.target (dataset_of_snapshot snapshot)) [] pool
    (unless_newer false snapshot pool
    (committed (rolled_back snapshot pool)))))

-- no session passes a test that none passes
pub least_none : (test : Held → Bool) (held : List Held) → ((one : Held) → Contains held one → test one ≡ false) → least_id test held ≡ None
least_none test [] h = refl
least_none test (one ∷ rest) h =
    rw (h one (contains_first one rest)) (least_none test rest (λ other there. h other (contains_later one rest other there)))

pub steps_ask_none : StepsAskNoSession
unfolding stepped
steps_ask_none held other now (commands.Fs dataset) pool asks = refl
steps_ask_none held other now (commands.Volume dataset) pool asks = refl
steps_ask_none held other now (commands.Object dataset k head bonus spill) pool asks = refl
steps_ask_none held other now (commands.Write dataset k i bytes) pool asks = refl
steps_ask_none held other now (commands.Punch dataset k first count) pool asks = refl
steps_ask_none held other now (commands.Free dataset first count) pool asks = refl
steps_ask_none held other now (commands.Snapshot name) pool asks = refl
steps_ask_none held other now (commands.Clone origin name) pool asks = refl
steps_ask_none held other now (commands.Bookmark of name) pool asks = refl
steps_ask_none held other now (commands.Redact of name kept) pool asks = refl
steps_ask_none held other now (commands.Rollback true name) pool asks = absurd (true≢false asks)
steps_ask_none held other now (commands.Rollback false name) pool asks =
    ap (kept_back pool name) (none held) ∙ sym (ap (kept_back pool name) (none other))
  where
    none : (held : List Held) → session_of_one [] held ≡ None
    none held = least_none (λ one. false) held (λ one there. refl)
steps_ask_none held other now (commands.Destroy (names.Dataset name)) pool asks = absurd (true≢false asks)
steps_ask_none held other now (commands.Destroy (names.Snapshot name)) pool asks = absurd (true≢false asks)
steps_ask_none held other now (commands.Destroy (names.Bookmark name)) pool asks = refl
steps_ask_none held other now (commands.Abort target) pool asks = absurd (true≢false asks)
steps_ask_none held other now commands.Reclaim pool asks = refl
steps_ask_none held other now (commands.Read name k i) pool asks = refl
steps_ask_none held other now commands.List pool asks = refl
steps_ask_none held other now (commands.ListObjects name) pool asks = refl

-- the session with the least id of those that pass is named
least_is : (test : Held → Bool) (has : Held → Type 0) (held : List Held) (one : Held)
    → ((other : Held) → has other → test other ≡ true) → ((other : Held) → test other ≡ true → has other)
    → IsLeastWith has held one → least_id test held ≡ Some (id_of one)
least_is test has held one passes had is = go (least_id test held) (is_least test held)
  where
    go : (found : Option ℕ) → IsLeast test held found → found ≡ Some (id_of one)
    go _ (NoneIs none) = absurd (true≢false (sym (passes one is.has_it) ∙ none one is.there))
    go _ (OneIs id first there also same least) =
        let most : id ≤ id_of one = least one is.there (passes one is.has_it) in
        let under : id_of one ≤ id_of first = is.least first there (had first also) in
        let e : id ≡ id_of one = omega (arith, most, under, same) in ap Some e

-- what a session has is what the test tells
of_passes : (name : List ℕ) (one : Held) → HasOf name one → has_named (names.Dataset name) one ≡ true
of_passes name (Holds id snapshot) h = bytes_same (dataset_of 64 snapshot) name h
of_passes name (Claims id dataset) h = bytes_same dataset name h

of_had : (name : List ℕ) (one : Held) → has_named (names.Dataset name) one ≡ true → HasOf name one
of_had name (Holds id snapshot) h = same_bytes (dataset_of 64 snapshot) name h
of_had name (Claims id dataset) h = same_bytes dataset name h

this_passes : (name : List ℕ) (one : Held) → HasThis name one → has_named (names.Snapshot name) one ≡ true
this_passes name (Holds id snapshot) h = bytes_same snapshot name h
this_passes name (Claims id dataset) h = absurd h

this_had : (name : List ℕ) (one : Held) → has_named (names.Snapshot name) one ≡ true → HasThis name one
this_had name (Holds id snapshot) h = same_bytes snapshot name h
this_had name (Claims id dataset) h = absurd (true≢false (sym h))

claim_passes : (name : List ℕ) (one : Held) → HasClaim name one → has_claimed name one ≡ true
claim_passes name (Holds id snapshot) h = absurd h
claim_passes name (Claims id dataset) h = bytes_same dataset name h

claim_had : (name : List ℕ) (one : Held) → has_claimed name one ≡ true → HasClaim name one
claim_had name (Holds id snapshot) h = absurd (true≢false (sym h))
claim_had name (Claims id dataset) h = same_bytes dataset name h

module _ (snapshot : Snapshot) (pool : Pool) where
  abbrev has_newer : Held → Bool
  has_newer one = list_any (λ s. has_named (names.Snapshot s.name) one) (newer_snapshots snapshot pool)

  holder_passes : (one : Held) → HasNewer snapshot pool one → has_newer one ≡ true
  holder_passes (Holds id name) (s, there, newer, named) =
      passed_by_some (λ s. has_named (names.Snapshot s.name) (Holds id name)) (newer_snapshots snapshot pool) s
      (contains-filter (is_newer snapshot) pool.snapshots s there (newer_passes snapshot s newer)) (bytes_same name s.name (sym named))
  holder_passes (Claims id dataset) h = absurd h

  holder_had : (one : Held) → has_newer one ≡ true → HasNewer snapshot pool one
  holder_had (Holds id name) h =
      let (s, there, same) = some_passes (λ s. has_named (names.Snapshot s.name) (Holds id name)) (newer_snapshots snapshot pool) h in
      let passes = All-contains (λ s. is_newer snapshot s ≡ true) (newer_snapshots snapshot pool) s (filter_passes (is_newer snapshot) pool.snapshots) there in
      (s, filter_contains (is_newer snapshot) pool.snapshots s there, newer_had snapshot s passes, sym (same_bytes name s.name same))
  holder_had (Claims id dataset) h =
      let (s, there, same) = some_passes (λ s. has_named (names.Snapshot s.name) (Claims id dataset)) (newer_snapshots snapshot pool) h in absurd (true≢false (sym same))

-- what a session has stays
pub held_dataset : HeldDatasetStays
unfolding stepped
held_dataset pool name dataset held one now there least =
    ap (λ o. or_else (no_such (names.Dataset name)) o (λ (d : Dataset). unless_busy (session_with (names.Dataset name) held) (rest_of_dataset name pool))) there
    ∙ ap (λ o. unless_busy o (rest_of_dataset name pool)) (least_is (has_named (names.Dataset name)) (HasOf name) held one (of_passes name) (of_had name) least)

pub held_snapshot : HeldSnapshotStays
unfolding stepped
held_snapshot pool name snapshot held one now there least =
    ap (λ o. or_else (no_such (names.Snapshot name)) o (λ s. unless_busy (session_with (names.Snapshot name) held) (rest_of_snapshot name pool s))) there
    ∙ ap (λ o. unless_busy o (rest_of_snapshot name pool snapshot)) (least_is (has_named (names.Snapshot name)) (HasThis name) held one (this_passes name) (this_had name) least)

pub held_newer : HeldNewerStays
unfolding stepped
held_newer pool name snapshot held one now there least =
    ap (λ o. or_else (no_such (names.Snapshot name)) o (λ s. unless_busy (session_of_one (newer_snapshots s pool) held) (rest_of_rollback pool s))) there
    ∙ ap (λ o. unless_busy o (rest_of_rollback pool snapshot)) (least_is (has_newer snapshot pool) (HasNewer snapshot pool) held one (holder_passes snapshot pool) (holder_had snapshot pool) least)

pub held_target : HeldTargetStays
unfolding stepped
held_target pool target partial held one now there least =
    ap (λ o. or_else (no_partial target) o (λ (p : Partial). unless_busy (session_into target held) (committed (without_partial target pool)))) there
    ∙ ap (λ o. unless_busy o (committed (without_partial target pool))) (least_is (has_claimed target) (HasClaim target) held one (claim_passes target) (claim_had target) least)

-- and where none has it, each command is as without sessions
fails : (test : Held → Bool) (has : Held → Type 0) (one : Held) → (test one ≡ true → has one) → (has one → ⊥) → test one ≡ false
fails test has one had free = false_from_ne_true (test one) (λ passes. free (had passes))

free_dataset : (pool : Pool) (name : List ℕ) (held : List Held) → ((one : Held) → Contains held one → HasOf name one → ⊥)
    → with_destroyed held (names.Dataset name) pool ≡ with_destroyed [] (names.Dataset name) pool
free_dataset pool name held free =
    ap (λ o. or_else (no_such (names.Dataset name)) (dataset_named name pool) (λ (d : Dataset). unless_busy o (rest_of_dataset name pool)))
    (least_none (has_named (names.Dataset name)) held (λ one there. fails (has_named (names.Dataset name)) (HasOf name) one (of_had name one) (free one there)))

free_snapshot : (pool : Pool) (name : List ℕ) (held : List Held) → ((one : Held) → Contains held one → HasThis name one → ⊥)
    → with_destroyed held (names.Snapshot name) pool ≡ with_destroyed [] (names.Snapshot name) pool
free_snapshot pool name held free =
    ap (λ o. or_else (no_such (names.Snapshot name)) (snapshot_named name pool) (λ s. unless_busy o (rest_of_snapshot name pool s)))
    (least_none (has_named (names.Snapshot name)) held (λ one there. fails (has_named (names.Snapshot name)) (HasThis name) one (this_had name one) (free one there)))

free_target : (pool : Pool) (target : List ℕ) (held : List Held) → ((one : Held) → Contains held one → HasClaim target one → ⊥)
    → with_aborted held target pool ≡ with_aborted [] target pool
free_target pool target held free =
    ap (λ o. or_else (no_partial target) (partial_of target pool) (λ (p : Partial). unless_busy o (committed (without_partial target pool))))
    (least_none (has_claimed target) held (λ one there. fails (has_claimed target) (HasClaim target) one (claim_had target one) (free one there)))

free_rollback : (pool : Pool) (name : List ℕ) (held : List Held) (found : Option Snapshot)
    → ((one : Held) → Contains held one → (snapshot : Snapshot) → found ≡ Some snapshot → HasNewer snapshot pool one → ⊥)
    → or_else (no_such (names.Snapshot name)) found (λ s. unless_busy (session_of_one (newer_snapshots s pool) held) (rest_of_rollback pool s))
    ≡ or_else (no_such (names.Snapshot name)) found (λ s. unless_busy (session_of_one (newer_snapshots s pool) []) (rest_of_rollback pool s))
free_rollback pool name held None free = refl
free_rollback pool name held (Some snapshot) free =
    ap (λ o. unless_busy o (rest_of_rollback pool snapshot))
    (least_none (has_newer snapshot pool) held (λ one there. fails (has_newer snapshot pool) (HasNewer snapshot pool) one (holder_had snapshot pool one) (free one there snapshot refl)))

pub free_ones : FreeOnesGo
unfolding stepped
free_ones pool (commands.Rollback true name) held now free = free_rollback pool name held (snapshot_named name pool) free
free_ones pool (commands.Rollback false name) held now free = steps_ask_none held [] now (commands.Rollback false name) pool refl
free_ones pool (commands.Destroy (names.Dataset name)) held now free = free_dataset pool name held free
free_ones pool (commands.Destroy (names.Snapshot name)) held now free = free_snapshot pool name held free
free_ones pool (commands.Destroy (names.Bookmark name)) held now free = refl
free_ones pool (commands.Abort target) held now free = free_target pool target held free
free_ones pool commands.Reclaim held now free = refl
free_ones pool (commands.Fs dataset) held now free = refl
free_ones pool (commands.Volume dataset) held now free = refl
free_ones pool (commands.Object dataset k head bonus spill) held now free = refl
free_ones pool (commands.Write dataset k i bytes) held now free = refl
free_ones pool (commands.Punch dataset k first count) held now free = refl
free_ones pool (commands.Free dataset first count) held now free = refl
free_ones pool (commands.Snapshot name) held now free = refl
free_ones pool (commands.Clone origin name) held now free = refl
free_ones pool (commands.Bookmark of name) held now free = refl
free_ones pool (commands.Redact of name kept) held now free = refl
free_ones pool (commands.Read name k i) held now free = refl
free_ones pool commands.List held now free = refl
free_ones pool (commands.ListObjects name) held now free = refl
