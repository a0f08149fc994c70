-- What an accepted redaction found, and the guids of its redaction snapshots.
use Rattle.std.proofs.Common.{◌≡◌, ◌⊎◌, inl, inr, ℕ, ◌+◌, ◌<◌, ◌≤◌, Bool, true, false, not, ◌==◌, List, [], ◌∷◌, length, find, Some, None, is_some, Ok, Contains, bytes_eq, nat_lt, if◌then◌else◌, refl, sym, ap, subst, arith}
use Rattle.std.proofs.lemmas.Bool.{not-false, and_from, and_parts, lt-ltb}
use Rattle.std.proofs.lemmas.Bool.Decides.{nat_tests}
use Rattle.zst_names.specs.Names.{dataset_of}
use Rattle.zst_model.proofs.InsertedLaws.{contains_first, contains_later, contains_cases, contains_nothing}
use Rattle.zst_model.proofs.OrderLaws.{same_bytes}
use Rattle.zst_model.proofs.Results.{ok_parts, bind_ok, unless_ok}
use Rattle.zst_model.specs.declared.refusals.faults.Quantity.TheVariants as quantities
use Rattle.zst_model.specs.declared.refusals.subjects.Name.TheVariants as names
use Rattle.zst_model.specs.fields.Guids.{is_rising}
use Rattle.zst_model.specs.pools.Ancestry.{OfSnapshot}
use Rattle.zst_model.specs.pools.Pool.{Pool, Snapshot, bookmark_named, dataset_of_snapshot, inserted, is_before, snapshot_named}
use Rattle.zst_model.specs.pools.Step.{Stepped, committed, exists_already, find_each, guids_of, most_bookmarks, most_runs, no_such, not_ancestor, not_descendant, redaction_of, relayed, with_guid, with_redaction}
use Rattle.zst_model.specs.sends.SendPlan.{comes_before, has_guids}
use Rattle.zst_laws.proofs.pools.AcceptedRemovals.{unless_there_ok}
use Rattle.zst_laws.proofs.pools.Rows.{limited_ok, named_found, or_else_ok}

-- ---- what is found

-- the snapshots that are found are the pool's
pub each_there : (kept : List (List ℕ)) (pool : Pool) (found : List Snapshot) → find_each kept pool ≡ Ok found → (snapshot : Snapshot) → Contains found snapshot → Contains pool.snapshots snapshot
each_there [] pool found h snapshot there = absurd (contains_nothing snapshot (subst (λ xs. Contains xs snapshot) (sym (ok_parts [] found h)) there))
each_there (name ∷ rest) pool found h snapshot there =
    let first = or_else_ok (no_such (names.Snapshot name)) (snapshot_named name pool) _ found h in
    let others = bind_ok (find_each rest pool) _ found first.2 in
    elim (contains_cases first.0 others.0 snapshot (subst (λ xs. Contains xs snapshot) (sym (ok_parts (first.0 ∷ others.0) found others.2)) there)) [
      | inl e ↦ subst (Contains pool.snapshots) e (named_found (λ (s : Snapshot). s.name) name pool.snapshots first.0 first.1).0
      | inr later ↦ each_there rest pool others.0 others.1 snapshot later
    ]

-- and as many as were named
pub each_length : (kept : List (List ℕ)) (pool : Pool) (found : List Snapshot) → find_each kept pool ≡ Ok found → length found ≡ length kept
each_length [] pool found h = ap length (sym (ok_parts [] found h))
each_length (name ∷ rest) pool found h =
    let first = or_else_ok (no_such (names.Snapshot name)) (snapshot_named name pool) _ found h in
    let others = bind_ok (find_each rest pool) _ found first.2 in
    let same = each_length rest pool others.0 others.1 in
    let long : length found ≡ length (first.0 ∷ others.0) = ap length (sym (ok_parts (first.0 ∷ others.0) found others.2)) in omega arith

-- ---- their guids

-- one guid more makes them longer by at most one
with_length : (guid : ℕ) (guids : List ℕ) → length (with_guid guid guids) ≤ length guids + 1
with_length guid [] = omega arith
with_length guid (next ∷ rest) = go (nat_lt guid next) (guid == next) (with_length guid rest)
  where
    go : (t u : Bool) → length (with_guid guid rest) ≤ length rest + 1 → length (if t then guid ∷ next ∷ rest else (if u then next ∷ rest else next ∷ with_guid guid rest)) ≤ length (next ∷ rest) + 1
    go true u l = omega arith
    go false true l = omega arith
    go false false l = omega arith

pub guids_length : (snapshots : List Snapshot) → length (guids_of snapshots) ≤ length snapshots
guids_length [] = omega arith
guids_length (snapshot ∷ rest) = let l = with_length snapshot.guid (guids_of rest) in let m = guids_length rest in omega arith

-- a guid stays below those that are above it
abbrev above : ℕ → List ℕ → Bool
above least [] = true
above least (guid ∷ rest) = nat_lt least guid

-- so guids rise where the first stands below the rest, which rise
rising_from : (guid : ℕ) (rest : List ℕ) → above guid rest ≡ true → is_rising rest ≡ true → is_rising (guid ∷ rest) ≡ true
rising_from guid [] a r = refl
rising_from guid (next ∷ rest) a r = and_from (nat_lt guid next) _ a r

rising_rest : (guid : ℕ) (rest : List ℕ) → is_rising (guid ∷ rest) ≡ true → (above guid rest ≡ true) × (is_rising rest ≡ true)
rising_rest guid [] r = (refl, refl)
rising_rest guid (next ∷ rest) r = and_parts (nat_lt guid next) _ r

-- a guid in its place keeps them rising, above what is below it and them
record IsPut (guid : ℕ) (guids put : List ℕ) : Type 0 where
  rising : is_rising put ≡ true
  least : (below : ℕ) → below < guid → above below guids ≡ true → above below put ≡ true

put_rises : (guid : ℕ) (guids : List ℕ) → is_rising guids ≡ true → IsPut guid guids (with_guid guid guids)
put_rises guid [] r = record { rising = refl; least = λ below l a. lt-ltb below guid l }
put_rises guid (next ∷ rest) r = go (nat_lt guid next) refl (guid == next) refl (put_rises guid rest (rising_rest next rest r).1)
  where
    greater : (guid next : ℕ) → nat_lt guid next ≡ false → (guid == next) ≡ false → next < guid
    greater guid next e f = grind (arith, nat_tests)

    go : (t : Bool) → nat_lt guid next ≡ t → (u : Bool) → (guid == next) ≡ u → IsPut guid rest (with_guid guid rest)
        → IsPut guid (next ∷ rest) (if t then guid ∷ next ∷ rest else (if u then next ∷ rest else next ∷ with_guid guid rest))
    go true e u f more = record { rising = and_from (nat_lt guid next) _ e r; least = λ below l a. lt-ltb below guid l }
    go false e true f more = record { rising = r; least = λ below l a. a }
    go false e false f more = record {
      rising = rising_from next (with_guid guid rest) (more.least next (greater guid next e f) (rising_rest next rest r).0) more.rising;
      least = λ below l a. a;
    }

pub guids_rise : (snapshots : List Snapshot) → is_rising (guids_of snapshots) ≡ true
guids_rise [] = refl
guids_rise (snapshot ∷ rest) = (put_rises snapshot.guid (guids_of rest) (guids_rise rest)).rising

-- what stands among guids with one more is that, or stood among them; and both stand there
put_cases : (guid : ℕ) (guids : List ℕ) (other : ℕ) → Contains (with_guid guid guids) other → (guid ≡ other) ⊎ Contains guids other
put_cases guid [] other there = elim (contains_cases guid [] other there) [
  | inl e ↦ inl e
  | inr none ↦ absurd (contains_nothing other none)
]
put_cases guid (next ∷ rest) other there = go (nat_lt guid next) (guid == next) (put_cases guid rest other) there
  where
    go : (t u : Bool) → (Contains (with_guid guid rest) other → (guid ≡ other) ⊎ Contains rest other)
        → Contains (if t then guid ∷ next ∷ rest else (if u then next ∷ rest else next ∷ with_guid guid rest)) other → (guid ≡ other) ⊎ Contains (next ∷ rest) other
    go true u more k = contains_cases guid (next ∷ rest) other k
    go false true more k = inr k
    go false false more k = elim (contains_cases next (with_guid guid rest) other k) [
      | inl e ↦ inr (subst (Contains (next ∷ rest)) e (contains_first next rest))
      | inr later ↦ elim (more later) [
        | inl e ↦ inl e
        | inr found ↦ inr (contains_later next rest other found)
      ]
    ]

put_keeps : (guid : ℕ) (guids : List ℕ) (other : ℕ) → Contains guids other → Contains (with_guid guid guids) other
put_keeps guid [] other there = absurd (contains_nothing other there)
put_keeps guid (next ∷ rest) other there = go (nat_lt guid next) (guid == next) (put_keeps guid rest other)
  where
    go : (t u : Bool) → (Contains rest other → Contains (with_guid guid rest) other) → Contains (if t then guid ∷ next ∷ rest else (if u then next ∷ rest else next ∷ with_guid guid rest)) other
    go true u more = contains_later guid (next ∷ rest) other there
    go false true more = there
    go false false more = elim (contains_cases next rest other there) [
      | inl e ↦ subst (Contains (next ∷ with_guid guid rest)) e (contains_first next (with_guid guid rest))
      | inr later ↦ contains_later next (with_guid guid rest) other (more later)
    ]

put_has : (guid : ℕ) (guids : List ℕ) → Contains (with_guid guid guids) guid
put_has guid [] = contains_first guid []
put_has guid (next ∷ rest) = go (nat_lt guid next) (guid == next) refl (put_has guid rest)
  where
    same : (guid next : ℕ) → (guid == next) ≡ true → next ≡ guid
    same guid next e = grind (arith, nat_tests)

    go : (t u : Bool) → (guid == next) ≡ u → Contains (with_guid guid rest) guid → Contains (if t then guid ∷ next ∷ rest else (if u then next ∷ rest else next ∷ with_guid guid rest)) guid
    go true u e more = contains_first guid (next ∷ rest)
    go false true e more = subst (Contains (next ∷ rest)) (same guid next e) (contains_first next rest)
    go false false e more = contains_later next (with_guid guid rest) guid more

-- the guids of snapshots are those of each of them, and of no other
pub guid_of_one : (snapshots : List Snapshot) (guid : ℕ) → Contains (guids_of snapshots) guid → (snapshot : Snapshot) × Contains snapshots snapshot × (snapshot.guid ≡ guid)
guid_of_one [] guid there = absurd (contains_nothing guid there)
guid_of_one (snapshot ∷ rest) guid there = elim (put_cases snapshot.guid (guids_of rest) guid there) [
  | inl e ↦ (snapshot, contains_first snapshot rest, e)
  | inr later ↦ let found = guid_of_one rest guid later in (found.0, contains_later snapshot rest found.0 found.1, found.2)
]

pub one_has_guid : (snapshots : List Snapshot) (snapshot : Snapshot) → Contains snapshots snapshot → Contains (guids_of snapshots) snapshot.guid
one_has_guid [] snapshot there = absurd (contains_nothing snapshot there)
one_has_guid (first ∷ rest) snapshot there = elim (contains_cases first rest snapshot there) [
  | inl e ↦ subst (λ (s : Snapshot). Contains (guids_of (first ∷ rest)) s.guid) e (put_has first.guid (guids_of rest))
  | inr later ↦ put_keeps first.guid (guids_of rest) snapshot.guid (one_has_guid rest snapshot later)
]

-- ---- an accepted redaction

-- what was found where a redaction is accepted, and the pool that it makes
pub record IsNewRedaction (of name : List ℕ) (kept : List (List ℕ)) (pool : Pool) (after : Stepped) : Type 0 where
  pub snapshot : Snapshot
  pub there : snapshot_named of pool ≡ Some snapshot
  pub redactions : List Snapshot
  pub found : find_each kept pool ≡ Ok redactions
  pub same : dataset_of_snapshot snapshot ≡ dataset_of 35 name
  pub absent : is_some (bookmark_named name pool) ≡ false
  pub whole : has_guids snapshot.redact ≡ false
  pub descend : find (λ redaction. not (comes_before pool (OfSnapshot snapshot) redaction)) redactions ≡ None
  pub made : committed (record pool { bookmarks = inserted (λ a b. is_before a.name b.name) (redaction_of name snapshot redactions) pool.bookmarks }) ≡ Ok after

pub with_redaction_ok : (of name : List ℕ) (kept : List (List ℕ)) (pool : Pool) (after : Stepped) → with_redaction of name kept pool ≡ Ok after → IsNewRedaction of name kept pool after
with_redaction_ok of name kept pool after h =
    let first = or_else_ok (no_such (names.Snapshot of)) (snapshot_named of pool) _ after h in
    let others = bind_ok (find_each kept pool) _ after first.2 in
    let differ = not (bytes_eq (dataset_of_snapshot first.0) (dataset_of 35 name)) in
    let same = unless_ok differ (not_ancestor (names.Bookmark name) (names.Snapshot of)) _ after others.2 in
    let absent = unless_ok (is_some (bookmark_named name pool)) (exists_already (names.Bookmark name)) _ after same.1 in
    let whole = unless_ok (has_guids first.0.redact) relayed _ after absent.1 in
    let descend = unless_there_ok not_descendant (find (λ redaction. not (comes_before pool (OfSnapshot first.0) redaction)) others.0) _ after whole.1 in
    let few = limited_ok quantities.Bookmarks most_bookmarks (length pool.bookmarks + 1) _ after descend.1 in
    let row = redaction_of name first.0 others.0 in
    let short = limited_ok quantities.Runs most_runs (length row.runs) _ after few.1 in
    record {
      snapshot = first.0;
      there = first.1;
      redactions = others.0;
      found = others.1;
      same = same_bytes (dataset_of_snapshot first.0) (dataset_of 35 name) (not-false (bytes_eq (dataset_of_snapshot first.0) (dataset_of 35 name)) same.0);
      absent = absent.0;
      whole = whole.0;
      descend = descend.0;
      made = short.1;
    }
