-- For what a send is refused, in which order, and that it is planned where none of it comes.
use Rattle.std.proofs.Common.{◌≡◌, ℕ, Bool, true, false, ◌&&◌, not, List, length, Option, Some, option_map, None, is_some, Result, Ok, Err, Contains, nat_lt, refl, sym, ap, ◌∙◌, subst, arith}
use Rattle.std.specs.List.{find}
use Rattle.std.specs.Option.{IfSome, ok_or}
use Rattle.std.specs.Str.{bytes_eq}
use Rattle.std.proofs.lemmas.Bool.{and_from, and_parts, and_right, false_from_ne_true, false≢true, lt-ltb, ltb-true, true≢false}
use Rattle.std.proofs.lemmas.Bool.Decides.{nat_tests}
use Rattle.zst_model.specs.declared.refusals.faults.Lack.TheVariants as lacks
use Rattle.zst_model.specs.declared.refusals.faults.Quantity.TheVariants as quantities
use Rattle.zst_model.specs.declared.refusals.subjects.Name.TheVariants as names
use Rattle.zst_model.specs.declared.refusals.plan_fault.PlanFault.{PlanFault}
use Rattle.zst_model.specs.declared.refusals.plan_fault.PlanFault.TheVariants as plans
use Rattle.zst_model.specs.declared.sends.ask.FromName.{FromName}
use Rattle.zst_model.specs.declared.sends.ask.FromName.TheVariants.{Snap, Book}
use Rattle.zst_model.specs.declared.sends.ask.SendAsk.{SendAsk}
use Rattle.zst_model.specs.fields.Lists.{Runs}
use Rattle.zst_model.specs.pools.Ancestry.{Source, OfSnapshot, OfBookmark, IsIn}
use Rattle.zst_model.specs.pools.Limits.{most_runs}
use Rattle.zst_model.specs.pools.Pool.{Pool, Snapshot, Bookmark, HasSnapshot, IsPool, bookmark_named, is_before}
use Rattle.zst_model.specs.pools.Soundness.{Sound}
use Rattle.zst_model.specs.sends.SendPlan.{absent, find_bookmark, find_redaction, find_snapshot, find_source, has_guids, if_before, if_no_relay, if_redaction, is_redacted, kind_of, name_of_source, redacts_snapshot, send_plan, sent_of}
use Rattle.zst_model.specs.sends.Headers.{Sent, IsRedactionOf, source_runs}
use Rattle.zst_model.specs.states.AppliedItems.{unless, ◌>>=◌}
use Rattle.zst_model.proofs.FoundElements.{none_passes}
use Rattle.zst_model.proofs.OrderLaws.{same_bytes, bytes_same, not_before_itself}
use Rattle.zst_model.proofs.UniqueElements.{same_element}
use Rattle.zst_laws.specs.SendPlans.{BookmarkIsOther, BookmarkIsWanted, ElseIsPlanned, HasBookmark, HasLongList, HasNamed, IsAsked, IsOnce, LongListIsRefused, RelayIsLast, SnapshotIsWanted, SourceIsLater, SourceIsWanted, StandsBeforeSnapshot, name_of_from}
use Rattle.zst_laws.proofs.pools.Relays.{runs_redacted}
use Rattle.zst_laws.proofs.pools.Rows.{none_from_absent}
use Rattle.zst_laws.proofs.pools.SendPlans.{all_left, ancestor_wanted, before_tested, found_alone, is_once, negated, snapshot_found}

-- ---- what is absent and what is there

module _ {A : Type 0} (name_of : A → List ℕ) (name : List ℕ) (xs : List A) where
  abbrev HasName : Type 0
  HasName = (x : A) × Contains xs x × (name_of x ≡ name)

  pub none_of_name : (HasName → ⊥) → find (λ x. bytes_eq (name_of x) name) xs ≡ None
  none_of_name none =
      none_from_absent (λ x. bytes_eq (name_of x) name) xs
      (λ x there. false_from_ne_true (bytes_eq (name_of x) name) (λ e. none (x, there, same_bytes (name_of x) name e)))

  pub one_of_name : HasName → (x : A) × (find (λ x. bytes_eq (name_of x) name) xs ≡ Some x)
  one_of_name (one, there, named) = go (find (λ x. bytes_eq (name_of x) name) xs) refl
    where
      go : (o : Option A) → find (λ x. bytes_eq (name_of x) name) xs ≡ o → (x : A) × (find (λ x. bytes_eq (name_of x) name) xs ≡ Some x)
      go None e = absurd (true≢false (sym (bytes_same (name_of one) name named) ∙ none_passes (λ x. bytes_eq (name_of x) name) xs e one there))
      go (Some x) e = (x, e)

-- a snapshot and a bookmark as a source, and as what is redacted by
abbrev as_snapshot : Snapshot → Result (Option Source) PlanFault
as_snapshot snapshot = Ok (Some (OfSnapshot snapshot))

abbrev as_bookmark : Bookmark → Result (Option Source) PlanFault
as_bookmark bookmark = Ok (Some (OfBookmark bookmark))

abbrev as_redaction : Bookmark → Result (Option Bookmark) PlanFault
as_redaction bookmark = Ok (Some bookmark)

module _ (pool : Pool) where
  no_snapshot : (name : List ℕ) → (HasSnapshot pool name → ⊥) → find_snapshot name pool ≡ Err (absent (names.Snapshot name))
  no_snapshot name none = ap (λ o. ok_or o (absent (names.Snapshot name))) (none_of_name (λ (s : Snapshot). s.name) name pool.snapshots none)

  no_bookmark : (name : List ℕ) → (HasBookmark pool name → ⊥) → find_bookmark name pool ≡ Err (absent (names.Bookmark name))
  no_bookmark name none = ap (λ o. ok_or o (absent (names.Bookmark name))) (none_of_name (λ (b : Bookmark). b.name) name pool.bookmarks none)

  some_snapshot : (name : List ℕ) → HasSnapshot pool name → (s : Snapshot) × (find_snapshot name pool ≡ Ok s)
  some_snapshot name here =
      let one = one_of_name (λ (s : Snapshot). s.name) name pool.snapshots here in (one.0, ap (λ o. ok_or o (absent (names.Snapshot name))) one.1)

  some_bookmark : (name : List ℕ) → HasBookmark pool name → (b : Bookmark) × (find_bookmark name pool ≡ Ok b)
  some_bookmark name here =
      let one = one_of_name (λ (b : Bookmark). b.name) name pool.bookmarks here in (one.0, ap (λ o. ok_or o (absent (names.Bookmark name))) one.1)

  no_source : (from : FromName) → (HasNamed pool from → ⊥) → find_source (Some from) pool ≡ Err (absent (name_of_from from))
  no_source (Snap name) none = ap (λ r. r >>= as_snapshot) (no_snapshot name none)
  no_source (Book name) none = ap (λ r. r >>= as_bookmark) (no_bookmark name none)

  some_source : (from : Option FromName) → IfSome from (HasNamed pool) → (source : Option Source) × (find_source from pool ≡ Ok source)
  some_source None here = (None, refl)
  some_source (Some (Snap name)) here = let one = some_snapshot name here in (Some (OfSnapshot one.0), ap (λ r. r >>= as_snapshot) one.1)
  some_source (Some (Book name)) here = let one = some_bookmark name here in (Some (OfBookmark one.0), ap (λ r. r >>= as_bookmark) one.1)

-- ---- E3

module _ (ask : SendAsk) (pool : Pool) where
  abbrev of_redaction : Snapshot → Option Source → Option Bookmark → Result Sent PlanFault
  of_redaction snapshot source redaction = sent_of pool snapshot source redaction

  abbrev of_source : Snapshot → Option Source → Result Sent PlanFault
  of_source snapshot source = find_redaction ask.redact pool >>= of_redaction snapshot source

  abbrev of_snapshot : Snapshot → Result Sent PlanFault
  of_snapshot snapshot = find_source ask.from pool >>= of_source snapshot

  snapshot_absent : (HasSnapshot pool ask.snap → ⊥) → send_plan ask pool ≡ Err (absent (names.Snapshot ask.snap))
  unfolding send_plan
  snapshot_absent none = ap (λ r. r >>= of_snapshot) (no_snapshot pool ask.snap none)

  source_absent : (from : FromName) → HasSnapshot pool ask.snap → ask.from ≡ Some from → (HasNamed pool from → ⊥) → send_plan ask pool ≡ Err (absent (name_of_from from))
  unfolding send_plan
  source_absent from here asked none =
      let snapshot = some_snapshot pool ask.snap here in
      ap (λ r. r >>= of_snapshot) snapshot.1
      ∙ ap (λ r. r >>= of_source snapshot.0) (ap (λ f. find_source f pool) asked ∙ no_source pool from none)

  bookmark_absent : (name : List ℕ) → HasSnapshot pool ask.snap → IfSome ask.from (HasNamed pool) → ask.redact ≡ Some name → (HasBookmark pool name → ⊥)
      → send_plan ask pool ≡ Err (absent (names.Bookmark name))
  unfolding send_plan
  bookmark_absent name here from asked none =
      let snapshot = some_snapshot pool ask.snap here in
      let source = some_source pool ask.from from in
      ap (λ r. r >>= of_snapshot) snapshot.1
      ∙ ap (λ r. r >>= of_source snapshot.0) source.1
      ∙ ap (λ r. r >>= of_redaction snapshot.0 source.0) (ap (λ n. find_redaction n pool) asked ∙ ap (λ r. r >>= as_redaction) (no_bookmark pool name none))

pub snapshot_wanted : SnapshotIsWanted
snapshot_wanted ask pool none = snapshot_absent ask pool none

pub source_wanted : SourceIsWanted
source_wanted ask pool from here asked none = source_absent ask pool from here asked none

pub bookmark_wanted : BookmarkIsWanted
bookmark_wanted ask pool name here from asked none = bookmark_absent ask pool name here from asked none

-- ---- all that is asked for is found

module _ (pool : Pool) (lawful : IsPool pool) where
  one_bookmark : (a b : Bookmark) → Contains pool.bookmarks a → Contains pool.bookmarks b → a.name ≡ b.name → a ≡ b
  one_bookmark a b here there same =
      same_element (λ (x y : Bookmark). is_before x.name y.name ≡ true) pool.bookmarks lawful.named.bookmarks a b here there
      (λ before. not_before_itself b.name (subst (λ n. is_before n b.name ≡ true) same before))
      (λ before. not_before_itself b.name (subst (λ n. is_before b.name n ≡ true) same before))

  bookmark_found : (b : Bookmark) (name : List ℕ) → Contains pool.bookmarks b → b.name ≡ name → bookmark_named name pool ≡ Some b
  bookmark_found b name there named =
      found_alone (λ x. bytes_eq x.name name) pool.bookmarks b there (bytes_same b.name name named)
      (λ x here passes. one_bookmark x b here there (same_bytes x.name name passes ∙ sym named))

  is_snapshot : (s : Snapshot) (name : List ℕ) → Contains pool.snapshots s → s.name ≡ name → find_snapshot name pool ≡ Ok s
  is_snapshot s name there named = ap (λ o. ok_or o (absent (names.Snapshot name))) (snapshot_found pool lawful s name there named)

  is_bookmark : (b : Bookmark) (name : List ℕ) → Contains pool.bookmarks b → b.name ≡ name → find_bookmark name pool ≡ Ok b
  is_bookmark b name there named = ap (λ o. ok_or o (absent (names.Bookmark name))) (bookmark_found b name there named)

  is_source : (from : Option FromName) (source : Option Source) → IfSome source (IsIn pool) → option_map name_of_source source ≡ option_map name_of_from from
      → find_source from pool ≡ Ok source
  is_source None None here named = refl
  is_source None (Some source) here named = absurd (cc)
  is_source (Some from) None here named = absurd (cc)
  is_source (Some (Snap name)) (Some (OfSnapshot s)) here named = let same : s.name ≡ name = cc in ap (λ r. r >>= as_snapshot) (is_snapshot s name here same)
  is_source (Some (Snap name)) (Some (OfBookmark b)) here named = absurd (cc)
  is_source (Some (Book name)) (Some (OfSnapshot s)) here named = absurd (cc)
  is_source (Some (Book name)) (Some (OfBookmark b)) here named = let same : b.name ≡ name = cc in ap (λ r. r >>= as_bookmark) (is_bookmark b name here same)

  is_redaction : (redact : Option (List ℕ)) (list : Option Bookmark) → IfSome list (Contains pool.bookmarks) → option_map (λ (b : Bookmark). b.name) list ≡ redact
      → find_redaction redact pool ≡ Ok list
  is_redaction None None here named = refl
  is_redaction None (Some b) here named = absurd (cc)
  is_redaction (Some name) None here named = absurd (cc)
  is_redaction (Some name) (Some b) here named = let same : b.name ≡ name = cc in ap (λ r. r >>= as_redaction) (is_bookmark b name here same)

-- ---- E6, E7 and E19

module _ (ask : SendAsk) (pool : Pool) (snapshot : Snapshot) (source : Option Source) (list : Option Bookmark)
    (lawful : IsPool pool) (sound : Sound pool) (asked : IsAsked pool ask snapshot source list)
  where
    is_found : (find_snapshot ask.snap pool ≡ Ok snapshot) × (find_source ask.from pool ≡ Ok source) × (find_redaction ask.redact pool ≡ Ok list)
    is_found = (
      is_snapshot pool lawful snapshot ask.snap asked.sends.0 asked.sends.1,
      is_source pool lawful ask.from source asked.comes_from.0 asked.comes_from.1,
      is_redaction pool lawful ask.redact list asked.redacts_by.0 asked.redacts_by.1,
    )

    abbrev sent : Sent
    sent = record { snapshot = snapshot; kind = kind_of pool snapshot; source = source; redaction = list }

    abbrev to_relay : Result Sent PlanFault
    to_relay = if_no_relay snapshot list (Ok sent)

    abbrev to_redaction : Result Sent PlanFault
    to_redaction = if_redaction snapshot list to_relay

    past_before : (o : Option Source) → IfSome o (IsIn pool) → IfSome o (λ from. StandsBeforeSnapshot pool from snapshot) → if_before pool snapshot o to_redaction ≡ to_redaction
    past_before None here before = refl
    past_before (Some from) here before =
        ap (λ b. unless (not b) (plans.NotAncestor (names.Snapshot snapshot.name) (name_of_source from)) to_redaction)
        ((before_tested pool from snapshot lawful sound here asked.sends.0).1 before)

    at_redaction : IfSome source (λ from. StandsBeforeSnapshot pool from snapshot) → send_plan ask pool ≡ to_redaction
    at_redaction before =
        all_left ask pool snapshot source list is_found.0 is_found.1 is_found.2 ∙ past_before source asked.comes_from.0 before

    tested : (b : Bookmark) → IsRedactionOf pool snapshot b → redacts_snapshot b snapshot ≡ true
    tested b is =
        let guid = is.guid in
        let some = is.guids in grind (guid, some, nat_tests, arith)

    past_redaction : (o : Option Bookmark) → IfSome o (IsRedactionOf pool snapshot) → if_redaction snapshot o to_relay ≡ to_relay
    past_redaction None is = refl
    past_redaction (Some b) is = ap (λ t. unless (not t) (plans.NotRedactionOf b.name snapshot.name) to_relay) (tested b is)

    at_relay : IfSome source (λ from. StandsBeforeSnapshot pool from snapshot) → IfSome list (IsRedactionOf pool snapshot) → send_plan ask pool ≡ to_relay
    at_relay before redacts = at_redaction before ∙ past_redaction list redacts

pub source_later : SourceIsLater
source_later ask pool snapshot source list lawful sound asked apart =
    let found = is_found ask pool snapshot (Some source) list lawful sound asked in
    (ancestor_wanted ask pool snapshot source list lawful sound found.0 found.1 found.2).1 apart

pub bookmark_other : BookmarkIsOther
bookmark_other ask pool snapshot source bookmark lawful sound asked before other =
    at_redaction ask pool snapshot source (Some bookmark) lawful sound asked before
    ∙ ap (λ b. unless b (plans.NotRedactionOf bookmark.name snapshot.name) (if_no_relay snapshot (Some bookmark) (Ok (record { snapshot = snapshot; kind = kind_of pool snapshot; source = source; redaction = Some bookmark }))))
    (negated (redacts_snapshot bookmark snapshot) (λ is. other (record { there = asked.redacts_by.0; guid = grind (is, nat_tests, arith); guids = grind (is, nat_tests, arith) })))

twice_so : (snapshot : Snapshot) (list : Option Bookmark) → (IsOnce snapshot list → ⊥) → (has_guids snapshot.redact && is_some list) ≡ true
twice_so snapshot list none = go (has_guids snapshot.redact && is_some list) refl
  where
    go : (b : Bool) → (has_guids snapshot.redact && is_some list) ≡ b → (has_guids snapshot.redact && is_some list) ≡ true
    go true e = e
    go false e = absurd (none (is_once snapshot list e))

pub relay_last : RelayIsLast
relay_last ask pool snapshot source list lawful sound fit twice =
    at_relay ask pool snapshot source list lawful sound fit.asked fit.before fit.redacts
    ∙ ap (λ b. unless b (plans.Unsupported lacks.Relay) (Ok (record { snapshot = snapshot; kind = kind_of pool snapshot; source = source; redaction = list }))) (twice_so snapshot list twice)

once_so : (snapshot : Snapshot) (list : Option Bookmark) → IsOnce snapshot list → (has_guids snapshot.redact && is_some list) ≡ false
once_so snapshot None once = and_right (has_guids snapshot.redact) false refl
once_so snapshot (Some bookmark) once = ap (λ (guids : List ℕ). has_guids guids && true) (once bookmark refl)

pub else_planned : ElseIsPlanned
else_planned ask pool snapshot source list lawful sound fit once =
    at_relay ask pool snapshot source list lawful sound fit.asked fit.before fit.redacts
    ∙ ap (λ b. unless b (plans.Unsupported lacks.Relay) (Ok (record { snapshot = snapshot; kind = kind_of pool snapshot; source = source; redaction = list }))) (once_so snapshot list once)

-- ---- E23 of the source's list

abbrev too_long : PlanFault
too_long = plans.Limit quantities.Runs most_runs

abbrev is_long : Option Source → Bool
is_long source = is_redacted source && nat_lt most_runs (length (source_runs source))

long_source : (sent : Sent) (source : Option Source) → sent.source ≡ source → is_long source ≡ true → HasLongList sent
long_source sent None from h = absurd (false≢true h)
long_source sent (Some (OfBookmark b)) from h = absurd (false≢true h)
long_source sent (Some (OfSnapshot s)) from h =
    let parts = and_parts (has_guids s.redact) _ h in
    let some = ltb-true 0 (length s.redact) parts.0 in record {
      own = s;
      is_source = from;
      redacted = some;
      long = ltb-true most_runs _ (ap (λ (runs : Runs). nat_lt most_runs (length runs)) (sym (runs_redacted s.redact s.objects.state some)) ∙ parts.1);
    }

long_tested : (sent : Sent) → HasLongList sent → is_long sent.source ≡ true
long_tested sent is =
    ap is_long is.is_source
    ∙ and_from (has_guids is.own.redact) _ (lt-ltb 0 (length is.own.redact) is.redacted)
    (ap (λ (runs : Runs). nat_lt most_runs (length runs)) (runs_redacted is.own.redact is.own.objects.state is.redacted) ∙ lt-ltb most_runs _ is.long)

pub long_list_refused : LongListIsRefused
long_list_refused sent = (
  ((λ refused. long_source sent sent.source refl (failed (is_long sent.source) refused)), (λ is. ap (λ b. unless b too_long (Ok sent)) (long_tested sent is))),
  (λ none. ap (λ b. unless b too_long (Ok sent)) (false_from_ne_true (is_long sent.source) (λ e. none (long_source sent sent.source refl e)))),
)
  where
    failed : (b : Bool) → unless b too_long (Ok sent) ≡ Err too_long → b ≡ true
    failed true h = refl
    failed false h = absurd (cc)
