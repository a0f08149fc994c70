-- What redact makes of a pool, and for what it is refused.
use Rattle.std.proofs.Common.{◌≡◌, ◌≢◌, ℕ, ◌+◌, ◌<◌, ◌≤◌, Bool, true, false, not, List, [], ◌∷◌, ◌++◌, length, find, Option, Some, None, is_some, Result, Ok, Err, Contains, bytes_eq, refl, sym, ap, subst, ◌∙◌, arith}
use Rattle.std.specs.List.{AllZip}
use Rattle.std.proofs.lemmas.Bool.{false_from_ne_true, not_from_true, not_from_false, lt-ltb}
use Rattle.std.proofs.lemmas.List.Elements.{Contains-append_left, Contains-append_right}
use Rattle.std.proofs.lemmas.Option.{same_Some}
use Rattle.zst_names.specs.Names.{dataset_of}
use Rattle.zst_model.specs.declared.pools.command.Command.TheVariants as commands
use Rattle.zst_model.specs.declared.refusals.faults.Quantity.TheVariants as quantities
use Rattle.zst_model.specs.declared.refusals.refusal.Refusal.{Refusal}
use Rattle.zst_model.specs.declared.refusals.subjects.Name.TheVariants as names
use Rattle.zst_model.specs.fields.Lists.{Runs}
use Rattle.zst_model.specs.fields.RunsOf.{IsListOf, runs_of}
use Rattle.zst_model.specs.pools.Ancestry.{OfSnapshot}
use Rattle.zst_model.specs.pools.Pool.{Pool, Snapshot, Bookmark, HasSnapshot, bookmark_named, dataset_of_snapshot, inserted, is_before, snapshot_named}
use Rattle.zst_model.specs.pools.Sessions.{Held}
use Rattle.zst_model.specs.pools.Step.{Stepped, stepped, committed, exists_already, find_each, limited, most_bookmarks, most_runs, no_such, not_ancestor, not_descendant, or_else, redaction_of, relayed, unless_there}
use Rattle.zst_model.specs.sends.SendPlan.{comes_before, has_guids}
use Rattle.zst_model.specs.states.AppliedItems.{unless, ◌>>=◌}
use Rattle.zst_model.proofs.FoundElements.{none_passes}
use Rattle.zst_model.proofs.InsertedLaws.{contains_first, contains_later}
use Rattle.zst_model.proofs.NameTests.{differ}
use Rattle.zst_model.proofs.OneList.{same_list}
use Rattle.zst_model.proofs.Options.{none_there}
use Rattle.zst_model.proofs.OrderLaws.{same_bytes, bytes_same}
use Rattle.zst_model.proofs.PassedLimits.{over, within_limit}
use Rattle.zst_model.proofs.Results.{ok_parts}
use Rattle.zst_model.proofs.RunsOf.{runs_list}
use Rattle.zst_laws.specs.Lineage.{dataset_before_mark}
use Rattle.zst_laws.specs.Redactions.{AreBehind, AreThere, IsPlaced, IsRedactable, IsRedaction, RedactHasNoNumber, RedactIsEarlier, RedactIsElsewhere, RedactIsLong, RedactIsRelayed, RedactIsThere, RedactMakes, RedactWantsEach, RedactWantsSnapshot, RedactsAreFull, unkept}
use Rattle.zst_laws.specs.StepRefusals.{dataset_before}
use Rattle.zst_laws.proofs.pools.AcceptedRedactions.{each_there, guid_of_one, guids_rise, one_has_guid, with_redaction_ok}
use Rattle.zst_laws.proofs.pools.Lookups.{find-inserted_row, find-inserted_other}
use Rattle.zst_laws.proofs.pools.RefusedSends.{none_of_name, one_of_name}
use Rattle.zst_laws.proofs.pools.Rows.{committed_ok, named_found, none_from_absent}
use Rattle.zst_laws.proofs.pools.SendPlans.{before_tested, negated}
use Rattle.zst_laws.proofs.pools.StepRefusals.{no_number, passed, refused}

-- ---- what is found

each_found : (kept : List (List ℕ)) (pool : Pool) (redactions : List Snapshot) → AllZip (λ name redaction. snapshot_named name pool ≡ Some redaction) kept redactions
    → find_each kept pool ≡ Ok redactions
each_found [] pool [] named = refl
each_found [] pool (redaction ∷ rest) named = absurd named
each_found (name ∷ kept) pool [] named = absurd named
each_found (name ∷ kept) pool (redaction ∷ rest) named =
    ap (λ o. or_else (no_such (names.Snapshot name)) o (λ (s : Snapshot). find_each kept pool >>= λ others. Ok (s ∷ others))) named.0
    ∙ ap (λ q. q >>= λ others. Ok (redaction ∷ others)) (each_found kept pool rest named.1)

first_absent : (pool : Pool) (absent : List ℕ) (before behind : List (List ℕ)) → ((one : List ℕ) → Contains before one → HasSnapshot pool one) → (HasSnapshot pool absent → ⊥)
    → find_each (before ++ absent ∷ behind) pool ≡ Err (no_such (names.Snapshot absent))
first_absent pool absent [] behind there none =
    ap (λ o. or_else (no_such (names.Snapshot absent)) o (λ (s : Snapshot). find_each behind pool >>= λ others. Ok (s ∷ others))) (none_of_name (λ (s : Snapshot). s.name) absent pool.snapshots none)
first_absent pool absent (name ∷ before) behind there none =
    let one = one_of_name (λ (s : Snapshot). s.name) name pool.snapshots (there name (contains_first name before)) in
    ap (λ o. or_else (no_such (names.Snapshot name)) o (λ (s : Snapshot). find_each (before ++ absent ∷ behind) pool >>= λ others. Ok (s ∷ others))) one.1
    ∙ ap (λ q. q >>= λ others. Ok (one.0 ∷ others)) (first_absent pool absent before behind (λ other k. there other (contains_later name before other k)) none)

-- the first that passes a test, behind some that don't
first_passes : {A : Type 0} (test : A → Bool) (before : List A) (one : A) (behind : List A) → ((x : A) → Contains before x → test x ≡ false) → test one ≡ true
    → find test (before ++ one ∷ behind) ≡ Some one
first_passes test [] one behind none passes = rw passes refl
first_passes test (x ∷ before) one behind none passes =
    rw (none x (contains_first x before)) (first_passes test before one behind (λ y k. none y (contains_later x before y k)) passes)

-- ---- what is made

pub redact_makes : RedactMakes
unfolding stepped
redact_makes held now of name kept pool after snapshot redactions h are =
    let made = with_redaction_ok of name kept pool after h in
    let same = same_Some made.snapshot snapshot (sym made.there ∙ are.own) in
    let others = ok_parts made.redactions redactions (sym made.found ∙ each_found kept pool redactions are.each) in
    let named = (named_found (λ s. s.name) of pool.snapshots made.snapshot made.there).1 in
    let row = redaction_of name made.snapshot made.redactions in
    let none = none_passes (λ b. bytes_eq b.name name) pool.bookmarks (none_there (bookmark_named name pool) made.absent) in
    let is : IsRedaction made.snapshot made.redactions row = record {
      guid = refl;
      time = refl;
      number = refl;
      rising = guids_rise made.redactions;
      guids = λ guid. (
        λ there. guid_of_one made.redactions guid there,
        λ (redaction, there, e). subst (Contains row.redact) e (one_has_guid made.redactions redaction there),
      );
      list = runs_list (unkept made.snapshot made.redactions);
    } in
    subst (λ (s : Stepped).
    ((bookmark : Bookmark) × (bookmark_named name s.pool ≡ Some bookmark) × IsRedaction snapshot redactions bookmark)
    × (dataset_before_mark name ≡ dataset_before of)
    × ((other : List ℕ) → other ≢ name → bookmark_named other s.pool ≡ bookmark_named other pool)
    × (s.pool ≡ record pool { number = pool.number + 1; bookmarks = s.pool.bookmarks })) (committed_ok _ after made.made).1 (
      (
        row,
        find-inserted_row (λ b. bytes_eq b.name name) (λ a b. is_before a.name b.name) row pool.bookmarks none (bytes_same name name refl),
        subst (λ (s : Snapshot). IsRedaction s redactions row) same (subst (λ (rs : List Snapshot). IsRedaction made.snapshot rs row) others is),
      ),
      sym made.same ∙ ap (dataset_of 64) named,
      λ other apart. find-inserted_other (λ b. bytes_eq b.name other) (λ a b. is_before a.name b.name) row pool.bookmarks (differ name other (λ e. apart (sym e))),
      refl,
    )

-- ---- what comes behind the names of a redaction

module _ (pool : Pool) (of name : List ℕ) (snapshot : Snapshot) (redactions : List Snapshot) where
  abbrev marked : Pool
  marked = record pool { bookmarks = inserted (λ a b. is_before a.name b.name) (redaction_of name snapshot redactions) pool.bookmarks }

  abbrev to_runs : Result Stepped Refusal
  to_runs = limited quantities.Runs most_runs (length (runs_of (unkept snapshot redactions))) (committed marked)

  abbrev to_limit : Result Stepped Refusal
  to_limit = limited quantities.Bookmarks most_bookmarks (length pool.bookmarks + 1) to_runs

  abbrev isnt_behind : Snapshot → Bool
  isnt_behind redaction = not (comes_before pool (OfSnapshot snapshot) redaction)

  abbrev to_behind : Result Stepped Refusal
  to_behind = unless_there not_descendant (find isnt_behind redactions) to_limit

  abbrev to_whole : Result Stepped Refusal
  to_whole = unless (has_guids snapshot.redact) relayed to_behind

  abbrev to_name : Result Stepped Refusal
  to_name = unless (is_some (bookmark_named name pool)) (exists_already (names.Bookmark name)) to_whole

  abbrev to_dataset : Result Stepped Refusal
  to_dataset = unless (not (bytes_eq (dataset_of_snapshot snapshot) (dataset_of 35 name))) (not_ancestor (names.Bookmark name) (names.Snapshot of)) to_name

abbrev of_each : Pool → List ℕ → List ℕ → List (List ℕ) → Snapshot → Result Stepped Refusal
of_each pool of name kept snapshot = find_each kept pool >>= λ redactions. to_dataset pool of name snapshot redactions

redact_of : (pool : Pool) (of name : List ℕ) (kept : List (List ℕ)) (held : List Held) (now : ℕ) (o : Option Snapshot) → snapshot_named of pool ≡ o
    → stepped held now (commands.Redact of name kept) pool ≡ or_else (no_such (names.Snapshot of)) o (of_each pool of name kept)
unfolding stepped
redact_of pool of name kept held now o h = ap (λ o. or_else (no_such (names.Snapshot of)) o (of_each pool of name kept)) h

pub redact_absent : RedactWantsSnapshot
redact_absent pool of name kept h held now = redact_of pool of name kept held now None h

pub redact_wants_each : RedactWantsEach
redact_wants_each pool of name absent before behind snapshot found there none held now =
    redact_of pool of name (before ++ absent ∷ behind) held now (Some snapshot) found
    ∙ ap (λ q. q >>= λ redactions. to_dataset pool of name snapshot redactions) (first_absent pool absent before behind there none)

module _ (pool : Pool) (of name : List ℕ) (kept : List (List ℕ)) (snapshot : Snapshot) (redactions : List Snapshot) (held : List Held) (now : ℕ) where
  redact_on : AreThere pool of kept snapshot redactions → stepped held now (commands.Redact of name kept) pool ≡ to_dataset pool of name snapshot redactions
  redact_on are =
      redact_of pool of name kept held now (Some snapshot) are.own
      ∙ ap (λ q. q >>= λ redactions. to_dataset pool of name snapshot redactions) (each_found kept pool redactions are.each)

  placed_on : IsPlaced pool of name kept snapshot redactions → stepped held now (commands.Redact of name kept) pool ≡ to_name pool of name snapshot redactions
  placed_on is =
      let named = (named_found (λ s. s.name) of pool.snapshots snapshot is.named.own).1 in
      let same = bytes_same (dataset_of_snapshot snapshot) (dataset_of 35 name) (ap (dataset_of 64) named ∙ is.same) in
      redact_on is.named
      ∙ passed (not (bytes_eq (dataset_of_snapshot snapshot) (dataset_of 35 name))) _ _ (not_from_true (bytes_eq (dataset_of_snapshot snapshot) (dataset_of 35 name)) same)

  whole_on : IsPlaced pool of name kept snapshot redactions → bookmark_named name pool ≡ None
      → stepped held now (commands.Redact of name kept) pool ≡ to_whole pool of name snapshot redactions
  whole_on is free = placed_on is ∙ ap (λ o. unless (is_some o) (exists_already (names.Bookmark name)) (to_whole pool of name snapshot redactions)) free

  behind_on : IsRedactable pool of name kept snapshot redactions → stepped held now (commands.Redact of name kept) pool ≡ to_behind pool of name snapshot redactions
  behind_on is = whole_on is.placed is.free ∙ ap (λ (guids : List ℕ). unless (has_guids guids) relayed (to_behind pool of name snapshot redactions)) is.whole

  own_there : IsRedactable pool of name kept snapshot redactions → Contains pool.snapshots snapshot
  own_there is = (named_found (λ s. s.name) of pool.snapshots snapshot is.placed.named.own).0

  redaction_there : IsRedactable pool of name kept snapshot redactions → (redaction : Snapshot) → Contains redactions redaction → Contains pool.snapshots redaction
  redaction_there is = each_there kept pool redactions (each_found kept pool redactions is.placed.named.each)

  passes_not : IsRedactable pool of name kept snapshot redactions → (some : List Snapshot) → ((redaction : Snapshot) → Contains some redaction → Contains redactions redaction) → AreBehind pool snapshot some
      → (redaction : Snapshot) → Contains some redaction → isnt_behind pool of name snapshot redactions redaction ≡ false
  passes_not is some among behind redaction there =
      not_from_true (comes_before pool (OfSnapshot snapshot) redaction)
      ((before_tested pool (OfSnapshot snapshot) redaction is.lawful is.sound (own_there is) (redaction_there is redaction (among redaction there))).1 (behind redaction there))

  limit_on : IsRedactable pool of name kept snapshot redactions → AreBehind pool snapshot redactions
      → stepped held now (commands.Redact of name kept) pool ≡ to_limit pool of name snapshot redactions
  limit_on is behind =
      behind_on is
      ∙ ap (λ o. unless_there not_descendant o (to_limit pool of name snapshot redactions))
      (none_from_absent (isnt_behind pool of name snapshot redactions) redactions (passes_not is redactions (λ redaction there. there) behind))

  runs_on : IsRedactable pool of name kept snapshot redactions → AreBehind pool snapshot redactions → length pool.bookmarks < 1024
      → stepped held now (commands.Redact of name kept) pool ≡ to_runs pool of name snapshot redactions
  unfolding most_bookmarks
  runs_on is behind few =
      limit_on is behind ∙ within_limit quantities.Bookmarks 1024 (length pool.bookmarks + 1) (to_runs pool of name snapshot redactions) (omega arith)

pub redact_elsewhere : RedactIsElsewhere
redact_elsewhere pool of name kept snapshot redactions are apart held now =
    let named = (named_found (λ s. s.name) of pool.snapshots snapshot are.own).1 in
    let other = false_from_ne_true (bytes_eq (dataset_of_snapshot snapshot) (dataset_of 35 name)) (λ e.
    apart (sym (ap (dataset_of 64) named) ∙ same_bytes (dataset_of_snapshot snapshot) (dataset_of 35 name) e)) in
    redact_on pool of name kept snapshot redactions held now are
    ∙ refused (not (bytes_eq (dataset_of_snapshot snapshot) (dataset_of 35 name))) _ _ (not_from_false (bytes_eq (dataset_of_snapshot snapshot) (dataset_of 35 name)) other)

pub redact_there : RedactIsThere
redact_there pool of name kept snapshot redactions bookmark is h held now =
    placed_on pool of name kept snapshot redactions held now is
    ∙ ap (λ o. unless (is_some o) (exists_already (names.Bookmark name)) (to_whole pool of name snapshot redactions)) h

pub redact_relayed : RedactIsRelayed
redact_relayed pool of name kept snapshot redactions is free some held now =
    whole_on pool of name kept snapshot redactions held now is free
    ∙ refused (has_guids snapshot.redact) relayed (to_behind pool of name snapshot redactions) (lt-ltb 0 (length snapshot.redact) some)

pub redact_earlier : RedactIsEarlier
redact_earlier pool of name kept snapshot one before behind is stands apart held now =
    let redactions = before ++ one ∷ behind in
    let there = redaction_there pool of name kept snapshot redactions held now is one (Contains-append_right before (one ∷ behind) one (contains_first one behind)) in
    let own = own_there pool of name kept snapshot redactions held now is in
    behind_on pool of name kept snapshot redactions held now is
    ∙ ap (λ o. unless_there not_descendant o (to_limit pool of name snapshot redactions))
    (first_passes (isnt_behind pool of name snapshot redactions) before one behind
    (passes_not pool of name kept snapshot redactions held now is before (λ redaction k. Contains-append_left before (one ∷ behind) redaction k) stands)
    (negated (comes_before pool (OfSnapshot snapshot) one) (λ h. apart ((before_tested pool (OfSnapshot snapshot) one is.lawful is.sound own there).0 h))))

pub redacts_full : RedactsAreFull
unfolding most_bookmarks
redacts_full pool of name kept snapshot redactions is behind many held now =
    limit_on pool of name kept snapshot redactions held now is behind
    ∙ over quantities.Bookmarks 1024 (length pool.bookmarks + 1) (to_runs pool of name snapshot redactions) (omega arith)

-- a list of what none has kept is the one that the bookmark gets
as_long : (snapshot : Snapshot) (redactions : List Snapshot) (runs : Runs) → IsListOf (unkept snapshot redactions) runs → length (runs_of (unkept snapshot redactions)) ≡ length runs
as_long snapshot redactions runs is =
    ap length (same_list (unkept snapshot redactions) (runs_of (unkept snapshot redactions)) runs (runs_list (unkept snapshot redactions)) is)

pub redact_long : RedactIsLong
unfolding most_runs
redact_long pool of name kept snapshot redactions runs is behind few list long held now =
    runs_on pool of name kept snapshot redactions held now is behind few
    ∙ over quantities.Runs 65536 (length (runs_of (unkept snapshot redactions))) (committed (marked pool of name snapshot redactions))
    (subst (λ n. 65536 < n) (sym (as_long snapshot redactions runs list)) long)

pub redact_number : RedactHasNoNumber
unfolding most_runs
redact_number pool of name kept snapshot redactions runs is behind few list short e held now =
    runs_on pool of name kept snapshot redactions held now is behind few
    ∙ within_limit quantities.Runs 65536 (length (runs_of (unkept snapshot redactions))) (committed (marked pool of name snapshot redactions))
    (subst (λ n. n ≤ 65536) (sym (as_long snapshot redactions runs list)) short)
    ∙ no_number (marked pool of name snapshot redactions) e
