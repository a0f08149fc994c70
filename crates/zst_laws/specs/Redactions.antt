-- What redact makes of a pool, and when it is refused.
use Rattle.std.specs.Prelude.{◌≡◌, ◌≢◌, ℕ, ◌+◌, ◌<◌, ◌≤◌, true, List, [], ◌∷◌, ◌++◌, length, Some, None, Ok, Contains}
use Rattle.std.specs.List.{AllZip}
use Rattle.zst_model.specs.declared.pools.command.Command.TheVariants as commands
use Rattle.zst_model.specs.declared.refusals.faults.Lack.TheVariants as lacks
use Rattle.zst_model.specs.declared.refusals.faults.Quantity.TheVariants as quantities
use Rattle.zst_model.specs.declared.refusals.plan_fault.PlanFault.TheVariants as plans
use Rattle.zst_model.specs.declared.refusals.refusal.Refusal.TheVariants as refusals
use Rattle.zst_model.specs.declared.refusals.subjects.Name.TheVariants as names
use Rattle.zst_model.specs.fields.Guids.{is_rising}
use Rattle.zst_model.specs.fields.Lists.{Runs}
use Rattle.zst_model.specs.fields.RunsOf.{IsListOf}
use Rattle.zst_model.specs.pools.Ancestry.{OfSnapshot}
use Rattle.zst_model.specs.pools.Pool.{Pool, Snapshot, Bookmark, HasSnapshot, IsPool, bookmark_named, snapshot_named}
use Rattle.zst_model.specs.pools.RedSet.{objects_of, red_set}
use Rattle.zst_model.specs.pools.Sessions.{Held}
use Rattle.zst_model.specs.pools.Soundness.{Sound}
use Rattle.zst_model.specs.pools.Step.{Stepped, stepped, no_such, exists_already, not_ancestor}
use Rattle.zst_model.specs.sends.Inclusion.{Pairs}
use Rattle.zst_laws.specs.Lineage.{HasExactly, dataset_before_mark}
use Rattle.zst_laws.specs.SendPlans.{StandsBeforeSnapshot}
use Rattle.zst_laws.specs.StepRefusals.{Refuses, dataset_before}

-- ---- what it makes

-- what a redaction names is there: its snapshot, and the redaction snapshots in the order of their names
pub record AreThere (pool : Pool) (of : List ℕ) (kept : List (List ℕ)) (snapshot : Snapshot) (redactions : List Snapshot) : Type 0 where
  pub own : snapshot_named of pool ≡ Some snapshot
  pub each : AllZip (λ name redaction. snapshot_named name pool ≡ Some redaction) kept redactions

-- the blocks of a snapshot that none of these has kept
abbrev pub unkept : Snapshot → List Snapshot → Pairs
unkept snapshot redactions = red_set snapshot.objects.state snapshot.number (objects_of redactions)

-- a redaction bookmark has its snapshot's guid, time and number, the guids of its redaction snapshots, rising and each once, and the list of what none of them has kept
pub record IsRedaction (snapshot : Snapshot) (redactions : List Snapshot) (bookmark : Bookmark) : Type 0 where
  pub guid : bookmark.guid ≡ snapshot.guid
  pub time : bookmark.time ≡ snapshot.time
  pub number : bookmark.number ≡ snapshot.number
  pub rising : is_rising bookmark.redact ≡ true
  pub guids : HasExactly bookmark.redact (λ guid. (redaction : Snapshot) × Contains redactions redaction × (redaction.guid ≡ guid))
  pub list : IsListOf (unkept snapshot redactions) bookmark.runs

-- redact makes such a bookmark, which is of its snapshot's dataset; nothing else changes
abbrev pub RedactMakes : Type 0
RedactMakes =
    (held : List Held) (now : ℕ) (of name : List ℕ) (kept : List (List ℕ)) (pool : Pool) (after : Stepped) (snapshot : Snapshot) (redactions : List Snapshot)
    → stepped held now (commands.Redact of name kept) pool ≡ Ok after → AreThere pool of kept snapshot redactions
    → ((bookmark : Bookmark) × (bookmark_named name after.pool ≡ Some bookmark) × IsRedaction snapshot redactions bookmark)
    × (dataset_before_mark name ≡ dataset_before of)
    × ((other : List ℕ) → other ≢ name → bookmark_named other after.pool ≡ bookmark_named other pool)
    × (after.pool ≡ record pool { number = pool.number + 1; bookmarks = after.pool.bookmarks })

-- ---- for what it is refused, in order

-- E3: there is no such snapshot to redact
abbrev pub RedactWantsSnapshot : Type 0
RedactWantsSnapshot =
    (pool : Pool) (of name : List ℕ) (kept : List (List ℕ))
    → snapshot_named of pool ≡ None → Refuses pool (commands.Redact of name kept) (no_such (names.Snapshot of))

-- E3: then of the redaction snapshots the first that is absent
abbrev pub RedactWantsEach : Type 0
RedactWantsEach =
    (pool : Pool) (of name absent : List ℕ) (before behind : List (List ℕ)) (snapshot : Snapshot)
    → snapshot_named of pool ≡ Some snapshot → ((one : List ℕ) → Contains before one → HasSnapshot pool one) → (HasSnapshot pool absent → ⊥)
    → Refuses pool (commands.Redact of name (before ++ absent ∷ behind)) (no_such (names.Snapshot absent))

-- E6: the bookmark is of another dataset, whether its name is free or not
abbrev pub RedactIsElsewhere : Type 0
RedactIsElsewhere =
    (pool : Pool) (of name : List ℕ) (kept : List (List ℕ)) (snapshot : Snapshot) (redactions : List Snapshot)
    → AreThere pool of kept snapshot redactions → dataset_before of ≢ dataset_before_mark name
    → Refuses pool (commands.Redact of name kept) (not_ancestor (names.Bookmark name) (names.Snapshot of))

-- all is there, and the bookmark is of the snapshot's dataset
pub record IsPlaced (pool : Pool) (of name : List ℕ) (kept : List (List ℕ)) (snapshot : Snapshot) (redactions : List Snapshot) : Type 0 where
  pub named : AreThere pool of kept snapshot redactions
  pub same : dataset_before of ≡ dataset_before_mark name

-- E4: the bookmark is there, whatever is redacted
abbrev pub RedactIsThere : Type 0
RedactIsThere =
    (pool : Pool) (of name : List ℕ) (kept : List (List ℕ)) (snapshot : Snapshot) (redactions : List Snapshot) (bookmark : Bookmark)
    → IsPlaced pool of name kept snapshot redactions → bookmark_named name pool ≡ Some bookmark
    → Refuses pool (commands.Redact of name kept) (exists_already (names.Bookmark name))

-- E19: the snapshot is redacted already, whatever the redaction snapshots are
abbrev pub RedactIsRelayed : Type 0
RedactIsRelayed =
    (pool : Pool) (of name : List ℕ) (kept : List (List ℕ)) (snapshot : Snapshot) (redactions : List Snapshot)
    → IsPlaced pool of name kept snapshot redactions → bookmark_named name pool ≡ None → 0 < length snapshot.redact
    → Refuses pool (commands.Redact of name kept) (refusals.Plan (plans.Unsupported lacks.Relay))

-- the bookmark's name is free and the snapshot is whole
pub record IsRedactable (pool : Pool) (of name : List ℕ) (kept : List (List ℕ)) (snapshot : Snapshot) (redactions : List Snapshot) : Type 0 where
  pub lawful : IsPool pool
  pub sound : Sound pool
  pub placed : IsPlaced pool of name kept snapshot redactions
  pub free : bookmark_named name pool ≡ None
  pub whole : snapshot.redact ≡ []

-- the snapshot stands before each of these
abbrev pub AreBehind : Pool → Snapshot → List Snapshot → Type 0
AreBehind pool snapshot redactions = (redaction : Snapshot) → Contains redactions redaction → StandsBeforeSnapshot pool (OfSnapshot snapshot) redaction

-- E8: of the redaction snapshots the first that the snapshot doesn't stand before, whatever limits are reached
abbrev pub RedactIsEarlier : Type 0
RedactIsEarlier =
    (pool : Pool) (of name : List ℕ) (kept : List (List ℕ)) (snapshot one : Snapshot) (before behind : List Snapshot)
    → IsRedactable pool of name kept snapshot (before ++ one ∷ behind) → AreBehind pool snapshot before → (StandsBeforeSnapshot pool (OfSnapshot snapshot) one → ⊥)
    → Refuses pool (commands.Redact of name kept) (refusals.Plan (plans.NotDescendant one.name))

-- E23: there are 1,024 bookmarks at most
abbrev pub RedactsAreFull : Type 0
RedactsAreFull =
    (pool : Pool) (of name : List ℕ) (kept : List (List ℕ)) (snapshot : Snapshot) (redactions : List Snapshot)
    → IsRedactable pool of name kept snapshot redactions → AreBehind pool snapshot redactions → 1024 ≤ length pool.bookmarks
    → Refuses pool (commands.Redact of name kept) (refusals.Limit quantities.Bookmarks 1024)

-- E23: a list has 65,536 runs at most
abbrev pub RedactIsLong : Type 0
RedactIsLong =
    (pool : Pool) (of name : List ℕ) (kept : List (List ℕ)) (snapshot : Snapshot) (redactions : List Snapshot) (runs : Runs)
    → IsRedactable pool of name kept snapshot redactions → AreBehind pool snapshot redactions → length pool.bookmarks < 1024
    → IsListOf (unkept snapshot redactions) runs → 65536 < length runs
    → Refuses pool (commands.Redact of name kept) (refusals.Limit quantities.Runs 65536)

-- E23 of a redaction, after all else
abbrev pub RedactHasNoNumber : Type 0
RedactHasNoNumber =
    (pool : Pool) (of name : List ℕ) (kept : List (List ℕ)) (snapshot : Snapshot) (redactions : List Snapshot) (runs : Runs)
    → IsRedactable pool of name kept snapshot redactions → AreBehind pool snapshot redactions → length pool.bookmarks < 1024
    → IsListOf (unkept snapshot redactions) runs → length runs ≤ 65536 → pool.number ≡ 9223372036854775808
    → Refuses pool (commands.Redact of name kept) (refusals.Limit quantities.Number 9223372036854775808)
