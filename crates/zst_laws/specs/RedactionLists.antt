-- What redaction bookmarks list in a pool, and which redacted states are fit as bases.
use Rattle.std.specs.Prelude.{◌≡◌, ℕ, ◌<◌, true, List, map, length, Some, Contains, All}
use Rattle.zst_model.specs.fields.Lists.{has_pair}
use Rattle.zst_model.specs.pools.Ancestry.{Source, OfSnapshot, OfBookmark, number_of_source}
use Rattle.zst_model.specs.pools.Pool.{Pool, Snapshot, Bookmark, IsPool}
use Rattle.zst_model.specs.pools.RedSet.{objects_of, red_set}
use Rattle.zst_model.specs.pools.Soundness.{Sound}
use Rattle.zst_model.specs.sends.Headers.{Sent, IsOf, choice_of}
use Rattle.zst_model.specs.sends.Inclusion.{Pairs}
use Rattle.zst_model.specs.sends.Target.{BaseOk, CanRedact, redacted}
use Rattle.zst_model.specs.states.State.{Object, State, IsState, is_user_data}
use Rattle.zst_laws.specs.Meanings.{RedactsUserData}
use Rattle.zst_laws.specs.RememberedStates.{IsOwn, SourceRemembers}
use Rattle.zst_laws.specs.SendPlans.{StandsBeforeSnapshot}

-- the guids of snapshots, each in its place
abbrev pub each_guid : List Snapshot → List ℕ
each_guid snapshots = map (λ snapshot. snapshot.guid) snapshots

-- of the snapshots that a snapshot stands before these have these guids, one for each, and no others have one of them
pub record AreRedactions (pool : Pool) (own : Snapshot) (guids : List ℕ) (redactions : List Snapshot) : Type 0 where
  pub guids_are : each_guid redactions ≡ guids
  pub there : (redaction : Snapshot) → Contains redactions redaction → Contains pool.snapshots redaction
  pub later : (redaction : Snapshot) → Contains redactions redaction → StandsBeforeSnapshot pool (OfSnapshot own) redaction
  pub alone : (other : Snapshot) → Contains pool.snapshots other → StandsBeforeSnapshot pool (OfSnapshot own) other → Contains guids other.guid → Contains redactions other

-- a bookmark lists what these redaction snapshots leave of its own snapshot
abbrev pub Lists : Bookmark → Snapshot → List Snapshot → Type 0
Lists bookmark own redactions = (k i : ℕ) → has_pair bookmark.runs k i ≡ red_set own.objects.state own.number (objects_of redactions) k i

-- part 4 of soundness: where a redaction bookmark's own snapshot is there, and each of its guids is that of one snapshot behind it, the list is theirs
abbrev pub AreListed : Pool → Type 0
AreListed pool =
    (bookmark : Bookmark) (own : Snapshot) (redactions : List Snapshot) → Contains pool.bookmarks bookmark → 0 < length bookmark.redact
    → Contains pool.snapshots own → IsOwn (OfBookmark bookmark) own → AreRedactions pool own bookmark.redact redactions
    → Lists bookmark own redactions

-- no two snapshots have one guid
abbrev pub HaveOwnGuids : Pool → Type 0
HaveOwnGuids pool = (a b : Snapshot) → Contains pool.snapshots a → Contains pool.snapshots b → a.guid ≡ b.guid → a ≡ b

-- a new snapshot's guid is none that a redaction bookmark has
abbrev pub HaveNewGuids : Pool → Pool → Type 0
HaveNewGuids pool after =
    (snapshot : Snapshot) (bookmark : Bookmark) → Contains after.snapshots snapshot → Contains pool.bookmarks bookmark → Contains bookmark.redact snapshot.guid
    → Contains pool.snapshots snapshot

-- why a stream may come over a base that is redacted for snapshots of these guids: it is of one of them, or its redaction bookmark or that of its source is for some of them
pub data IsCovered (sent : Sent) (guids : List ℕ) : Type 0 where
  ToOne : Contains guids sent.snapshot.guid → IsCovered sent guids
  ByRedaction : (bookmark : Bookmark) → sent.redaction ≡ Some bookmark → All (Contains guids) bookmark.redact → IsCovered sent guids
  BySource : (bookmark : Bookmark) → sent.source ≡ Some (OfBookmark bookmark) → 0 < length bookmark.redact → All (Contains guids) bookmark.redact → IsCovered sent guids

-- the pairs of a state of this number that none of these snapshots has kept
abbrev pub lost : State → ℕ → List Snapshot → Pairs
lost state number redactions = red_set state number (objects_of redactions)

-- what is sent of a pool, from a source, over a base that was redacted for these snapshots
pub record IsOverRedacted (pool : Pool) (sent : Sent) (source : Source) (own : Snapshot) (state : State) (redactions : List Snapshot) : Type 0 where
  pub is_of : IsOf pool sent
  pub from : sent.source ≡ Some source
  pub own_there : Contains pool.snapshots own
  pub own_is : IsOwn source own
  pub marked : (bookmark : Bookmark) → sent.redaction ≡ Some bookmark → IsOwn (OfBookmark bookmark) sent.snapshot
  pub lawful : IsState state
  pub remembers : SourceRemembers pool source state
  pub before : StandsBeforeSnapshot pool source sent.snapshot
  pub there : (redaction : Snapshot) → Contains redactions redaction → Contains pool.snapshots redaction
  pub behind : (redaction : Snapshot) → Contains redactions redaction → StandsBeforeSnapshot pool source redaction
  pub later : (bookmark : Bookmark) → sent.redaction ≡ Some bookmark → (redaction : Snapshot) → Contains redactions redaction → Contains bookmark.redact redaction.guid
      → StandsBeforeSnapshot pool (OfSnapshot sent.snapshot) redaction
  pub kinds : (k : ℕ) (old new : Object) → state k ≡ Some old → sent.snapshot.objects.state k ≡ Some new → is_user_data old.attr ≡ true → is_user_data new.attr ≡ true

-- a state that a source remembers is fit as a base where it lacks what some snapshots behind the source have lost, as long as a stream covers these
abbrev pub CoveredIsBase : Type 0
CoveredIsBase =
    (pool : Pool) (sent : Sent) (source : Source) (own : Snapshot) (state : State) (redactions : List Snapshot)
    → IsPool pool → Sound pool → AreListed pool → HaveOwnGuids pool → IsOverRedacted pool sent source own state redactions
    → IsCovered sent (each_guid redactions)
    → BaseOk (redacted state (lost state (number_of_source source) redactions)) sent.snapshot.objects (choice_of sent)

-- what a redaction bookmark lists of its own snapshot can be redacted, where what is redacted already is user data
abbrev pub ListedMayBeRedacted : Type 0
ListedMayBeRedacted =
    (bookmark : Bookmark) (own : Snapshot) (redactions : List Snapshot)
    → Lists bookmark own redactions → RedactsUserData own.objects.state → CanRedact own.objects.state (has_pair bookmark.runs)
