-- What can be sent, and which bases match it.
use Rattle.std.specs.Prelude.{ℕ, ◌≡◌, ◌<◌, ◌≤◌, ◌^◌, true, List, [], length, Option, Some, None, Ok, Contains}
use Rattle.zst_model.specs.declared.sends.ask.SendAsk.{SendAsk}
use Rattle.zst_model.specs.declared.sends.header.Header.{Header}
use Rattle.zst_model.specs.declared.sends.header.Point.{Point}
use Rattle.zst_model.specs.pools.Ancestry.{Source, OfBookmark, number_of_source}
use Rattle.zst_model.specs.pools.KeptPool.{kept_of}
use Rattle.zst_model.specs.pools.Pool.{Bookmark, Pool, Snapshot, IsPool, partial_of}
use Rattle.zst_model.specs.pools.Soundness.{Sound}
use Rattle.zst_model.specs.sends.Headers.{Sent, IsOf, choice_of, guid_of_source, header_of}
use Rattle.zst_model.specs.sends.SendPlan.{send_plan}
use Rattle.zst_model.specs.sends.Target.{BaseOk, CanRedact, redacted}
use Rattle.zst_model.specs.states.State.{State, IsState, number_bound}
use Rattle.zst_laws.specs.Meanings.{RedactsUserData}
use Rattle.zst_laws.specs.RedactionLists.{AreListed, AreRedactions, HaveOwnGuids, IsOverRedacted, each_guid, lost}
use Rattle.zst_laws.specs.RememberedStates.{IsOwn, SourceRemembers}
use Rattle.zst_plan.specs.ContainedBases.{SendsWhole}
use Rattle.zst_plan.specs.RecvPlan.{is_contained}
use Rattle.zst_plan.specs.ResumePlan.{resumed_send}
use Rattle.zst_plan.specs.declared.receive.RecvAsk.{RecvAsk}
use Rattle.zst_stream.specs.Items.{IsUnredacted}
use Rattle.zst_token.specs.declared.token.Token.{Token}
use Rattle.zst_replication.specs.Outcomes.{HasOneMore}
use Rattle.zst_replication.specs.Replicas.{IsSendable, MatchesBase}

-- what is sent is within what a stream can say: each pair that is to be redacted is data of a file or a volume, each block that is redacted already
-- is of one, and a send that states no redaction guids, whose stream has no REDACT, has none of these
pub record IsWithin (sent : Sent) : Type 0 where
  pub may : CanRedact sent.snapshot.objects.state (choice_of sent).redact
  pub plain : (header_of sent).redact ≡ [] → IsUnredacted sent.snapshot.objects.state

-- a redaction bookmark is given of which part 4 of soundness speaks: its own snapshot is what is sent, its redaction snapshots stand, and what is
-- redacted in the snapshot already is user data
pub record IsListed (pool : Pool) (sent : Sent) (bookmark : Bookmark) (redactions : List Snapshot) : Type 0 where
  pub is_of : IsOf pool sent
  pub given : sent.redaction ≡ Some bookmark
  pub own : IsOwn (OfBookmark bookmark) sent.snapshot
  pub redactions_are : AreRedactions pool sent.snapshot bookmark.redact redactions
  pub user_data : RedactsUserData sent.snapshot.objects.state

-- So a send is within that where its pool's redaction bookmarks list what they should.
abbrev pub ListedIsWithin : Type 0
ListedIsWithin =
    (pool : Pool) (sent : Sent) (bookmark : Bookmark) (redactions : List Snapshot) → AreListed pool → IsListed pool sent bookmark redactions → IsWithin sent

-- And so is one without a redaction bookmark, of a snapshot without redacted blocks.
abbrev pub PlainIsWithin : Type 0
PlainIsWithin = (sent : Sent) → sent.redaction ≡ None → IsUnredacted sent.snapshot.objects.state → IsWithin sent

-- And so is a redacted snapshot that is sent on as it is, where what is redacted in it is user data.
abbrev pub RelayIsWithin : Type 0
RelayIsWithin = (sent : Sent) → sent.redaction ≡ None → 0 < length sent.snapshot.redact → RedactsUserData sent.snapshot.objects.state → IsWithin sent

-- What is planned of a lawful pool can be stated and read, where it is within that.
abbrev pub SentCanBeSent : Type 0
SentCanBeSent = (ask : SendAsk) (pool : Pool) (sent : Sent) → IsPool pool → send_plan ask pool ≡ Ok sent → IsWithin sent → IsSendable sent None

-- a point that a token has: one in an object of at most 2^48, at an offset of 64 bits
pub record IsTokenPoint (point : Point) : Type 0 where
  pub object : point.object ≤ number_bound
  pub offset : point.offset < 2 ^ 64

-- So can the rest of it, from each point that a token can have.
abbrev pub RestCanBeSent : Type 0
RestCanBeSent =
    (token : Token) (pool : Pool) (sent : Sent) (point : Point) → IsPool pool → resumed_send token pool ≡ Ok sent → IsWithin sent → IsTokenPoint point
    → IsSendable sent (Some point)

-- A full stream matches whatever a lawful pool has.
abbrev pub FullMatches : Type 0
FullMatches =
    (sent : Sent) (ask : RecvAsk) (pool : Pool) → IsState sent.snapshot.objects.state → IsPool pool → partial_of ask.target pool ≡ None → sent.source ≡ None
    → MatchesBase sent ask pool

-- each snapshot of the receiver's pool that has the source's guid has a state that the source remembers; a full stream has no source
abbrev pub KnowsSource : Pool → Option Source → Pool → Type 0
KnowsSource from None into = Unit {0}
KnowsSource from (Some source) into =
    (snapshot : Snapshot) → Contains into.snapshots snapshot → snapshot.guid ≡ guid_of_source source → SourceRemembers from source snapshot.objects.state

-- So the receiver's base matches, whatever is asked of the receive.
abbrev pub BasesMatch : Type 0
BasesMatch =
    (ask : SendAsk) (from : Pool) (sent : Sent) (receive : RecvAsk) (into : Pool) → IsPool from → IsPool into → partial_of receive.target into ≡ None
    → send_plan ask from ≡ Ok sent → KnowsSource from sent.source into → MatchesBase sent receive into

-- the receiver's snapshots with the source's guid have this state
abbrev pub HasSource : Source → State → Pool → Type 0
HasSource source state into = (snapshot : Snapshot) → Contains into.snapshots snapshot → snapshot.guid ≡ guid_of_source source → snapshot.objects.state ≡ state

-- So it is where they have the state of the source's own snapshot, as those have that were received of it.
abbrev pub SourceIsKnown : Type 0
SourceIsKnown =
    (from : Pool) (source : Source) (own : Snapshot) (into : Pool) → Sound from → Contains from.snapshots own → IsOwn source own
    → HasSource source own.objects.state into → KnowsSource from (Some source) into

-- One snapshot more in the pool that runs is one more in what its image keeps.
abbrev pub OneMoreIsKept : Type 0
OneMoreIsKept =
    (old new : Pool) (target component : List ℕ) (base : Option (List ℕ)) (header : Header) (state : State)
    → HasOneMore old new target component base header state → HasOneMore (kept_of old) (kept_of new) target component base header state

-- Where the plan of a receive finds an increment contained in a base that was redacted for some snapshots of the increment's pool, that base is fit
-- for it, as long as neither the increment's snapshot nor its source was received redacted: what such a one lacks is listed nowhere in the pool.
abbrev pub ContainedIsBase : Type 0
ContainedIsBase =
    (pool : Pool) (sent : Sent) (source : Source) (own : Snapshot) (state : State) (redactions : List Snapshot)
    → IsPool pool → Sound pool → AreListed pool → HaveOwnGuids pool → IsOverRedacted pool sent source own state redactions → SendsWhole sent
    → 0 < length redactions → is_contained (each_guid redactions) (header_of sent) ≡ true
    → BaseOk (redacted state (lost state (number_of_source source) redactions)) sent.snapshot.objects (choice_of sent)

-- the receiver's snapshots with the source's guid are redacted for these snapshots, and have this state but for what those have lost
abbrev pub HasRedactedSource : Source → State → List Snapshot → Pool → Type 0
HasRedactedSource source state redactions into =
    (snapshot : Snapshot) → Contains into.snapshots snapshot → snapshot.guid ≡ guid_of_source source
    → (snapshot.redact ≡ each_guid redactions) × (snapshot.objects.state ≡ redacted state (lost state (number_of_source source) redactions))

-- So the receiver's redacted base matches, whatever is asked of the receive: its plan makes sure of that.
abbrev pub RedactedBasesMatch : Type 0
RedactedBasesMatch =
    (from : Pool) (sent : Sent) (source : Source) (own : Snapshot) (state : State) (redactions : List Snapshot) (receive : RecvAsk) (into : Pool)
    → IsPool from → Sound from → AreListed from → HaveOwnGuids from → IsOverRedacted from sent source own state redactions → SendsWhole sent
    → 0 < length redactions → partial_of receive.target into ≡ None → HasRedactedSource source state redactions into → MatchesBase sent receive into

-- The snapshot of a redaction bookmark is the one that is sent, where it is still there and no two snapshots have one guid.
abbrev pub MarkedIsSent : Type 0
MarkedIsSent =
    (pool : Pool) (sent : Sent) (bookmark : Bookmark) (own : Snapshot) → Sound pool → HaveOwnGuids pool → IsOf pool sent → sent.redaction ≡ Some bookmark
    → Contains pool.snapshots own → IsOwn (OfBookmark bookmark) own → own ≡ sent.snapshot
