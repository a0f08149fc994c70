-- What a send from a token gives, and where what the token states is absent (zfs-send(8), -t).
use Rattle.std.specs.Prelude.{◌≡◌, ◌≢◌, ◌<◌, length, Option, Some, None, Ok, Err}
use Rattle.zst_model.specs.declared.refusals.subjects.AbsentSubject.TheVariants as missing
use Rattle.zst_model.specs.declared.refusals.plan_fault.PlanFault.TheVariants as plans
use Rattle.zst_model.specs.pools.Ancestry.{Source, OfSnapshot, OfBookmark}
use Rattle.zst_model.specs.pools.Pool.{Pool, Dataset, Snapshot, Bookmark, IsPool, dataset_named, dataset_of_snapshot}
use Rattle.zst_model.specs.pools.Soundness.{Sound}
use Rattle.zst_model.specs.declared.sends.ask.SendAsk.{SendAsk}
use Rattle.zst_model.specs.declared.sends.header.Point.{Point}
use Rattle.zst_model.specs.sends.Headers.{Sent, from_guid, header_of, redaction_guids, source_guids}
use Rattle.zst_model.specs.sends.SendPlan.{send_plan}
use Rattle.zst_laws.specs.LineageRefusals.{NoneHolds}
use Rattle.zst_laws.specs.SendPlans.{IsOnce, StandsBeforeSnapshot}
use Rattle.zst_laws.specs.RedactionLists.{HaveOwnGuids}
use Rattle.zst_token.specs.declared.token.Token.{Token}
use Rattle.zst_token.specs.PartialToken.{token_for}
use Rattle.zst_plan.specs.AcceptedStreams.{IsFirst}
use Rattle.zst_plan.specs.ResumePlan.{resumed_send}

-- a snapshot, and a bookmark, that an increment for a token may come from: it has the token's from guid and from-redaction guids, and stands before what is sent
pub record IsSnapshotFrom (token : Token) (pool : Pool) (sent source : Snapshot) : Type 0 where
  pub guid : source.guid ≡ token.from
  pub redact : source.redact ≡ token.from_redact
  pub before : StandsBeforeSnapshot pool (OfSnapshot source) sent

pub record IsMarkFrom (token : Token) (pool : Pool) (sent : Snapshot) (source : Bookmark) : Type 0 where
  pub guid : source.guid ≡ token.from
  pub redact : source.redact ≡ token.from_redact
  pub before : StandsBeforeSnapshot pool (OfBookmark source) sent

-- neither a snapshot nor a bookmark is one
pub record HasNoFrom (token : Token) (pool : Pool) (sent : Snapshot) : Type 0 where
  pub snapshots : NoneHolds (IsSnapshotFrom token pool sent) pool.snapshots
  pub bookmarks : NoneHolds (IsMarkFrom token pool sent) pool.bookmarks

-- what is sent for a token, the first snapshot with its to guid
abbrev pub IsFirstTo : Token → Pool → Snapshot → Type 0
IsFirstTo token pool sent = IsFirst (λ (s : Snapshot). s.guid ≡ token.to) pool.snapshots sent

-- what it is sent from: nothing where the from guid is 0, and else the first such snapshot, or the first such bookmark
pub data IsSentFrom (token : Token) (pool : Pool) (sent : Snapshot) : Option Source → Type 0 where
  FromNothing : token.from ≡ 0 → IsSentFrom token pool sent None
  FromSnapshot : (source : Snapshot) → token.from ≢ 0 → IsFirst (IsSnapshotFrom token pool sent) pool.snapshots source
      → IsSentFrom token pool sent (Some (OfSnapshot source))
  FromMark : (source : Bookmark) → token.from ≢ 0 → NoneHolds (IsSnapshotFrom token pool sent) pool.snapshots → IsFirst (IsMarkFrom token pool sent) pool.bookmarks source
      → IsSentFrom token pool sent (Some (OfBookmark source))

-- a bookmark has a token's to guid and redaction guids
abbrev pub IsMarkOf : Token → Bookmark → Type 0
IsMarkOf token bookmark = (bookmark.guid ≡ token.to) × (bookmark.redact ≡ token.redact)

-- the redaction bookmark: none where what is sent has the token's redaction guids itself, and else the first such one, for a token that has some
pub data IsRedactedBy (token : Token) (pool : Pool) (sent : Snapshot) : Option Bookmark → Type 0 where
  ByNone : token.redact ≡ sent.redact → IsRedactedBy token pool sent None
  ByMark : (bookmark : Bookmark) → token.redact ≢ sent.redact → 0 < length token.redact → IsFirst (IsMarkOf token) pool.bookmarks bookmark
      → IsRedactedBy token pool sent (Some bookmark)

-- where the pool has all that a token states, and no redacted snapshot would be redacted once more, exactly this is sent
abbrev pub TokensAreAccepted : Type 0
TokensAreAccepted =
    (token : Token) (pool : Pool) (sent : Snapshot) (source : Option Source) (redaction : Option Bookmark) (dataset : Dataset)
    → IsPool pool → Sound pool → IsFirstTo token pool sent → IsOnce sent redaction → IsSentFrom token pool sent source → IsRedactedBy token pool sent redaction
    → dataset_named (dataset_of_snapshot sent) pool ≡ Some dataset
    → resumed_send token pool ≡ Ok (record { snapshot = sent; kind = dataset.kind; source = source; redaction = redaction })

-- E3: no snapshot has the token's to guid
abbrev pub SentIsAbsent : Type 0
SentIsAbsent =
    (token : Token) (pool : Pool) → NoneHolds (λ (s : Snapshot). s.guid ≡ token.to) pool.snapshots
    → resumed_send token pool ≡ Err (plans.NoSuch (missing.Guid token.to))

-- E3: nothing is what an increment for the token may come from
abbrev pub FromIsAbsent : Type 0
FromIsAbsent =
    (token : Token) (pool : Pool) (sent : Snapshot)
    → IsPool pool → Sound pool → IsFirstTo token pool sent → token.from ≢ 0 → HasNoFrom token pool sent
    → resumed_send token pool ≡ Err (plans.NoSuch (missing.Guid token.from))

-- E3: what is sent has other redaction guids than the token, and the token has none, or no bookmark has them and the to guid
abbrev pub MarkIsAbsent : Type 0
MarkIsAbsent =
    (token : Token) (pool : Pool) (sent : Snapshot) (source : Option Source)
    → IsPool pool → Sound pool → IsFirstTo token pool sent → IsSentFrom token pool sent source
    → token.redact ≢ sent.redact → (0 < length token.redact → NoneHolds (IsMarkOf token) pool.bookmarks)
    → resumed_send token pool ≡ Err (plans.NoSuch (missing.Guid token.to))

-- a send gives the snapshot that another gave, from the same guid, and states the same redaction guids
pub record IsAgain (sent again : Sent) : Type 0 where
  pub snapshot : again.snapshot ≡ sent.snapshot
  pub kind : again.kind ≡ sent.kind
  pub from : from_guid again.source ≡ from_guid sent.source
  pub from_redact : source_guids again.source ≡ source_guids sent.source
  pub redact : redaction_guids again.snapshot again.redaction ≡ redaction_guids sent.snapshot sent.redaction

-- whatever a send gives, the token of its header gives again, at any point, where no two snapshots have one guid
abbrev pub SendsHaveTokens : Type 0
SendsHaveTokens =
    (ask : SendAsk) (pool : Pool) (sent : Sent) (point : Point)
    → IsPool pool → Sound pool → HaveOwnGuids pool → send_plan ask pool ≡ Ok sent
    → (again : Sent) × (resumed_send (token_for (header_of sent) point) pool ≡ Ok again) × IsAgain sent again
