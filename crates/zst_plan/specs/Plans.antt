-- Which send a plan is of.
use Rattle.std.specs.Prelude.{◌≡◌, ◌<◌, List, [], length, Option, Some, None, IfSome, option_map, ℕ, Result}
use Rattle.zst_dir.specs.Rows.{Rows}
use Rattle.zst_model.specs.pools.Ancestry.{Source, OfSnapshot, OfBookmark, number_of_source}
use Rattle.zst_model.specs.pools.Pool.{Pool, Snapshot, Bookmark}
use Rattle.zst_model.specs.sends.Features.{sa_spill}
use Rattle.zst_model.specs.sends.Headers.{Sent, from_guid, flags_of, clone_flag, free_records, spill_block}
use Rattle.zst_plan.specs.declared.flags.TheConstants.{CLONE, FREE_RECORDS, SA_SPILL, SPILL_BLOCK}
use Rattle.zst_model.specs.sends.SendPlan.{kind_of}
use Rattle.zst_plan.specs.Places.{Answers, FindAlike, StandsAt}
use Rattle.zst_plan.specs.Sources.{IsInRows}
use Rattle.zst_plan.specs.declared.source.Source as found
use Rattle.zst_plan.specs.declared.plan.SendPlan.{SendPlan}

-- the source, where it is a snapshot, and where it is a bookmark
abbrev pub snapshot_source : Option Source → Option Snapshot
snapshot_source None = None
snapshot_source (Some (OfSnapshot snapshot)) = Some snapshot
snapshot_source (Some (OfBookmark bookmark)) = None

abbrev pub bookmark_source : Option Source → Option Bookmark
bookmark_source None = None
bookmark_source (Some (OfSnapshot snapshot)) = None
bookmark_source (Some (OfBookmark bookmark)) = Some bookmark

-- the redaction guids of a bookmark, where there is one
abbrev pub mark_guids : Option Bookmark → List ℕ
mark_guids None = []
mark_guids (Some bookmark) = bookmark.redact

-- the plan is from this source: its place is that of the snapshot or of the bookmark, and its number and guid are the source's
pub record IsFrom (rows : Rows) (pool : Pool) (plan : SendPlan) (source : Option Source) : Type 0 where
  pub snapshot : FindAlike (StandsAt rows.snapshots pool.snapshots) plan.from_snap (snapshot_source source)
  pub bookmark : FindAlike (StandsAt rows.bookmarks pool.bookmarks) plan.book_f (bookmark_source source)
  pub number : plan.from_number ≡ option_map number_of_source source
  pub guid : plan.from_guid ≡ from_guid source

-- the plan is of what is sent: its places are those of the snapshot, of the source and of the redaction bookmark, and its flags are those of BEGIN
pub record IsPlanOf (rows : Rows) (pool : Pool) (plan : SendPlan) (sent : Sent) : Type 0 where
  pub snapshot : StandsAt rows.snapshots pool.snapshots plan.snap sent.snapshot
  pub source : IsFrom rows pool plan sent.source
  pub redaction : FindAlike (StandsAt rows.bookmarks pool.bookmarks) plan.book_t sent.redaction
  pub flags : plan.flags ≡ flags_of sent
  pub kind : sent.kind ≡ kind_of pool sent.snapshot

-- the plan's places are places of the directory
pub record IsInside (rows : Rows) (plan : SendPlan) : Type 0 where
  pub snapshot : plan.snap < length rows.snapshots
  pub from_snapshot : IfSome plan.from_snap (λ place. place < length rows.snapshots)
  pub from_bookmark : IfSome plan.book_f (λ place. place < length rows.bookmarks)
  pub redaction : IfSome plan.book_t (λ place. place < length rows.bookmarks)

-- the places of a snapshot, of what it is from and of a redaction bookmark are places of the directory
pub record AreInside (rows : Rows) (snap : ℕ) (source : Option found.Source) (redaction : Option ℕ) : Type 0 where
  pub snapshot : snap < length rows.snapshots
  pub from : IfSome source (IsInRows rows)
  pub bookmark : IfSome redaction (λ p. p < length rows.bookmarks)

-- an answer that is a plan of this send
abbrev pub AnswersPlan : {E : Type 0} → Rows → (Pool → Result Sent E) → Result SendPlan E → Type 0
AnswersPlan rows definition result = Answers rows (IsInside rows) (IsPlanOf rows) definition result

-- two plans are of one snapshot with one redaction bookmark and the same flags
pub record IsSameSend (plan other : SendPlan) : Type 0 where
  pub snapshot : other.snap ≡ plan.snap
  pub redaction : other.book_t ≡ plan.book_t
  pub flags : other.flags ≡ plan.flags

-- the flags and the feature of each send in code are those of the definitions
pub record FlagsAreDefined : Type 0 where
  pub clone : CLONE ≡ clone_flag
  pub free_records : FREE_RECORDS ≡ free_records
  pub spill_block : SPILL_BLOCK ≡ spill_block
  pub sa_spill : SA_SPILL ≡ sa_spill
