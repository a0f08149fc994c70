-- What opening a send answers.
use Rattle.std.specs.Prelude.{◌≡◌, ◌⊎◌, ◌==◌, ◌&&◌, ◌<◌, nat_lt, ℕ, Bool, true, false, if◌then◌else◌, List, [], length, slice_index_or, find, Option, Some, None, IfSome, option_map, Result, Ok, Err}
use Rattle.zst_outside.specs.declared.disk.Disk.{Ghosts}
use Rattle.zst_space.specs.FreeSectors.{FreeSectors}
use Rattle.zst_block.specs.Blocks.{Has}
use Rattle.zst_block.specs.IoCalls.{Looks}
use Rattle.zst_block.specs.IoStates.{io_of}
use Rattle.zst_dir.specs.RowNames.{StandAlike}
use Rattle.zst_dir.specs.Rows.{Rows}
use Rattle.zst_dir.specs.declared.rows.Bookmark.{Bookmark}
use Rattle.zst_dir.specs.declared.rows.Snapshot.{Snapshot}
use Rattle.zst_image.specs.Reads.{RunsBy}
use Rattle.zst_list.specs.StoredLists.{HasList}
use Rattle.zst_model.specs.declared.refusals.faults.Lack.TheVariants as lacks
use Rattle.zst_model.specs.declared.refusals.faults.Quantity.TheVariants as quantities
use Rattle.zst_model.specs.declared.refusals.plan_fault.PlanFault.{PlanFault}
use Rattle.zst_model.specs.declared.refusals.plan_fault.PlanFault.TheVariants as plans
use Rattle.zst_model.specs.declared.sends.ask.SendAsk.{SendAsk}
use Rattle.zst_model.specs.declared.sends.header.Point.{Point}
use Rattle.zst_model.specs.fields.Lists.{Runs}
use Rattle.zst_model.specs.pools.Ancestry.{Source, OfSnapshot, OfBookmark}
use Rattle.zst_model.specs.pools.Limits.{most_runs}
use Rattle.zst_model.specs.pools.Pool.{Pool as Plain}
use Rattle.zst_model.specs.pools.Pool as plain
use Rattle.zst_model.specs.sends.Headers.{Sent, choice_of, source_runs}
use Rattle.zst_model.specs.sends.SendPlan.{has_guids, is_redacted, send_plan, with_list}
use Rattle.zst_model.specs.states.AppliedItems.{unless}
use Rattle.zst_objset.specs.Damage.{DamageFact}
use Rattle.zst_objset.specs.Sets.{SetHolds, SetHoldsBut}
use Rattle.zst_plan.specs.Plans.{AnswersPlan, bookmark_source}
use Rattle.zst_plan.specs.ResumePlan.{resumed_send}
use Rattle.zst_plan.specs.declared.plan.SendPlan.{SendPlan}
use Rattle.zst_pool.specs.Lists.{IsOutside, IsUnread, TellsRow}
use Rattle.zst_pool.specs.Queries.{stop_of}
use Rattle.zst_pool.specs.declared.fault.PoolFault.{PoolFault}
use Rattle.zst_pool.specs.declared.fault.PoolFault.TheVariants.{Plan, CannotApply, Redacted, Full, Damaged, DiskFault, Failed, OutOfMemory}
use Rattle.zst_pool.specs.declared.pool.Pool.{Pool}
use Rattle.zst_token.specs.declared.token.Token.{Token}
use Rattle.zst_traverse.specs.Damage.{IsDamagedCell}
use Rattle.zst_tree.specs.Damage.{IsSeen}
use Rattle.zst_tree.specs.Indices.{Blocks}
use Rattle.zst_tree.specs.declared.tree.ObjSet.{ObjSet}
use Rattle.zst_send.specs.Sends.{Sends, SendsFrom, begun_text, sent_text}
use Rattle.zst_send.specs.declared.send.Send.{Send}

-- what a token asks for: E19 of one of a stream with large blocks comes before all look-ups
abbrev pub rest_of : Token → Plain → Result Sent PlanFault
rest_of token pool = unless token.large (plans.Unsupported lacks.LargeBlocks) (resumed_send token pool)

-- ---- what has to stand

-- each row that stands where a pool has this bookmark has its list
abbrev pub HasListOf : Blocks → Rows → Plain → plain.Bookmark → Type 0
HasListOf has rows pool bookmark = (row : Bookmark) → StandAlike rows.bookmarks pool.bookmarks row bookmark → HasList has row.levels row.root row.runs bookmark.runs

-- the source, where it is a redacted snapshot
abbrev pub redacted_source : Option Source → Option plain.Snapshot
redacted_source None = None
redacted_source (Some (OfSnapshot snapshot)) = if has_guids snapshot.redact then Some snapshot else None
redacted_source (Some (OfBookmark bookmark)) = None

-- each row that stands where a pool has this snapshot has its set
abbrev pub HoldsSource : Blocks → Rows → Plain → plain.Snapshot → Type 0
HoldsSource has rows pool snapshot = (row : Snapshot) → StandAlike rows.snapshots pool.snapshots row snapshot → SetHolds has row.objects snapshot.objects

-- what a send needs of the rows of its pool: the set of its snapshot, but for the bytes of the pairs to redact, that of a redacted source, and the lists of its two bookmarks
pub record StandsSent (has : Blocks) (rows : Rows) (pool : Plain) (sent : Sent) : Type 0 where
  pub set : (row : Snapshot) → StandAlike rows.snapshots pool.snapshots row sent.snapshot → SetHoldsBut has (choice_of sent).redact row.objects sent.snapshot.objects
  pub source_set : IfSome (redacted_source sent.source) (HoldsSource has rows pool)
  pub source : IfSome (bookmark_source sent.source) (HasListOf has rows pool)
  pub redaction : IfSome sent.redaction (HasListOf has rows pool)

-- Rows that stand for all of a pool stand for each of its sends.
abbrev pub RowsStandForSends : Type 0
RowsStandForSends =
    (image : List ℕ) (space : FreeSectors) (rows : Rows) (pool : Plain) (sent : Sent) → RunsBy None (Has image space) rows pool → StandsSent (Has image space) rows pool sent

-- where a plan passes, what its send needs stands
abbrev pub StandsPlanned : Blocks → Rows → Plain → Result Sent PlanFault → Type 0
StandsPlanned has rows pool plan = (sent : Sent) → plan ≡ Ok sent → StandsSent has rows pool sent

-- ---- answers

-- a send is opened by its plan, and has given nothing; its refusals are the plan's, and E23 of its source's list behind them, unless the disk failed or no memory was left
abbrev pub Opens : Blocks → SendAsk → Plain → Result Send PoolFault → Type 0
Opens has ask pool (Ok send) = (sent : Sent) × (with_list (send_plan ask pool) ≡ Ok sent) × Sends has send sent [] (sent_text sent)
Opens has ask pool (Err (Plan fault)) = with_list (send_plan ask pool) ≡ Err fault
Opens has ask pool (Err (CannotApply fault)) = ⊥
Opens has ask pool (Err (Redacted object block)) = ⊥
Opens has ask pool (Err (Full need largest)) = ⊥
Opens has ask pool (Err (Damaged sector stated found)) = ⊥
Opens has ask pool (Err DiskFault) = Unit {0}
Opens has ask pool (Err Failed) = ⊥
Opens has ask pool (Err OutOfMemory) = Unit {0}

-- why a send whose plan passes isn't started: E23 of its source's list, or the disk failed, or no memory was left
abbrev pub IsUnstarted : Sent → PoolFault → Type 0
IsUnstarted sent (Plan fault) = with_list (Ok sent) ≡ Err fault
IsUnstarted sent (CannotApply fault) = ⊥
IsUnstarted sent (Redacted object block) = ⊥
IsUnstarted sent (Full need largest) = ⊥
IsUnstarted sent (Damaged sector stated found) = ⊥
IsUnstarted sent DiskFault = Unit {0}
IsUnstarted sent Failed = ⊥
IsUnstarted sent OutOfMemory = Unit {0}

-- a send from its beginning or from a point has given nothing, where its source's list isn't too long
abbrev pub Starts : Blocks → Sent → Option Point → Result Send PoolFault → Type 0
Starts has sent start (Ok send) = (with_list (Ok sent) ≡ Ok sent) × SendsFrom has send sent start [] (begun_text sent start)
Starts has sent start (Err fault) = IsUnstarted sent fault

-- so it is with one from a token's point
abbrev pub Resumes : Blocks → Sent → Point → Result Send PoolFault → Type 0
Resumes has sent point result = Starts has sent (Some point) result

-- the plan passes
abbrev pub Passes : Result Sent PlanFault → Type 0
Passes plan = (sent : Sent) × (plan ≡ Ok sent)

-- the plan passes, but E23 tells that more runs are redacted of its source, a redacted snapshot, than a list may have
abbrev pub IsTooLong : Result Sent PlanFault → PlanFault → Type 0
IsTooLong plan fault = (sent : Sent) × (plan ≡ Ok sent) × (is_redacted sent.source ≡ true) × (fault ≡ plans.Limit quantities.Runs most_runs)

-- Whether a send is opened is for its plan alone to say: its refusals are the plan's, and where that passes it is opened, unless a list can't be read or made then: E25, E28 or E32, or E23 of a redacted source.
abbrev pub IsPlanned : Result Sent PlanFault → Result Send PoolFault → Type 0
IsPlanned plan (Ok send) = Passes plan
IsPlanned plan (Err (Plan fault)) = (plan ≡ Err fault) ⊎ IsTooLong plan fault
IsPlanned plan (Err (CannotApply fault)) = ⊥
IsPlanned plan (Err (Redacted object block)) = ⊥
IsPlanned plan (Err (Full need largest)) = ⊥
IsPlanned plan (Err (Damaged sector stated found)) = Passes plan
IsPlanned plan (Err DiskFault) = Passes plan
IsPlanned plan (Err Failed) = ⊥
IsPlanned plan (Err OutOfMemory) = Passes plan

-- ---- lists

-- the runs of a bookmark's list; where there is no bookmark there are none
abbrev pub runs_in : Option plain.Bookmark → Runs
runs_in None = []
runs_in (Some bookmark) = bookmark.runs

-- these runs were read, unless the disk failed or no memory was left
abbrev pub GivesRuns : Runs → Result Runs PoolFault → Type 0
GivesRuns runs (Ok list) = list ≡ runs
GivesRuns runs (Err fault) = IsOutside fault

-- whether more runs are redacted of a source, a redacted snapshot, than a list may have
abbrev pub is_long : Option Source → Bool
is_long source = is_redacted source && nat_lt most_runs (length (source_runs source))

-- the list of a source is given where it isn't too long, and refused where it is, unless the disk failed or no memory was left
abbrev pub GivesSource : Option Source → Result Runs PoolFault → Type 0
GivesSource source (Ok list) = (list ≡ source_runs source) × (is_long source ≡ false)
GivesSource source (Err (Plan fault)) = (fault ≡ plans.Limit quantities.Runs most_runs) × (is_long source ≡ true)
GivesSource source (Err (CannotApply fault)) = ⊥
GivesSource source (Err (Redacted object block)) = ⊥
GivesSource source (Err (Full need largest)) = ⊥
GivesSource source (Err (Damaged sector stated found)) = ⊥
GivesSource source (Err DiskFault) = Unit {0}
GivesSource source (Err Failed) = ⊥
GivesSource source (Err OutOfMemory) = Unit {0}

-- a snapshot's row stands at this place, where there is a place
abbrev pub IsSnapshotAt : Rows → Option ℕ → Snapshot → Type 0
IsSnapshotAt rows None row = ⊥
IsSnapshotAt rows (Some place) row = (place < length rows.snapshots) × (slice_index_or rows.snapshots place row ≡ row)

-- the row of a redacted snapshot stands there
abbrev pub IsRedactedAt : Rows → Option ℕ → Type 0
IsRedactedAt rows place = (row : Snapshot) × IsSnapshotAt rows place row × (has_guids row.redact ≡ true)

-- a list isn't read, or isn't made: E23, which comes only where what a send is from is redacted
abbrev pub IsUnlisted : Type 0 → PoolFault → Type 0
IsUnlisted redacted fault = IsUnread fault ⊎ (redacted × (fault ≡ Plan (plans.Limit quantities.Runs most_runs)))

-- ---- damage

-- a row stands at this place, where there is a place
abbrev pub IsRowAt : Rows → Option ℕ → Bookmark → Type 0
IsRowAt rows None row = ⊥
IsRowAt rows (Some place) row = (place < length rows.bookmarks) × (slice_index_or rows.bookmarks place row ≡ row)

-- a damage of the list of the bookmark at a place, as the disk had it with the free sectors from this end on
pub record IsDamagedList (end : ℕ) (image : List ℕ) (size : ℕ) (rows : Rows) (place : Option ℕ) (sector : ℕ) (stated found : List ℕ) : Type 0 where
  pub row : Bookmark
  pub at : IsRowAt rows place row
  pub tells : TellsRow end image size row (Damaged sector stated found)

-- a damage of the set of a redacted snapshot, that a walk over it tells
pub record IsDamagedRow (image : List ℕ) (size : ℕ) (row : Snapshot) (sector : ℕ) (stated found : List ℕ) : Type 0 where
  pub redacted : has_guids row.redact ≡ true
  pub tells : IsDamagedCell (IsSeen image) size row.objects sector stated found

-- so it is with the one at a place
abbrev pub IsDamagedSource : List ℕ → ℕ → Rows → Option ℕ → DamageFact
IsDamagedSource image size rows place sector stated found = (row : Snapshot) × IsSnapshotAt rows place row × IsDamagedRow image size row sector stated found

-- a damage of what a send is from: of the list of a bookmark, or of the set of a redacted snapshot
abbrev pub IsDamagedFrom : ℕ → List ℕ → ℕ → Rows → SendPlan → DamageFact
IsDamagedFrom end image size rows plan sector stated found =
    IsDamagedList end image size rows plan.book_f sector stated found ⊎ IsDamagedSource image size rows plan.from_snap sector stated found

-- what an opening by a plan may tell: a damage of what it is sent from, or of the list of the pairs to redact
abbrev pub IsDamagedPlan : ℕ → List ℕ → ℕ → Rows → SendPlan → DamageFact
IsDamagedPlan end image size rows plan sector stated found =
    IsDamagedFrom end image size rows plan sector stated found ⊎ IsDamagedList end image size rows plan.book_t sector stated found

-- what an opening may tell of which this is the definition: what one by its plan may
abbrev pub IsDamagedOpening : ℕ → List ℕ → ℕ → Rows → (Plain → Result Sent PlanFault) → DamageFact
IsDamagedOpening end image size rows definition sector stated found =
    (plan : SendPlan) × AnswersPlan rows definition (Ok plan) × IsDamagedPlan end image size rows plan sector stated found

-- ---- what is opened

-- the object set of the first snapshot of a directory that passes a test, and of the first with a guid
abbrev pub set_where : (Snapshot → Bool) → Rows → Option ObjSet
set_where test rows = option_map (λ snapshot. snapshot.objects) (find test rows.snapshots)

abbrev pub set_with : ℕ → Rows → Option ObjSet
set_with guid rows = set_where (λ snapshot. snapshot.guid == guid) rows

module _ {D : Type 0} {g : Ghosts D} where
  -- opening only reads the pool
  pub record ReadsLists (old new : Pool D g) (result : Result Send PoolFault) : Type 0 where
    -- a pool that has failed answers nothing else, and no other pool does
    pub failed_pool : old.io.failed ≡ true → result ≡ Err Failed
    pub open_still : old.io.failed ≡ false → ¬ (result ≡ Err Failed)
    -- E28 comes only where its disk failed in this call
    pub looks : Looks (io_of old.io) (io_of new.io) (stop_of result)
    pub kept : new.kept ≡ old.kept
