-- What a send writes, from its beginning or from a token's point, and why it ends.
use Rattle.std.specs.Prelude.{ℕ, ◌≡◌, ◌≢◌, ◌⊎◌, ◌<◌, ◌≤◌, IfErr, List, [], ◌++◌, length, Option, None, Some, Result, Ok, Err, true, false}
use Rattle.zst_outside.specs.Causes.{Rose}
use Rattle.zst_outside.specs.Images.{DiskState, OnlyReads}
use Rattle.zst_outside.specs.Printing.{Printed, Wrote}
use Rattle.zst_outside.specs.States.{SinkState, HandedOn}
use Rattle.zst_block.specs.Blocks.{Has}
use Rattle.zst_marks.specs.Marks.{Apart}
use Rattle.zst_extents.specs.StoredExtents.{HasExtents}
use Rattle.zst_uber.specs.Body.{InRange, UberFits}
use Rattle.zst_uber.specs.Slots.{Stands}
use Rattle.zst_image.specs.Bodies.{Body, free_by}
use Rattle.zst_model.specs.declared.refusals.faults.Quantity.TheVariants.{Runs, Stream}
use Rattle.zst_model.specs.declared.refusals.subjects.Name.TheVariants as names
use Rattle.zst_model.specs.declared.refusals.plan_fault.PlanFault.{PlanFault}
use Rattle.zst_model.specs.declared.refusals.refusal.Refusal.{Refusal}
use Rattle.zst_model.specs.declared.refusals.refusal.Refusal.TheVariants as refusals
use Rattle.zst_model.specs.declared.sends.ask.SendAsk.{SendAsk}
use Rattle.zst_model.specs.declared.sends.header.Point.{Point}
use Rattle.zst_model.specs.pools.Limits.{most_runs}
use Rattle.zst_model.specs.pools.Pool.{Pool, IsPool}
use Rattle.zst_model.specs.refusals.Refusal.{refusal_of}
use Rattle.zst_model.specs.sends.Headers.{Sent, choice_of, sent_view}
use Rattle.zst_model.specs.sends.SendPlan.{is_redacted, send_plan, with_list}
use Rattle.zst_laws.specs.AlikePools.{AlikeFor}
use Rattle.zst_tree.specs.Damage.{IsSeen}
use Rattle.zst_tree.specs.declared.tree.ObjSet.{ObjSet}
use Rattle.zst_objset.specs.Damage.{DamageFact}
use Rattle.zst_dir.specs.Rows.{Rows}
use Rattle.zst_image.specs.Faults.{open_refusal}
use Rattle.zst_image.specs.Reads.{HasDir, IsNamedBy, Reads, kept_rows}
use Rattle.zst_image.specs.declared.open_fault.OpenFault.{OpenFault}
use Rattle.zst_pool.specs.Lookups.{set_named}
use Rattle.zst_pool.specs.Faults.{pool_refusal}
use Rattle.zst_pool.specs.declared.fault.PoolFault.{PoolFault}
use Rattle.zst_reader.specs.InputReads.{stream_limit}
use Rattle.zst_send.specs.Damage.{IsDamagedSend}
use Rattle.zst_send.specs.Openings.{IsDamagedOpening, StandsPlanned, rest_of, set_with}
use Rattle.zst_send.specs.Sends.{begun_text}
use Rattle.zst_run.specs.declared.send.SendRequest.{SendRequest}
use Rattle.zst_run.specs.declared.send.SendRequest.TheVariants.{Named, Rest}
use Rattle.zst_run.specs.Commands.{IsPoolRefusal, Opens, SaysOfOpening}

-- ---- what is asked

-- what is to be sent, or why it can't: the refusals of its plan, which the directory tells alone
abbrev pub to_send : SendRequest → Pool → Result Sent PlanFault
to_send (Named ask) pool = send_plan ask pool
to_send (Rest token) pool = rest_of token pool

-- what a send of it gives: behind its plan comes E23 of a redacted source snapshot of which more runs are redacted than a list may have
abbrev pub to_give : SendRequest → Pool → Result Sent PlanFault
to_give request pool = with_list (to_send request pool)

-- the point that a send begins at: a token's, and none of a send from the beginning
abbrev pub start_of : SendRequest → Option Point
start_of (Named ask) = None
start_of (Rest token) = Some token.point

-- the object set is that of the asked name; a token's is that of the first snapshot with its to guid
abbrev pub HasSet : SendRequest → Rows → ObjSet → Type 0
HasSet (Named ask) rows set = set_named (names.Snapshot ask.snap) rows ≡ Some set
HasSet (Rest token) rows set = set_with token.to rows ≡ Some set

-- a damage that a send of such an object set may tell, as the disk had it
abbrev pub IsDamagedSet : SendRequest → Rows → DiskState → DamageFact
IsDamagedSet request rows disk sector stated found = (set : ObjSet) × HasSet request rows set × IsDamagedSend (IsSeen disk.seen) disk.size set sector stated found

-- what a send may tell: a damage of that object set, or one of what is listed for its plan, with the free sectors from this end on: of the list of one
-- of its bookmarks, or of what tells which blocks its redacted source snapshot has redacted
abbrev pub IsDamagedRequest : SendRequest → (end : ℕ) → Rows → DiskState → DamageFact
IsDamagedRequest request end rows disk sector stated found =
    IsDamagedSet request rows disk sector stated found ⊎ IsDamagedOpening end disk.seen disk.size rows (to_send request) sector stated found

-- ---- what a send needs of its image

-- The image reads as this pool for what is asked: its latest body, its free extents and its directory name a lawful pool, and where the plan passes, what that send needs stands:
-- the set of its snapshot, but for the bytes of the pairs to redact, the lists of its bookmarks, and the set of its source where that is a redacted snapshot. Whatever
-- else is damaged, the redacted blocks too, doesn't matter.
pub record ReadsForAs (request : SendRequest) (body : Body) (rows : Rows) (pool : Pool) (image : List ℕ) : Type 0 where
  pub stands : Stands body.uber image
  pub fits : UberFits body.uber
  pub in_range : InRange (length image) body.uber
  pub extents : HasExtents (Has image (free_by body)) body.uber.free_levels body.uber.free_root body.uber.free_count body.free
  pub apart : Apart 8 body.free body.uber.end
  pub directory : HasDir (Has image (free_by body)) body.uber rows
  pub named : IsNamedBy body (kept_rows rows) pool
  pub lawful : IsPool pool
  pub sent : StandsPlanned (Has image (free_by body)) (kept_rows rows) pool (to_send request pool)

abbrev pub ReadsFor : SendRequest → Pool → List ℕ → Type 0
ReadsFor request pool image = (body : Body) × (rows : Rows) × ReadsForAs request body rows pool image

-- An image that reads as a pool does so for each send.
abbrev pub ReadsForSends : Type 0
ReadsForSends = (request : SendRequest) (pool : Pool) (image : List ℕ) → Reads false pool image → ReadsFor request pool image

-- ---- how a send of a pool ends

-- the text of what is to be sent, from its beginning or from a point, and none where it is refused
abbrev pub text_for : Option Point → Result Sent PlanFault → List ℕ
text_for start (Ok sent) = begun_text sent start
text_for start (Err fault) = []

-- all that was written was handed on, and no fault of the output was counted
abbrev pub IsOut : SinkState → SinkState → Type 0
IsOut out out' = (out'.faults ≡ out.faults) × HandedOn out'

-- all of a text, which is no longer than a stream may be, was written and handed on without a fault
pub record SentAll (text : List ℕ) (out out' : SinkState) : Type 0 where
  pub within : length text ≤ stream_limit
  pub printed : Printed out out' text
  pub handed_on : HandedOn out'

-- E23: the text is longer than a stream may be, and what was written of it is out
pub record PastStream (text : List ℕ) (out out' : SinkState) : Type 0 where
  pub longer : stream_limit < length text
  pub is_out : IsOut out out'

-- How the send of a text ends, where the disk counted so many faults before and after: with all of it, or by E23. The disk's
-- refusal and the output's come only where their counts rose, and that of memory before a byte is written.
abbrev pub TextEnds : List ℕ → (before after : ℕ) → SinkState → SinkState → Result (Unit {0}) Refusal → Type 0
TextEnds text before after out out' (Ok done) = SentAll text out out'
TextEnds text before after out out' (Err (refusals.Limit which number)) = (which ≡ Stream) × (number ≡ stream_limit) × PastStream text out out'
TextEnds text before after out out' (Err refusals.DiskFault) = Rose before after × ((out' ≡ out) ⊎ IsOut out out')
TextEnds text before after out out' (Err refusals.SinkFault) = Rose out.faults out'.faults
TextEnds text before after out out' (Err refusals.OutOfMemory) = out' ≡ out
TextEnds text before after out out' (Err other) = ⊥

-- why a send is refused that its plan refuses: for that, unless the disk failed or no memory was left
abbrev pub RefusalEnds : PlanFault → (before after : ℕ) → Result (Unit {0}) Refusal → Type 0
RefusalEnds fault before after (Ok done) = ⊥
RefusalEnds fault before after (Err refusals.DiskFault) = Rose before after
RefusalEnds fault before after (Err refusals.OutOfMemory) = Unit {0}
RefusalEnds fault before after (Err refusal) = refusal ≡ refusal_of fault

-- how a send ends by its plan; where that refuses, nothing is written
abbrev pub SendEnds : Option Point → Result Sent PlanFault → (before after : ℕ) → SinkState → SinkState → Result (Unit {0}) Refusal → Type 0
SendEnds start (Ok sent) before after out out' result = TextEnds (begun_text sent start) before after out out' result
SendEnds start (Err fault) before after out out' result = RefusalEnds fault before after result × (out' ≡ out)

-- a front of the text of the plan was written, whatever the answer, and the send ended as its plan says
pub record SendsBy (start : Option Point) (planned : Result Sent PlanFault) (before after : ℕ) (out out' : SinkState) (result : Result (Unit {0}) Refusal) : Type 0 where
  pub front : (rest : List ℕ) × Wrote out out' (text_for start planned) rest
  pub ends : SendEnds start planned before after out out' result

-- ---- sending from an image

-- E25 comes only of such a damage
abbrev pub TellsOf : DamageFact → Result (Unit {0}) Refusal → Type 0
TellsOf Is result = (sector : ℕ) (stated found : List ℕ) → result ≡ Err (refusals.Damaged sector stated found) → Is sector stated found

-- E23 of runs comes only where the plan passes and what it is from is a redacted snapshot; it tells the most runs that a list may have, and nothing is written
abbrev pub TellsLong : Result Sent PlanFault → SinkState → SinkState → Result (Unit {0}) Refusal → Type 0
TellsLong planned out out' result =
    (number : ℕ) → result ≡ Err (refusals.Limit Runs number)
    → (number ≡ most_runs) × (out' ≡ out) × (sent : Sent) × (planned ≡ Ok sent) × (is_redacted sent.source ≡ true)

-- A send from a pool that was opened by this body and these rows, whether or not the image reads as a pool. What the directory
-- tells alone: E3, E6, E7 and E19 come exactly where the definition refuses the plan of a pool that the body and the rows name,
-- whatever its object sets and lists hold, and then nothing is written. E23 of runs comes behind that, and of a redacted source alone.
-- E25 comes only of a block of the asked snapshot's own object set, or, where a token asks, of that of the first snapshot with its to
-- guid; of the list of one of the two bookmarks of its plan; or of what tells which blocks its redacted source has redacted.
pub record SendRan (request : SendRequest) (here : DiskState) (out out' : SinkState) (result : Result (Unit {0}) Refusal) (body : Body) (rows : Rows) : Type 0 where
  pub opens : Opens here body rows
  pub planned : (pool : Pool) (fault : PlanFault) → IsNamedBy body (kept_rows rows) pool → to_send request pool ≡ Err fault
      → (result ≡ Err (refusal_of fault)) × (out' ≡ out)
  pub because : (pool : Pool) (fault : PlanFault) → IsNamedBy body (kept_rows rows) pool → result ≡ Err (refusals.Plan fault)
      → to_send request pool ≡ Err fault
  pub long : (pool : Pool) → IsNamedBy body (kept_rows rows) pool → TellsLong (to_send request pool) out out' result
  pub damaged : TellsOf (IsDamagedRequest request body.uber.end (kept_rows rows) here) result

-- a refusal of a pool that was opened, E30, or E23 of a stream; and one of opening the pool
abbrev pub OfGiving : Refusal → Type 0
OfGiving refusal = ((fault : PoolFault) × (refusal ≡ pool_refusal fault)) ⊎ ((refusal ≡ refusals.SinkFault) ⊎ (refusal ≡ refusals.Limit Stream stream_limit))

abbrev pub OfSending : Refusal → Type 0
OfSending refusal = ((fault : OpenFault) × (refusal ≡ open_refusal fault)) ⊎ OfGiving refusal

-- one of these refusals, but not that the disk is full (E24); that of the output (E30) only where its count of faults rose
pub record IsSendRefusal (Is : Refusal → Type 0) (here here' : DiskState) (out out' : SinkState) (refusal : Refusal) : Type 0 where
  pub pool : IsPoolRefusal Is here here' refusal
  pub never_full : (need largest : ℕ) → refusal ≢ refusals.Full need largest
  pub cause : refusal ≡ refusals.SinkFault → Rose out.faults out'.faults

-- A send of what is asked, from an image, which is only read. Of a pool a front of the text of what it gives is written, as long as the image has what the send needs.
pub record Sends (request : SendRequest) (here here' : DiskState) (out out' : SinkState) (result : Result (Unit {0}) Refusal) : Type 0 where
  pub reads : OnlyReads here here'
  pub sends : (pool : Pool) → here'.honest → ReadsFor request pool here.seen → SendsBy (start_of request) (to_give request pool) here.faults here'.faults out out' result
  pub opened : here'.honest → SaysOfOpening (out' ≡ out) here (SendRan request here out out' result) result
  pub refused : IfErr result (IsSendRefusal OfSending here here' out out')
  pub later : here.faults ≤ here'.faults

-- ---- sends that are alike

-- a pool that an image reads as for what was asked, from its beginning or from a point, with what is sent of it
pub record SendsOf (sent : Sent) (start : Option Point) (here here' : DiskState) (out out' : SinkState) (result : Result (Unit {0}) Refusal) : Type 0 where
  pub request : SendRequest
  pub begins : start_of request ≡ start
  pub pool : Pool
  pub honest : here'.honest
  pub reads : ReadsFor request pool here.seen
  pub is : to_give request pool ≡ Ok sent
  pub sends : Sends request here here' out out' result

-- two outputs got bytes of which those of one are a front of those of the other
pub record WroteAlike (out out' into into' : SinkState) : Type 0 where
  pub one : List ℕ
  pub other : List ℕ
  pub wrote : out'.written ≡ out.written ++ one
  pub wrote_too : into'.written ≡ into.written ++ other
  pub front : ((rest : List ℕ) × (other ≡ one ++ rest)) ⊎ ((rest : List ℕ) × (one ≡ other ++ rest))

-- two outputs got the same bytes
pub record WroteSame (out out' into into' : SinkState) : Type 0 where
  pub bytes : List ℕ
  pub wrote : out'.written ≡ out.written ++ bytes
  pub wrote_too : into'.written ≡ into.written ++ bytes

-- Two sends of one view, both from the beginning or from the same point, write the same bytes where both end well, whatever else their pools hold and
-- wherever it stands; where either stops early, what one wrote is a front of what the other did.
pub record SentAlike (here here' there there' : DiskState) : Type 0 where
  pub front : (sent also : Sent) (start : Option Point) (out out' into into' : SinkState) (one other : Result (Unit {0}) Refusal)
      → sent_view sent ≡ sent_view also → SendsOf sent start here here' out out' one → SendsOf also start there there' into into' other
      → WroteAlike out out' into into'
  pub equal : (sent also : Sent) (start : Option Point) (out out' into into' : SinkState)
      → sent_view sent ≡ sent_view also → SendsOf sent start here here' out out' (Ok tt) → SendsOf also start there there' into into' (Ok tt)
      → WroteSame out out' into into'

-- ---- two worlds

-- a run of `send` was asked for this snapshot, of a pool that its image reads as for it, and this is what it is to give
pub record SentOf (ask : SendAsk) (pool : Pool) (sent : Sent) (here here' : DiskState) (out out' : SinkState) (result : Result (Unit {0}) Refusal) : Type 0 where
  pub honest : here'.honest
  pub reads : ReadsFor (Named ask) pool here.seen
  pub is : to_give (Named ask) pool ≡ Ok sent
  pub sends : Sends (Named ask) here here' out out' result

-- No byte that is redacted is in what is sent: two runs that are asked the same, of pools that are alike in it but for the bytes of the pairs that it redacts,
-- write the same bytes where both end well, whatever else their pools hold, wherever it stands, and whatever of the redacted blocks is damaged; where either
-- stops early, what one wrote is a front of what the other did.
pub record TwoWorldsAreSentAlike (here here' there there' : DiskState) : Type 0 where
  pub front : (ask : SendAsk) (pool other : Pool) (sent also : Sent) (out out' into into' : SinkState) (one another : Result (Unit {0}) Refusal)
      → AlikeFor ask (choice_of sent).redact pool other → SentOf ask pool sent here here' out out' one → SentOf ask other also there there' into into' another
      → WroteAlike out out' into into'
  pub equal : (ask : SendAsk) (pool other : Pool) (sent also : Sent) (out out' into into' : SinkState)
      → AlikeFor ask (choice_of sent).redact pool other → SentOf ask pool sent here here' out out' (Ok tt) → SentOf ask other also there there' into into' (Ok tt)
      → WroteSame out out' into into'
