-- A replay that is under way, line by line.
use Rattle.std.specs.Prelude.{ℕ, suc, ◌+◌, ◌≡◌, ◌⊎◌, ◌≤◌, true, false, IsTrue, All, List, [], ◌∷◌, ◌++◌, length, Option, Some, None, Result, Ok, Err}
use Rattle.std.specs.declared.alloc.AllocError.{AllocError}
use Rattle.zst_outside.specs.Causes.{Rose}
use Rattle.zst_outside.specs.Images.{Leaves}
use Rattle.zst_outside.specs.Printing.{Printed, Wrote}
use Rattle.zst_outside.specs.States.{SourceState, SinkState, Gave, HandedOn}
use Rattle.zst_outside.specs.declared.disk.Disk.{Ghosts}
use Rattle.zst_block.specs.Blocks.{KeepsBlocks}
use Rattle.zst_block.specs.IoStates.{disk_of}
use Rattle.zst_image.specs.Bodies.{free_by}
use Rattle.zst_image.specs.Commits.{HasItsExtents}
use Rattle.zst_model.specs.declared.refusals.faults.Quantity.TheVariants as quantities
use Rattle.zst_model.specs.declared.refusals.refusal.Refusal.{Refusal}
use Rattle.zst_model.specs.declared.refusals.refusal.Refusal.TheVariants as refusals
use Rattle.zst_script.specs.Lines.{IsEvent}
use Rattle.zst_script.specs.ScriptLines.{AreAll, AreCut, EndIn, HasLines}
use Rattle.zst_script.specs.Scripts.{AllRead, IsPassedOver, Says, SaysNone, script_limit}
use Rattle.zst_script.specs.declared.event.Event.{Event}
use Rattle.zst_script.specs.declared.event.Side.{Side}
use Rattle.zst_script.specs.declared.event.Side.TheVariants.{Here, There}
use Rattle.zst_script.specs.declared.script_lines.ScriptLines.{ScriptLines}
use Rattle.zst_sessions.specs.Engines.{Kept, Stands}
use Rattle.zst_sessions.specs.EngineSteps.{EngineFits, IsLaterPool, StandsFor, StepsEngine, kept_pool}
use Rattle.zst_sessions.specs.EventReplies.{answer_of}
use Rattle.zst_sessions.specs.Moves.{Answer}
use Rattle.zst_sessions.specs.Replay.{Replay}
use Rattle.zst_sessions.specs.World.{World}
use Rattle.zst_sessions.specs.declared.engine.Engine.{Engine}
use Rattle.zst_sessions.specs.declared.event_reply.EventReply.{EventReply}
use Rattle.zst_sessions.specs.declared.open_sessions.OpenReceive as kept_receives
use Rattle.zst_sessions.specs.declared.open_sessions.OpenSend as kept_sends
use Rattle.zst_run.specs.Replays.{EachMayLack, GoOn, NoneFails, NoneReclaims, FindsItsExtents, StoodOrReads, RunsScript, WritesReplies, finds_no_memory, replies_text, reply_of}
use Rattle.zst_run.specs.Replies.{reply_text}
use Rattle.zst_run.specs.declared.replay.Behind.{Behind}
use Rattle.zst_run.specs.declared.replay.Behind.TheVariants as behind

-- ---- the engine meanwhile

-- Events were run from a world on, and what the engine then keeps stands for the last one: what a crash may have left meanwhile, and may leave in the end, stood before them
-- or is on their way.
pub record RunsFrom (now : ℕ) (world : World) (events : List Event) (answers : List Answer) (here there here' there' : Kept) (sends : List kept_sends.OpenSend) (receives : List kept_receives.OpenReceive) : Type 0 where
  pub last : World
  pub runs : Replay now world events answers last
  pub stands : Stands true here' there' sends receives last
  pub here_moments : Leaves here.disk here'.disk (StoodOrReads here.disk now Here world events answers)
  pub there_moments : Leaves there.disk there'.disk (StoodOrReads there.disk now There world events answers)
  pub here_images : (c : List ℕ) → here'.disk.images c → StoodOrReads here.disk now Here world events answers c
  pub there_images : (c : List ℕ) → there'.disk.images c → StoodOrReads there.disk now There world events answers c

-- Where no answer is E28, no event reclaims the pool's sectors and no read gave other bytes, they left the disk of the pool of a side working and all blocks that were there, and the latest body's free extents in
-- sectors that it leaves not free, where those of the one before were; if an event opened it again, where these were.
abbrev pub SparesAll : Side → (old new : Kept) → List Event → List Answer → Type 0
SparesAll side old new events answers = NoneFails answers → NoneReclaims side events → FindsItsExtents side events old.disk old.state.body → new.disk.honest → old.failed ≡ false
    → (new.failed ≡ false) × KeepsBlocks old.disk.seen (free_by old.state.body) new.disk.seen (free_by new.state.body) × (HasItsExtents old.disk old.state.body → HasItsExtents new.disk new.state.body)

module _ {D E : Type 0} {g : Ghosts D} {h : Ghosts E} where
  -- so it is from each world that the engine stood for, where its disks tell their images and read as they should
  abbrev pub RunsWorlds : Engine D E g h → Engine D E g h → List Event → List Answer → Type 0
  RunsWorlds old new events answers =
      (world : World) → (disk_of new.here.io).honest → (disk_of new.there.io).honest → IsTrue g.tells_images → IsTrue h.tells_images → StandsFor old world
      → RunsFrom old.now world events answers (kept_pool old.here) (kept_pool old.there) (kept_pool new.here) (kept_pool new.there) new.sends.items new.receives.items

  -- a fault of one of its disks was counted
  abbrev pub Lost : Engine D E g h → Engine D E g h → Type 0
  Lost old new = Rose (disk_of old.here.io).faults (disk_of new.here.io).faults ⊎ Rose (disk_of old.there.io).faults (disk_of new.there.io).faults

  -- Events were run one after another, with these answers, and the engine can run more.
  pub record RunsEvents (old new : Engine D E g h) (events : List Event) (answers : List Answer) : Type 0 where
    pub worlds : RunsWorlds old new events answers
    pub fits : EngineFits new
    pub here_later : IsLaterPool old.here new.here
    pub there_later : IsLaterPool old.there new.there
    pub time : new.now ≡ old.now
    pub one_each : length answers ≡ length events
    pub lost : All (λ answer. answer ≡ Err refusals.DiskFault → Lost old new) answers
    pub full : (disk_of new.here.io).honest → (disk_of new.there.io).honest → EachMayLack events answers
    pub here_spares : SparesAll Here (kept_pool old.here) (kept_pool new.here) events answers
    pub there_spares : SparesAll There (kept_pool old.there) (kept_pool new.there) events answers

-- ---- one event

-- The reply of an event is written and handed on, or the output failed (E30); one that found no memory has none, and ends the replay.
abbrev pub IsTold : Answer → (out out' : SinkState) → Result (Unit {0}) Refusal → Type 0
IsTold answer out out' (Ok done) = (finds_no_memory answer ≡ false) × Printed out out' (reply_text (reply_of answer)) × HandedOn out'
IsTold answer out out' (Err refusals.SinkFault) = (finds_no_memory answer ≡ false) × ((rest : List ℕ) × Wrote out out' (reply_text (reply_of answer)) rest) × Rose out.faults out'.faults
IsTold answer out out' (Err refusals.OutOfMemory) = (answer ≡ Err refusals.OutOfMemory) × (out' ≡ out)
IsTold answer out out' (Err refusal) = ⊥

module _ {D E : Type 0} {g : Ghosts D} {h : Ghosts E} where
  -- an event was run, and its reply is told
  pub record RunsEvent (event : Event) (old new : Engine D E g h) (out out' : SinkState) (result : Result (Unit {0}) Refusal) : Type 0 where
    pub reply : Result EventReply Refusal
    pub steps : StepsEngine event old new reply
    pub told : IsTold (answer_of reply) out out' result

-- ---- what one line says

-- an event that it says is in its ranges
abbrev pub SaysInRange : Result (Option Event) AllocError → Type 0
SaysInRange (Ok None) = Unit {0}
SaysInRange (Ok (Some event)) = IsEvent event
SaysInRange (Err error) = Unit {0}

-- what follows an event
abbrev pub behind_event : Result (Unit {0}) Refusal → Result Behind Refusal
behind_event (Ok done) = Ok behind.More
behind_event (Err refusal) = Err refusal

module _ {D E : Type 0} {g : Ghosts D} {h : Ghosts E} where
  -- the event was run that the line with this number says; or, where it says none (E1) or no memory was left to read it, nothing
  abbrev pub RunsSaid : Result (Option Event) AllocError → (number : ℕ) → Engine D E g h → Engine D E g h → (out out' : SinkState) → Result Behind Refusal → Type 0
  RunsSaid (Ok None) number old new out out' result = (result ≡ Err (refusals.Usage number)) × (new ≡ old) × (out' ≡ out)
  RunsSaid (Ok (Some event)) number old new out out' result = (told : Result (Unit {0}) Refusal) × (result ≡ behind_event told) × RunsEvent event old new out out' told
  RunsSaid (Err error) number old new out out' result = (result ≡ Err refusals.OutOfMemory) × (new ≡ old) × (out' ≡ out)

-- ---- one line

-- nothing was run or written
abbrev pub Idles : List Event → List Answer → (out out' : SinkState) → Type 0
Idles events answers out out' = (events ≡ []) × (answers ≡ []) × (out' ≡ out)

-- the line behind those that were given was given too
abbrev pub GivesOneMore : SourceState → ScriptLines → (text : List ℕ) → (given : List (List ℕ)) → (line : List ℕ) → Type 0
GivesOneMore input lines text given line = HasLines input lines text (given ++ line ∷ [])

-- it says what was run of it: an event, or none where it is passed over
abbrev pub SaysRun : (given : List (List ℕ)) → (line : List ℕ) → List Event → Type 0
SaysRun given line events = Says (1 + length given) (line ∷ []) events AllRead

-- How a line of a script of which this text was read is run, behind lines that were given. It is passed over, or its event runs and its reply is written; or why the
-- replay ends there.
abbrev pub RunsLine : SourceState → SourceState → ScriptLines → (text : List ℕ) → (given : List (List ℕ)) → List Event → List Answer → SinkState → SinkState → Result Behind Refusal → Type 0
RunsLine input input' lines text given events answers out out' (Ok behind.More) =
    (line : List ℕ) × GivesOneMore input' lines text given line × SaysRun given line events × GoOn answers × Printed out out' (replies_text answers) × ((out' ≡ out) ⊎ HandedOn out')
RunsLine input input' lines text given events answers out out' (Ok behind.End) = AreAll input' text given × Idles events answers out out'
RunsLine input input' lines text given events answers out out' (Err (refusals.Usage place)) =
    (line : List ℕ) × GivesOneMore input' lines text given line × ¬ (IsPassedOver line) × SaysNone line × (place ≡ suc (length given)) × Idles events answers out out'
RunsLine input input' lines text given events answers out out' (Err (refusals.Limit which number)) = (which ≡ quantities.Script) × (number ≡ script_limit) × AreCut text given × Idles events answers out out'
RunsLine input input' lines text given events answers out out' (Err refusals.SourceFault) = Rose input.faults input'.faults × EndIn text given × Idles events answers out out'
RunsLine input input' lines text given events answers out out' (Err refusals.SinkFault) =
    (line : List ℕ) × GivesOneMore input' lines text given line × SaysRun given line events × GoOn answers × ((rest : List ℕ) × Wrote out out' (replies_text answers) rest) × Rose out.faults out'.faults
RunsLine input input' lines text given events answers out out' (Err refusals.OutOfMemory) =
    (line : List ℕ) × GivesOneMore input' lines text given line
    × ((SaysRun given line events × (answers ≡ Err refusals.OutOfMemory ∷ []) × (out' ≡ out)) ⊎ Idles events answers out out')
RunsLine input input' lines text given events answers out out' (Err refusal) = ⊥

module _ {D E : Type 0} {g : Ghosts D} {h : Ghosts E} where
  -- One line more of the script was read and run, or why the replay ends.
  pub record TurnsLine (old new : Engine D E g h) (lines lines' : ScriptLines) (input input' : SourceState) (out out' : SinkState) (result : Result Behind Refusal) : Type 0 where
    pub piece : List ℕ
    pub gave : Gave input input' piece
    pub input_later : input.faults ≤ input'.faults
    pub events : List Event
    pub answers : List Answer
    pub runs : RunsEvents old new events answers
    pub out_later : out.faults ≤ out'.faults
    pub line : (text : List ℕ) (given : List (List ℕ)) → HasLines input lines text given → RunsLine input input' lines' (text ++ piece) given events answers out out' result

-- ---- all lines

module _ {D E : Type 0} {g : Ghosts D} {h : Ghosts E} where
  -- So many lines were read and run, and their replies written.
  pub record HasRun (old new : Engine D E g h) (lines : ScriptLines) (input input' : SourceState) (out out' : SinkState) : Type 0 where
    pub text : List ℕ
    pub given : List (List ℕ)
    pub events : List Event
    pub answers : List Answer
    pub consumed : Gave input input' text
    pub has : HasLines input' lines text given
    pub say : Says 1 given events AllRead
    pub runs : RunsEvents old new events answers
    pub go_on : GoOn answers
    pub printed : Printed out out' (replies_text answers)
    pub handed_on : (out' ≡ out) ⊎ HandedOn out'
    pub input_later : input.faults ≤ input'.faults

  -- The script was read and run, and why that ended.
  pub record RunsAll (old new : Engine D E g h) (input input' : SourceState) (out out' : SinkState) (result : Result (Unit {0}) Refusal) : Type 0 where
    pub text : List ℕ
    pub events : List Event
    pub answers : List Answer
    pub consumed : Gave input input' text
    pub runs : RunsEvents old new events answers
    pub script : RunsScript text events answers input input' result
    pub writes : WritesReplies answers out out' result
    pub input_later : input.faults ≤ input'.faults
    pub out_later : out.faults ≤ out'.faults
