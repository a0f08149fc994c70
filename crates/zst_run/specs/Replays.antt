-- What a replay runs of a script, what it writes, and what it leaves of its two images.
use Rattle.std.specs.Prelude.{ℕ, ◌≡◌, ◌⊎◌, ◌<◌, ◌≤◌, Bool, true, false, IsTrue, All, Contains, List, [], ◌∷◌, ◌++◌, length, take, flat_map, nat_le, if◌then◌else◌, Result, Ok, Err}
use Rattle.zst_outside.specs.Causes.{Rose}
use Rattle.zst_outside.specs.Images.{DiskState, Leaves, OnlyReads}
use Rattle.zst_outside.specs.Printing.{Printed, Wrote}
use Rattle.zst_outside.specs.States.{SourceState, SinkState, Gave, HandedOn}
use Rattle.zst_block.specs.Blocks.{KeepsBlocks}
use Rattle.zst_block.specs.IoCalls.{IsBlockLength}
use Rattle.zst_dir.specs.RowNames.{Match}
use Rattle.zst_image.specs.Bodies.{Body, free_by}
use Rattle.zst_image.specs.Commits.{HasItsExtents}
use Rattle.zst_image.specs.Faults.{open_refusal}
use Rattle.zst_image.specs.OpenAnswers.{OpenAnswers, ReadFault}
use Rattle.zst_image.specs.Reads.{Reads}
use Rattle.zst_image.specs.declared.open_fault.OpenFault.{OpenFault}
use Rattle.zst_image.specs.declared.open_fault.OpenFault.TheVariants as opens
use Rattle.zst_image.specs.declared.pool_state.PoolState.{PoolState}
use Rattle.zst_model.specs.declared.pools.command.Command.TheVariants as commands
use Rattle.zst_model.specs.declared.refusals.faults.Quantity.TheVariants as quantities
use Rattle.zst_model.specs.declared.refusals.refusal.Refusal.{Refusal}
use Rattle.zst_model.specs.declared.refusals.refusal.Refusal.TheVariants as refusals
use Rattle.zst_model.specs.pools.KeptPool.{kept_of}
use Rattle.zst_model.specs.pools.Pool.{Pool}
use Rattle.zst_model.specs.pools.Step.{commits}
use Rattle.zst_pool.specs.Cost.{cost_of}
use Rattle.zst_script.specs.ScriptLines.{EndIn}
use Rattle.zst_script.specs.Scripts.{AllRead, IsScript, Misread, Says, TooLong, ended_lines, lines_of, script_limit}
use Rattle.zst_script.specs.declared.event.Event.{Event}
use Rattle.zst_script.specs.declared.event.Event.TheVariants.{Pump, Reopen, Step}
use Rattle.zst_script.specs.declared.event.Side.{Side}
use Rattle.zst_script.specs.declared.event.Side.TheVariants.{Here, There}
use Rattle.zst_sessions.specs.Moves.{Answer}
use Rattle.zst_sessions.specs.Replay.{OnWay, Replay, image_of, opened}
use Rattle.zst_sessions.specs.World.{OpenPool, World}
use Rattle.zst_run.specs.Receives.{Keeps}
use Rattle.zst_run.specs.Replies.{refusal_line, reply_text}

-- ---- what is written

-- the lines of an event's answer: its own, or its refusal's
abbrev pub reply_of : Answer → List (List ℕ)
reply_of (Ok lines) = lines
reply_of (Err refusal) = refusal_line refusal ∷ []

-- whether an event found no memory (E32), which ends the replay
abbrev pub finds_no_memory : Answer → Bool
finds_no_memory (Ok lines) = false
finds_no_memory (Err refusals.OutOfMemory) = true
finds_no_memory (Err refusal) = false

-- what is written of an answer: its lines, but nothing of one that ends the replay
abbrev pub written_of : Answer → List ℕ
written_of answer = if finds_no_memory answer then [] else reply_text (reply_of answer)

-- and of the answers of events, one after another
abbrev pub replies_text : List Answer → List ℕ
replies_text answers = flat_map written_of answers

-- All of that is written and handed on; or a front of it, where the output failed (E30).
pub record WritesReplies (answers : List Answer) (out out' : SinkState) (result : Result (Unit {0}) Refusal) : Type 0 where
  pub front : (rest : List ℕ) × Wrote out out' (replies_text answers) rest
  pub whole : ¬ (result ≡ Err refusals.SinkFault) → Printed out out' (replies_text answers) × ((out' ≡ out) ⊎ HandedOn out')
  pub fault : result ≡ Err refusals.SinkFault → Rose out.faults out'.faults

-- ---- what is run

-- no answer ends the replay; or the last one alone does
abbrev pub GoOn : List Answer → Type 0
GoOn answers = All (λ answer. finds_no_memory answer ≡ false) answers

abbrev pub GoOnOrEnd : List Answer → Type 0
GoOnOrEnd answers = GoOn answers ⊎ ((front : List Answer) × GoOn front × (answers ≡ front ++ Err refusals.OutOfMemory ∷ []))

-- the lines that are read of a script: all, or of one that is longer than one may be those that end within the limit
abbrev pub lines_read : List ℕ → List (List ℕ)
lines_read script = if nat_le (length script) script_limit then lines_of script else ended_lines (lines_of (take script_limit script))

-- These lines begin the script, whatever more the input has behind the text that was read, which is nothing once it has ended.
abbrev pub Begin : SourceState → (text : List ℕ) → List (List ℕ) → Type 0
Begin input text lines = (more : List ℕ) → (IsTrue input.ended → more ≡ []) → (rest : List (List ℕ)) × (lines_read (text ++ more) ≡ lines ++ rest)

-- Lines that begin the script say these events.
pub record RunsLines (input : SourceState) (text : List ℕ) (events : List Event) : Type 0 where
  pub lines : List (List ℕ)
  pub begin : Begin input text lines
  pub say : Says 1 lines events AllRead

-- the lines that end in what a failed input gave say these events
abbrev pub RunsEnded : (text : List ℕ) → List Event → Type 0
RunsEnded text events = (lines : List (List ℕ)) × EndIn text lines × Says 1 lines events AllRead

-- Which events are run of a script of which this text was read, by how the replay ends. All of them; those before a line that says none (E1), or before the
-- limit (E23), whatever more the script has; those of all lines that ended in what the input gave before it failed (E29); those of some lines that begin the script,
-- where the output failed (E30), or no memory was left to read the next line or by the last event (E32).
abbrev pub RunsScript : (text : List ℕ) → List Event → List Answer → (input input' : SourceState) → Result (Unit {0}) Refusal → Type 0
RunsScript text events answers input input' (Ok done) = IsTrue input'.ended × IsScript text events AllRead × GoOn answers
RunsScript text events answers input input' (Err (refusals.Usage place)) =
    ((more : List ℕ) → (IsTrue input'.ended → more ≡ []) → IsScript (text ++ more) events (Misread place)) × GoOn answers
RunsScript text events answers input input' (Err (refusals.Limit which number)) =
    (which ≡ quantities.Script) × (number ≡ script_limit) × ((more : List ℕ) → IsScript (text ++ more) events TooLong) × GoOn answers
RunsScript text events answers input input' (Err refusals.SourceFault) = Rose input.faults input'.faults × RunsEnded text events × GoOn answers
RunsScript text events answers input input' (Err refusals.SinkFault) = RunsLines input' text events × GoOn answers
RunsScript text events answers input input' (Err refusals.OutOfMemory) = RunsLines input' text events × GoOnOrEnd answers
RunsScript text events answers input input' (Err refusal) = ⊥

-- ---- what stands

-- an image reads as what a world keeps on a side, on the way of a run
abbrev pub ReadsOnWay : (now : ℕ) → Side → World → List Event → List Answer → List ℕ → Type 0
ReadsOnWay now side world events answers image = (way : World) × OnWay now world events answers way × Reads true (image_of side way) image

-- one that stood before the replay, or that reads so
abbrev pub StoodOrReads : DiskState → (now : ℕ) → Side → World → List Event → List Answer → List ℕ → Type 0
StoodOrReads here now side world events answers image = here.images image ⊎ ReadsOnWay now side world events answers image

-- An image in the end: it rests, and reads as what is kept of this pool; where its disk has failed a read gives that.
pub record IsLeft (disk : DiskState) (pool : OpenPool) : Type 0 where
  pub rests : pool.failed ≡ false → Keeps true disk pool.pool
  pub reads : Reads true (kept_of pool.pool) disk.seen

-- Events were run on two images that stand for a world at the start: at every moment, and in the end, each image stood before, or reads as its pool in a world on the way;
-- and in the end it is what the last world keeps.
pub record RunsOver (now : ℕ) (here here' there there' : DiskState) (world : World) (events : List Event) (answers : List Answer) : Type 0 where
  pub last : World
  pub runs : Replay now world events answers last
  pub here_moments : Leaves here here' (StoodOrReads here now Here world events answers)
  pub there_moments : Leaves there there' (StoodOrReads there now There world events answers)
  pub here_images : (c : List ℕ) → here'.images c → StoodOrReads here now Here world events answers c
  pub there_images : (c : List ℕ) → there'.images c → StoodOrReads there now There world events answers c
  pub here_left : IsLeft here' last.here
  pub there_left : IsLeft there' last.there

-- no answer is E28
abbrev pub NoneFails : List Answer → Type 0
NoneFails answers = All (λ answer. ¬ (answer ≡ Err refusals.DiskFault)) answers

-- where an event opens the pool of this side again, the free extents of the body stood in sectors that it left not free, as they do on each image that commands made
abbrev pub FindsItsExtents : Side → List Event → DiskState → Body → Type 0
FindsItsExtents side events disk body = Contains events (Reopen side) → HasItsExtents disk body

-- no event is a reclaim of this side
abbrev pub NoneReclaims : Side → List Event → Type 0
NoneReclaims side events = ¬ Contains events (Step side commands.Reclaim)

-- An image of this side whose pool was opened by this body, whether or not it reads as one: where no answer is E28, no event reclaims its sectors, and, if an event opens it
-- again, the body's free extents stood in sectors that it left not free, each block still stands in the end that stood in such sectors.
abbrev pub Stood : (here here' : DiskState) → Body → Side → List Event → List Answer → Type 0
Stood here here' body side events answers = here'.honest → NoneFails answers → NoneReclaims side events → FindsItsExtents side events here body → KeepsBlocks here.seen (free_by body) here'.seen (free_by body)

-- E24 of an event tells this, whatever the images are: the longest extent was shorter than what was needed, by a command that commits, of 16 sectors or of its data, which has no more than it
-- may write whatever is there; or by a pump.
abbrev pub MayLack : Event → (need largest : ℕ) → Type 0
MayLack (Step side command) need largest = (largest < need) × (commits command ≡ true) × ((block : ℕ) × (block ≤ (cost_of command).most) × IsBlockLength block need)
MayLack (Pump send receive count) need largest = largest < need
MayLack event need largest = ⊥

-- so each of them answers
abbrev pub EachMayLack : List Event → List Answer → Type 0
EachMayLack events answers = Match (λ event answer. (need largest : ℕ) → answer ≡ Err (refusals.Full need largest) → MayLack event need largest) events answers

-- Each event has its answer: E28 only where a disk failed meanwhile, and E24 only of a command that commits or of a pump.
pub record SaysOfAnswers (here here' there there' : DiskState) (events : List Event) (answers : List Answer) : Type 0 where
  pub one_each : length answers ≡ length events
  pub lost : All (λ answer. answer ≡ Err refusals.DiskFault → Rose here.faults here'.faults ⊎ Rose there.faults there'.faults) answers
  pub full : here'.honest → there'.honest → EachMayLack events answers

-- ---- a replay

-- Nothing is run: no memory was left at first, or an image can't be opened as a pool (E25 to E28, E32): the first one, or the second where the first one can. Then both are
-- only read, and nothing is read of the script. Of images that read as pools E28 and E32 alone come.
pub record IsUnopened (here here' there there' : DiskState) (input input' : SourceState) (out out' : SinkState) (result : Result (Unit {0}) Refusal) : Type 0 where
  pub fault : OpenFault
  pub refused : result ≡ Err (open_refusal fault)
  pub why : here'.honest → there'.honest → OpenAnswers here (Err fault) ⊎ ((kept : PoolState) × OpenAnswers here (Ok kept) × OpenAnswers there (Err fault))
  pub sound : (tight : Bool) (pool other : Pool) → here'.honest → there'.honest → Reads tight pool here.seen → Reads tight other there.seen → ReadFault fault
  pub cause : fault ≡ opens.DiskFault → Rose here.faults here'.faults ⊎ Rose there.faults there'.faults
  pub here_reads : OnlyReads here here'
  pub there_reads : OnlyReads there there'
  pub streams : (input' ≡ input) × (out' ≡ out)

-- Both are opened, and the events of the script are run, one after another, each with its answer. Where no event answers E28, what
-- stood in sectors that the first body of an image left not free still stands, unless an event reclaims them, if an event opened it again where that body's extents stood in such sectors. Of disks that tell
-- their images, and that read as pools by tight object sets, the events and their answers are a run of worlds from these pools on.
pub record IsReplayed (now : ℕ) (here here' : DiskState) (tells : Bool) (there there' : DiskState) (others : Bool) (input input' : SourceState) (out out' : SinkState) (result : Result (Unit {0}) Refusal) : Type 0 where
  pub text : List ℕ
  pub events : List Event
  pub answers : List Answer
  pub consumed : Gave input input' text
  pub kept : PoolState
  pub other : PoolState
  pub opens : here'.honest → there'.honest → OpenAnswers here (Ok kept) × OpenAnswers there (Ok other)
  pub here_stood : Stood here here' kept.body Here events answers
  pub there_stood : Stood there there' other.body There events answers
  pub script : RunsScript text events answers input input' result
  pub writes : WritesReplies answers out out' result
  pub says : SaysOfAnswers here here' there there' events answers
  pub pools : (pool other : Pool) → here'.honest → there'.honest → IsTrue tells → IsTrue others → Reads true pool here.seen → Reads true other there.seen
      → RunsOver now here here' there there' (opened pool other) events answers

-- A replay of a script at this time on two images: one of them can't be opened, or the script is run. No count of faults falls.
pub record Replays (now : ℕ) (here here' : DiskState) (tells : Bool) (there there' : DiskState) (others : Bool) (input input' : SourceState) (out out' : SinkState) (result : Result (Unit {0}) Refusal) : Type 0 where
  pub does : IsUnopened here here' there there' input input' out out' result ⊎ IsReplayed now here here' tells there there' others input input' out out' result
  pub here_later : here.faults ≤ here'.faults
  pub there_later : there.faults ≤ there'.faults
  pub input_later : input.faults ≤ input'.faults
  pub out_later : out.faults ≤ out'.faults
