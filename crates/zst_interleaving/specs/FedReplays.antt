-- The laws of replays of two lawful pools, at a pump into a receive that the events before it opened and fed with one stream alone.
use Rattle.std.specs.Prelude.{ℕ, ◌^◌, ◌<◌, ◌≡◌, ◌⊎◌, ◌++◌, List, [], ◌∷◌, Option, Some, Ok}
use Rattle.zst_model.specs.declared.sends.header.Point.{Point}
use Rattle.zst_model.specs.pools.Pool.{Partial, Pool}
use Rattle.zst_model.specs.sends.Headers.{Sent, header_of, sent_view}
use Rattle.zst_recv.specs.ReceiveSteps.{Ends, Goes}
use Rattle.zst_replication.specs.Outcomes.{Course, HasOneMore, Progress}
use Rattle.zst_replication.specs.Replicas.{sent_state}
use Rattle.zst_script.specs.Scripts.{ScriptEnd, Says}
use Rattle.zst_script.specs.declared.event.Event.{Event}
use Rattle.zst_script.specs.declared.event.Event.TheVariants as events
use Rattle.zst_sessions.specs.Lawfulness.{IsWorld}
use Rattle.zst_sessions.specs.Moves.{Answer, feeding}
use Rattle.zst_sessions.specs.Replay.{Moves, OnWay, Replay, image_of}
use Rattle.zst_sessions.specs.World.{OpenReceive, OpenSend, World, at_side, next_piece, send_with}
use Rattle.zst_interleaving.specs.Courses.{IsFit, IsFrontOf, MayBegin}
use Rattle.zst_interleaving.specs.Events.{IsOpened}
use Rattle.zst_interleaving.specs.LawfulRuns.{IsFedBy}
use Rattle.zst_interleaving.specs.LawfulWorlds.{AreFit, IsLawfulWorld}

-- ---- one event among others

-- A replay at one of its events: those before it lead to a world, it is answered there and leads on, and the others are run behind it.
pub record SplitsAt (now : ℕ) (world : World) (front : List Event) (event : Event) (rest : List Event) (answers : List Answer) (last : World) : Type 0 where
  pub told : List Answer
  pub answer : Answer
  pub more : List Answer
  pub before : World
  pub after : World
  pub answers_are : answers ≡ told ++ answer ∷ more
  pub leads : Replay now world front told before
  pub moves : Moves now before event answer after
  pub goes_on : Replay now after rest more last

-- Each replay is so at each of its events.
abbrev pub ReplaysSplit : Type 0
ReplaysSplit =
    (now : ℕ) (world last : World) (front rest : List Event) (event : Event) (answers : List Answer)
    → Replay now world (front ++ event ∷ rest) answers last → SplitsAt now world front event rest answers last

-- A world on the way of one event of a run: the events before it lead to a world, and from there it is on the way of that event.
pub record IsInEvent (now : ℕ) (world : World) (run : List Event) (answers : List Answer) (way : World) : Type 0 where
  pub front : List Event
  pub event : Event
  pub rest : List Event
  pub told : List Answer
  pub said : List Answer
  pub before : World
  pub run_is : run ≡ front ++ event ∷ rest
  pub answers_are : answers ≡ told ++ said
  pub leads : Replay now world front told before
  pub on_way : OnWay now before (event ∷ []) said way

-- Each world on the way of a run is the one that it begins with, or on the way of one of its events.
abbrev pub WaysAreInEvents : Type 0
WaysAreInEvents =
    (now : ℕ) (world way : World) (run : List Event) (answers : List Answer)
    → OnWay now world run answers way → (way ≡ world) ⊎ IsInEvent now world run answers way

-- ---- events that lines say

-- The events that lines say are fit.
abbrev pub ScriptsAreFit : Type 0
ScriptsAreFit = (number : ℕ) (lines : List (List ℕ)) (run : List Event) (end : ScriptEnd) → Says number lines run end → AreFit run

-- ---- a receive that is fed with one stream alone

-- Along a run a receive was opened, and from there on it was fed with one stream alone: the first events lead to a world in which it was new.
pub record IsFedWith (sent also : Sent) (start : Option Point) (course : Course) (now id : ℕ) (world : World) (run : List Event) (answers : List Answer) (last : World) (receive : OpenReceive) : Type 0 where
  pub first : List Event
  pub since : List Event
  pub told : List Answer
  pub more : List Answer
  pub opening : World
  pub opened_one : OpenReceive
  pub run_is : run ≡ first ++ since
  pub answers_are : answers ≡ told ++ more
  pub leads : Replay now world first told opening
  pub is_opened : IsOpened opened_one
  pub fed : IsFedBy sent also start course now id opening opened_one since more last receive

-- A pump gives a receive what comes next of that stream: its send is open, what the receive will have read is a front of what is sent, and where it waits and that
-- covers BEGIN, that is planned on this course in the pool that the pump finds.
pub record GivesNext (sent also : Sent) (start : Option Point) (course : Course) (world : World) (sends count : ℕ) (receive : OpenReceive) : Type 0 where
  pub send : OpenSend
  pub there : send_with sends world ≡ Some send
  pub front : IsFrontOf (receive.text ++ next_piece count send) also start
  pub may : MayBegin sent also start receive.ask course (at_side receive.side world).pool (receive.text ++ next_piece count send) receive.stage

-- An event is in a receive's progress: however it is answered, what the image of the receive's pool keeps behind it is in the receive's progress from what it kept
-- before, and so is what an image may read as at each of its moments.
pub record IsInProgress (sent : Sent) (course : Course) (now : ℕ) (before : World) (event : Event) (receive : OpenReceive) : Type 0 where
  pub behind : (answer : Answer) (after : World)
      → Moves now before event answer after → Progress receive.ask (sent_view sent) course (image_of receive.side before) (image_of receive.side after)
  pub meanwhile : (said : List Answer) (way : World)
      → OnWay now before (event ∷ []) said way → Progress receive.ask (sent_view sent) course (image_of receive.side before) (image_of receive.side way)

-- So is each pump of a run of fit events from a lawful world, into a receive that the events before it fed with one stream alone, which it gives what comes next.
abbrev pub ReplayedPumpsAreProgress : Type 0
ReplayedPumpsAreProgress =
    (sent also : Sent) (start : Option Point) (course : Course) (now : ℕ) (world before : World) (run front rest : List Event) (told : List Answer) (sends id count : ℕ) (receive : OpenReceive)
    → now < 2 ^ 64 → IsWorld world → IsLawfulWorld world → AreFit run → run ≡ front ++ events.Pump sends id count ∷ rest
    → IsFedWith sent also start course now id world front told before receive → GivesNext sent also start course before sends count receive
    → IsInProgress sent course now before (events.Pump sends id count) receive

-- And where it is answered with its line and its feed comes to END, one snapshot more is there: the one that was sent, where the base was fit for it.
abbrev pub ReplayedPumpsComplete : Type 0
ReplayedPumpsComplete =
    (sent also : Sent) (start : Option Point) (course : Course) (now : ℕ) (world before after : World) (run front rest : List Event) (told : List Answer) (sends id count : ℕ) (receive : OpenReceive)
    (lines : List (List ℕ)) (pool : Pool) (partial : Partial)
    → now < 2 ^ 64 → IsWorld world → IsLawfulWorld world → AreFit run → run ≡ front ++ events.Pump sends id count ∷ rest
    → IsFedWith sent also start course now id world front told before receive → (next : GivesNext sent also start course before sends count receive) → IsFit sent course.state
    → Moves now before (events.Pump sends id count) (Ok lines) after
    → feeding receive.ask receive.text (next_piece count next.send) receive.stage (at_side receive.side before).pool ≡ Goes pool (Ends partial)
    → HasOneMore (at_side receive.side before).pool (at_side receive.side after).pool receive.ask.target course.component course.base (header_of sent) (sent_state sent)
