-- The laws of a receive on its course while events move its world, whatever sessions they are of and however they are answered.
use Rattle.std.specs.Prelude.{ℕ, ◌≡◌, ◌⊎◌, ◌++◌, List, [], ◌∷◌, Some, Ok, Err, Option}
use Rattle.zst_model.specs.declared.refusals.plan_fault.PlanFault.{PlanFault}
use Rattle.zst_model.specs.declared.sends.header.Point.{Point}
use Rattle.zst_model.specs.pools.Pool.{IsPool, Partial, Pool}
use Rattle.zst_model.specs.sends.Headers.{Sent, header_of, sent_view}
use Rattle.zst_plan.specs.RecvPlan.{recv_plan}
use Rattle.zst_plan.specs.declared.receive.RecvAsk.{RecvAsk}
use Rattle.zst_stream.specs.Reading.{reading}
use Rattle.zst_send.specs.Sends.{begun}
use Rattle.zst_recv.specs.ReceiveSteps.{Ends, Goes, Waits}
use Rattle.zst_replication.specs.Outcomes.{Course, HasNothing, HasOneMore, Progress}
use Rattle.zst_replication.specs.Replicas.{IsSendable, sent_state}
use Rattle.zst_script.specs.declared.event.Event.{Event}
use Rattle.zst_script.specs.declared.event.Event.TheVariants as events
use Rattle.zst_script.specs.declared.event.Side.{Side}
use Rattle.zst_sessions.specs.Lawfulness.{IsWorld}
use Rattle.zst_sessions.specs.Moves.{Answer, feeding, moved}
use Rattle.zst_sessions.specs.Replay.{Moves, Replay, image_of}
use Rattle.zst_sessions.specs.World.{OpenReceive, OpenSend, World, at_side, next_piece, receive_with, send_with}
use Rattle.zst_interleaving.specs.Courses.{IsFit, IsFrontOf, IsOnCourse, MayBegin}

-- an open receive of a world is on its course in the pool of its side
abbrev pub IsOnCourseIn : (sent also : Sent) (start : Option Point) (course : Course) → World → OpenReceive → Type 0
IsOnCourseIn sent also start course world receive = IsOnCourse sent also start receive.ask course (at_side receive.side world).pool receive.text receive.stage

-- an event that feeds a receive or ends it: a pump into it, its cut, and one that opens its pool again
abbrev pub FeedsOrEnds : ℕ → Side → Event → Type 0
FeedsOrEnds id side (events.Pump sends receives count) = receives ≡ id
FeedsOrEnds id side (events.Cut receives) = receives ≡ id
FeedsOrEnds id side (events.Reopen other) = other ≡ side
FeedsOrEnds id side event = ⊥

-- Whatever an event is and however it is answered, it leaves an open receive as it stood, unless it feeds it or ends it.
abbrev pub ReceivesStay : Type 0
ReceivesStay =
    (now : ℕ) (world next : World) (event : Event) (answer : Answer) (id : ℕ) (receive : OpenReceive)
    → Moves now world event answer next → receive_with id world ≡ Some receive
    → (receive_with id next ≡ Some receive) ⊎ FeedsOrEnds id receive.side event

-- A receive that an event leaves as it stood, as commands, sends, and the feeds, cuts and ends of others do, is on its course still.
abbrev pub EventsLeaveCourses : Type 0
EventsLeaveCourses =
    (now : ℕ) (world next : World) (event : Event) (answer : Answer) (id : ℕ) (receive : OpenReceive) (sent also : Sent) (start : Option Point) (course : Course)
    → Moves now world event answer next → IsWorld world → receive_with id world ≡ Some receive → receive_with id next ≡ Some receive
    → IsOnCourseIn sent also start course world receive → IsOnCourseIn sent also start course next receive

-- However a pump is answered, and whatever it finds full, lost or used up: what the image of its receive's pool keeps is in the receive's progress from what
-- it kept before.
abbrev pub PumpsAreProgress : Type 0
PumpsAreProgress =
    (now : ℕ) (world next : World) (sends receives count : ℕ) (answer : Answer) (send : OpenSend) (receive : OpenReceive) (sent also : Sent) (start : Option Point) (course : Course)
    → Moves now world (events.Pump sends receives count) answer next → send_with sends world ≡ Some send → receive_with receives world ≡ Some receive
    → IsOnCourseIn sent also start course world receive → IsPool (at_side receive.side world).pool → IsFrontOf (receive.text ++ next_piece count send) also start
    → MayBegin sent also start receive.ask course (at_side receive.side world).pool (receive.text ++ next_piece count send) receive.stage
    → Progress receive.ask (sent_view sent) course (image_of receive.side world) (image_of receive.side next)

-- Where the receive is open still, it is on its course still: it is the one that it was, or it has read the piece.
abbrev pub PumpsStayOnCourse : Type 0
PumpsStayOnCourse =
    (now : ℕ) (world next : World) (sends receives count : ℕ) (answer : Answer) (send : OpenSend) (receive after : OpenReceive) (sent also : Sent) (start : Option Point) (course : Course)
    → Moves now world (events.Pump sends receives count) answer next → send_with sends world ≡ Some send → receive_with receives world ≡ Some receive
    → IsOnCourseIn sent also start course world receive → IsPool (at_side receive.side world).pool → IsFrontOf (receive.text ++ next_piece count send) also start
    → MayBegin sent also start receive.ask course (at_side receive.side world).pool (receive.text ++ next_piece count send) receive.stage
    → receive_with receives next ≡ Some after
    → IsOnCourseIn sent also start course next after
    × ((after ≡ receive) ⊎ (after ≡ record receive { text = receive.text ++ next_piece count send; stage = after.stage }))

-- A pump that is answered with its line, and whose feed comes to END, has made the snapshot that was sent in the pool that runs, where the base was fit for it.
abbrev pub PumpsComplete : Type 0
PumpsComplete =
    (now : ℕ) (world next : World) (sends receives count : ℕ) (lines : List (List ℕ)) (send : OpenSend) (receive : OpenReceive) (sent also : Sent) (start : Option Point) (course : Course)
    (pool : Pool) (last : Partial)
    → Moves now world (events.Pump sends receives count) (Ok lines) next → send_with sends world ≡ Some send → receive_with receives world ≡ Some receive
    → IsOnCourseIn sent also start course world receive → IsPool (at_side receive.side world).pool → IsFrontOf (receive.text ++ next_piece count send) also start
    → MayBegin sent also start receive.ask course (at_side receive.side world).pool (receive.text ++ next_piece count send) receive.stage → IsFit sent course.state
    → feeding receive.ask receive.text (next_piece count send) receive.stage (at_side receive.side world).pool ≡ Goes pool (Ends last)
    → HasOneMore (at_side receive.side world).pool (at_side receive.side next).pool receive.ask.target course.component course.base (header_of sent) (sent_state sent)

-- A pump into a receive that waits, whose BEGIN its plan refuses: however it is answered, the image of its pool keeps nothing of the receive, and so it is of what
-- the pump is to make.
abbrev pub RefusedPumpsLeaveNothing : Type 0
RefusedPumpsLeaveNothing =
    (now : ℕ) (world next : World) (sends receives count : ℕ) (answer : Answer) (send : OpenSend) (receive : OpenReceive) (also : Sent) (start : Option Point) (fault : PlanFault)
    → Moves now world (events.Pump sends receives count) answer next → send_with sends world ≡ Some send → receive_with receives world ≡ Some receive
    → receive.stage ≡ Waits → (reading receive.text).covered ≡ [] → IsSendable also start → IsFrontOf (receive.text ++ next_piece count send) also start
    → recv_plan receive.ask (begun also start) (at_side receive.side world).pool ≡ Err fault
    → HasNothing receive.ask (image_of receive.side world) (image_of receive.side next)
    × HasNothing receive.ask (image_of receive.side world) (image_of receive.side (moved now (events.Pump sends receives count) world).world)

-- ---- runs

-- A run along which a receive is fed with one stream alone: each event leaves it as it stood, or pumps into it, as its pool is lawful, what comes next of that
-- stream; and where a piece covers BEGIN, that is planned on this course in the pool that it finds.
pub data IsFedAlong (sent also : Sent) (start : Option Point) (course : Course) (now id : ℕ) : World → OpenReceive → List Event → List Answer → World → OpenReceive → Type 0 where
  Ready : (world : World) (receive : OpenReceive)
      → receive_with id world ≡ Some receive
      → IsFedAlong sent also start course now id world receive [] [] world receive
  PassedBy : (world next last : World) (receive after : OpenReceive) (event : Event) (answer : Answer) (more : List Event) (told : List Answer)
      → receive_with id world ≡ Some receive → Moves now world event answer next
      → IsFedAlong sent also start course now id next receive more told last after
      → IsFedAlong sent also start course now id world receive (event ∷ more) (answer ∷ told) last after
  Pumped : (world next last : World) (receive further after : OpenReceive) (sends count : ℕ) (send : OpenSend) (answer : Answer) (more : List Event) (told : List Answer)
      → receive_with id world ≡ Some receive → send_with sends world ≡ Some send → IsPool (at_side receive.side world).pool
      → IsFrontOf (receive.text ++ next_piece count send) also start
      → MayBegin sent also start receive.ask course (at_side receive.side world).pool (receive.text ++ next_piece count send) receive.stage
      → Moves now world (events.Pump sends id count) answer next
      → IsFedAlong sent also start course now id next further more told last after
      → IsFedAlong sent also start course now id world receive (events.Pump sends id count ∷ more) (answer ∷ told) last after

-- A receive that was opened is on the course of each stream.
abbrev pub OpenedAreOnCourse : Type 0
OpenedAreOnCourse = (sent also : Sent) (start : Option Point) (ask : RecvAsk) (course : Course) (pool : Pool) → IsOnCourse sent also start ask course pool [] Waits

-- Along such a run, which is a replay of its events with its answers, the receive stays on its course.
abbrev pub RunsStayOnCourse : Type 0
RunsStayOnCourse =
    (sent also : Sent) (start : Option Point) (course : Course) (now id : ℕ) (world last : World) (receive after : OpenReceive) (events : List Event) (answers : List Answer)
    → IsWorld world → IsOnCourseIn sent also start course world receive → IsFedAlong sent also start course now id world receive events answers last after
    → Replay now world events answers last × (receive_with id last ≡ Some after) × IsOnCourseIn sent also start course last after

-- a receive that was opened: it was fed nothing yet
pub record IsOpened (receive : OpenReceive) : Type 0 where
  pub text : receive.text ≡ []
  pub stage : receive.stage ≡ Waits

-- So of every interleaving: a receive that was opened, and was fed with one stream alone along any run, is fed a further piece of that. However this pump is
-- answered, what the image keeps after it is in the receive's progress from what it kept before, and so it is of what the pump is to make, which an image may
-- read as at each of its moments.
abbrev pub RunsAreProgress : Type 0
RunsAreProgress =
    (sent also : Sent) (start : Option Point) (course : Course) (now id : ℕ) (world last next : World) (receive after : OpenReceive) (run : List Event) (answers : List Answer)
    (sends count : ℕ) (send : OpenSend) (answer : Answer)
    → IsWorld world → IsOpened receive → IsFedAlong sent also start course now id world receive run answers last after
    → send_with sends last ≡ Some send → IsPool (at_side after.side last).pool → IsFrontOf (after.text ++ next_piece count send) also start
    → MayBegin sent also start after.ask course (at_side after.side last).pool (after.text ++ next_piece count send) after.stage
    → Moves now last (events.Pump sends id count) answer next
    → Progress after.ask (sent_view sent) course (image_of after.side last) (image_of after.side next)
    × Progress after.ask (sent_view sent) course (image_of after.side last) (image_of after.side (moved now (events.Pump sends id count) last).world)

-- And where this pump is answered with its line and its feed comes to END, one snapshot more is there: the one that was sent, with its guid, objects, contents
-- and holes, redacted as it was asked, where the base was fit for it.
abbrev pub RunsComplete : Type 0
RunsComplete =
    (sent also : Sent) (start : Option Point) (course : Course) (now id : ℕ) (world last next : World) (receive after : OpenReceive) (run : List Event) (answers : List Answer)
    (sends count : ℕ) (send : OpenSend) (lines : List (List ℕ)) (pool : Pool) (partial : Partial)
    → IsWorld world → IsOpened receive → IsFedAlong sent also start course now id world receive run answers last after
    → send_with sends last ≡ Some send → IsPool (at_side after.side last).pool → IsFrontOf (after.text ++ next_piece count send) also start
    → MayBegin sent also start after.ask course (at_side after.side last).pool (after.text ++ next_piece count send) after.stage → IsFit sent course.state
    → Moves now last (events.Pump sends id count) (Ok lines) next
    → feeding after.ask after.text (next_piece count send) after.stage (at_side after.side last).pool ≡ Goes pool (Ends partial)
    → HasOneMore (at_side after.side last).pool (at_side after.side next).pool after.ask.target course.component course.base (header_of sent) (sent_state sent)
