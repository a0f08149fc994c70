-- The laws of every interleaving, of two pools that were lawful when it began.
use Rattle.std.specs.Prelude.{ℕ, ◌^◌, ◌<◌, ◌≡◌, ◌++◌, List, [], ◌∷◌, Option, Some, Ok}
use Rattle.zst_model.specs.declared.sends.header.Point.{Point}
use Rattle.zst_model.specs.pools.Pool.{Partial, Pool}
use Rattle.zst_model.specs.sends.Headers.{Sent, header_of, sent_view}
use Rattle.zst_recv.specs.ReceiveSteps.{Ends, Goes}
use Rattle.zst_replication.specs.Outcomes.{Course, HasOneMore, Progress}
use Rattle.zst_replication.specs.Replicas.{sent_state}
use Rattle.zst_script.specs.declared.event.Event.{Event}
use Rattle.zst_script.specs.declared.event.Event.TheVariants as events
use Rattle.zst_sessions.specs.Lawfulness.{IsWorld}
use Rattle.zst_sessions.specs.Moves.{Answer, feeding, moved}
use Rattle.zst_sessions.specs.Replay.{Moves, image_of}
use Rattle.zst_sessions.specs.World.{OpenReceive, OpenSend, World, at_side, next_piece, receive_with, send_with}
use Rattle.zst_interleaving.specs.Courses.{IsFit, IsFrontOf, MayBegin}
use Rattle.zst_interleaving.specs.Events.{IsFedAlong, IsOpened}
use Rattle.zst_interleaving.specs.LawfulWorlds.{AreFit, IsLawfulWorld}

-- A run of events along which a receive is fed with one stream alone: each event leaves it as it stood, or pumps into it what comes next of that stream; and
-- where a piece covers BEGIN, that is planned on this course in the pool that it finds. Of that pool nothing else is asked.
pub data IsFedBy (sent also : Sent) (start : Option Point) (course : Course) (now id : ℕ) : World → OpenReceive → List Event → List Answer → World → OpenReceive → Type 0 where
  Opens : (world : World) (receive : OpenReceive)
      → receive_with id world ≡ Some receive
      → IsFedBy sent also start course now id world receive [] [] world receive
  Passes : (world next last : World) (receive after : OpenReceive) (event : Event) (answer : Answer) (more : List Event) (told : List Answer)
      → receive_with id world ≡ Some receive → Moves now world event answer next
      → IsFedBy sent also start course now id next receive more told last after
      → IsFedBy sent also start course now id world receive (event ∷ more) (answer ∷ told) last after
  Feeds : (world next last : World) (receive further after : OpenReceive) (sends count : ℕ) (send : OpenSend) (answer : Answer) (more : List Event) (told : List Answer)
      → receive_with id world ≡ Some receive → send_with sends world ≡ Some send
      → IsFrontOf (receive.text ++ next_piece count send) also start
      → MayBegin sent also start receive.ask course (at_side receive.side world).pool (receive.text ++ next_piece count send) receive.stage
      → Moves now world (events.Pump sends id count) answer next
      → IsFedBy sent also start course now id next further more told last after
      → IsFedBy sent also start course now id world receive (events.Pump sends id count ∷ more) (answer ∷ told) last after

-- Where both pools were lawful when it began and its events are fit, each pump of such a run finds a lawful pool, and both are lawful behind it.
abbrev pub RunsFindLawful : Type 0
RunsFindLawful =
    (sent also : Sent) (start : Option Point) (course : Course) (now id : ℕ) (world last : World) (receive after : OpenReceive) (run : List Event) (answers : List Answer)
    → now < 2 ^ 64 → IsWorld world → IsLawfulWorld world → AreFit run → IsFedBy sent also start course now id world receive run answers last after
    → IsFedAlong sent also start course now id world receive run answers last after × IsLawfulWorld last

-- So however a further pump of that stream is answered, what the image keeps after it is in the receive's progress from what it kept before, and so it is of
-- what the pump is to make.
abbrev pub LawfulRunsAreProgress : Type 0
LawfulRunsAreProgress =
    (sent also : Sent) (start : Option Point) (course : Course) (now id : ℕ) (world last next : World) (receive after : OpenReceive) (run : List Event) (answers : List Answer)
    (sends count : ℕ) (send : OpenSend) (answer : Answer)
    → now < 2 ^ 64 → IsWorld world → IsLawfulWorld world → AreFit run → IsOpened receive → IsFedBy sent also start course now id world receive run answers last after
    → send_with sends last ≡ Some send → IsFrontOf (after.text ++ next_piece count send) also start
    → MayBegin sent also start after.ask course (at_side after.side last).pool (after.text ++ next_piece count send) after.stage
    → Moves now last (events.Pump sends id count) answer next
    → Progress after.ask (sent_view sent) course (image_of after.side last) (image_of after.side next)
    × Progress after.ask (sent_view sent) course (image_of after.side last) (image_of after.side (moved now (events.Pump sends id count) last).world)

-- And where it is answered with its line and its feed comes to END, one snapshot more is there: the one that was sent, where the base was fit for it.
abbrev pub LawfulRunsComplete : Type 0
LawfulRunsComplete =
    (sent also : Sent) (start : Option Point) (course : Course) (now id : ℕ) (world last next : World) (receive after : OpenReceive) (run : List Event) (answers : List Answer)
    (sends count : ℕ) (send : OpenSend) (lines : List (List ℕ)) (pool : Pool) (partial : Partial)
    → now < 2 ^ 64 → IsWorld world → IsLawfulWorld world → AreFit run → IsOpened receive → IsFedBy sent also start course now id world receive run answers last after
    → send_with sends last ≡ Some send → IsFrontOf (after.text ++ next_piece count send) also start
    → MayBegin sent also start after.ask course (at_side after.side last).pool (after.text ++ next_piece count send) after.stage → IsFit sent course.state
    → Moves now last (events.Pump sends id count) (Ok lines) next
    → feeding after.ask after.text (next_piece count send) after.stage (at_side after.side last).pool ≡ Goes pool (Ends partial)
    → HasOneMore (at_side after.side last).pool (at_side after.side next).pool after.ask.target course.component course.base (header_of sent) (sent_state sent)
