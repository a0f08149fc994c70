-- A receive along a run.
use Rattle.std.proofs.Common.{◌≡◌, ℕ, List, [], Option, Some, refl, sym, subst, append-nil}
use Rattle.zst_model.specs.declared.sends.header.Point.{Point}
use Rattle.zst_model.specs.sends.Headers.{Sent}
use Rattle.zst_send.specs.Sends.{begun_text}
use Rattle.zst_stream.specs.Reading.{after, reading, reading_from, ruling}
use Rattle.zst_recv.specs.ReceiveSteps.{Stage}
use Rattle.zst_replication.specs.Outcomes.{Course}
use Rattle.zst_script.specs.declared.event.Event.{Event}
use Rattle.zst_script.specs.declared.event.Event.TheVariants as events
use Rattle.zst_sessions.specs.Lawfulness.{IsWorld, MovesKeepWorlds}
use Rattle.zst_sessions.specs.Moves.{Answer, moved}
use Rattle.zst_sessions.specs.Replay.{AsDefined, GoesOn, Replay, Stays}
use Rattle.zst_sessions.specs.World.{OpenReceive, World, at_side, receive_with}
use Rattle.zst_interleaving.specs.Courses.{IsOnCourse, Waiting}
use Rattle.zst_interleaving.specs.Events.{EventsLeaveCourses, IsFedAlong, IsOnCourseIn, IsOpened, OpenedAreOnCourse, PassedBy, Pumped, PumpsAreProgress, PumpsComplete, PumpsStayOnCourse, Ready, RunsAreProgress, RunsComplete, RunsStayOnCourse}

nothing_read : (reading []).covered ≡ []
unfolding reading reading_from after ruling
nothing_read = refl

pub opened_on : OpenedAreOnCourse
opened_on sent also start ask course pool = Waiting pool [] (begun_text also start, [], sym (append-nil (begun_text also start))) nothing_read

module _ (keep : MovesKeepWorlds) (leave : EventsLeaveCourses) (pumps : PumpsStayOnCourse) (sent also : Sent) (start : Option Point) (course : Course) (now id : ℕ) where
  abbrev Run : World → OpenReceive → List Event → List Answer → World → OpenReceive → Type 0
  Run = IsFedAlong sent also start course now id

  found_first : (world last : World) (receive then : OpenReceive) (es : List Event) (told : List Answer) → Run world receive es told last then → receive_with id world ≡ Some receive
  found_first _ _ _ _ _ _ (Ready world receive found) = found
  found_first _ _ _ _ _ _ (PassedBy world next last receive then event answer es told found moves rest) = found
  found_first _ _ _ _ _ _ (Pumped world next last receive further then sends count send answer es told found sending lawful front may moves rest) = found

  runs : (world last : World) (receive then : OpenReceive) (es : List Event) (told : List Answer) → IsWorld world → IsOnCourseIn sent also start course world receive → Run world receive es told last then
      → Replay now world es told last × (receive_with id last ≡ Some then) × IsOnCourseIn sent also start course last then
  runs _ _ _ _ _ _ is on (Ready world receive found) = (Stays world, found, on)
  runs _ _ _ _ _ _ is on (PassedBy world next last receive then event answer es told found moves rest) =
      let left = leave now world next event answer id receive sent also start course moves is found (found_first next last receive then es told rest) on in
      let more = runs next last receive then es told (keep now world next event answer moves is) left rest in
      (GoesOn world next last event answer es told moves more.0, more.1, more.2)
  runs _ _ _ _ _ _ is on (Pumped world next last receive further then sends count send answer es told found sending lawful front may moves rest) =
      let pump = events.Pump sends id count in
      let fed = pumps now world next sends id count answer send receive further sent also start course moves sending found on lawful front may (found_first next last further then es told rest) in
      let more = runs next last further then es told (keep now world next pump answer moves is) fed.0 rest in
      (GoesOn world next last pump answer es told moves more.0, more.1, more.2)

pub runs_stay : MovesKeepWorlds → EventsLeaveCourses → PumpsStayOnCourse → RunsStayOnCourse
runs_stay keep leave pumps sent also start course now id world last receive then es told is on run =
    runs keep leave pumps sent also start course now id world last receive then es told is on run

-- ---- every interleaving

opened_so : (sent also : Sent) (start : Option Point) (course : Course) (world : World) (receive : OpenReceive) → IsOpened receive → IsOnCourseIn sent also start course world receive
opened_so sent also start course world receive opened =
    subst (λ (t : List ℕ). IsOnCourse sent also start receive.ask course (at_side receive.side world).pool t receive.stage) (sym opened.text)
    (subst (λ (s : Stage). IsOnCourse sent also start receive.ask course (at_side receive.side world).pool [] s) (sym opened.stage)
    (opened_on sent also start receive.ask course (at_side receive.side world).pool))

pub runs_progress : RunsStayOnCourse → PumpsAreProgress → RunsAreProgress
runs_progress stay pumps sent also start course now id world last next receive then es told sends count send answer is opened run sending lawful front may moves =
    let on = stay sent also start course now id world last receive then es told is (opened_so sent also start course world receive opened) run in
    let pump = events.Pump sends id count in (
      pumps now last next sends id count answer send then sent also start course moves sending on.1 on.2 lawful front may,
      pumps now last (moved now pump last).world sends id count (moved now pump last).answer send then sent also start course (AsDefined refl refl) sending on.1 on.2 lawful front may,
    )

pub runs_complete : RunsStayOnCourse → PumpsComplete → RunsComplete
runs_complete stay complete sent also start course now id world last next receive then es told sends count send lines pool partial is opened run sending lawful front may fit moves e =
    let on = stay sent also start course now id world last receive then es told is (opened_so sent also start course world receive opened) run in
    complete now last next sends id count lines send then sent also start course pool partial moves sending on.1 on.2 lawful front may fit e
