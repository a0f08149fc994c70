-- What one event of a script answers, and what it leaves of the world: where several refusals could come, the outermost test comes first.
use Rattle.std.specs.Prelude.{◌≡◌, ◌⊎◌, ℕ, ◌+◌, ◌++◌, true, false, not, nat_lt, List, [], ◌∷◌, length, filter, codes, Option, Some, None, Result, Ok, Err, if◌then◌else◌}
use Rattle.std.specs.Option.{option_map_or}
use Rattle.zst_check.specs.Checks.{report_line}
use Rattle.zst_check.specs.Reports.{IsReportOf}
use Rattle.zst_check.specs.declared.report.Report.{Report}
use Rattle.zst_model.specs.declared.refusals.faults.Quantity.TheVariants as quantities
use Rattle.zst_model.specs.declared.refusals.plan_fault.PlanFault.{PlanFault}
use Rattle.zst_model.specs.declared.refusals.plan_fault.PlanFault.TheVariants as plans
use Rattle.zst_model.specs.declared.refusals.refusal.Refusal.{Refusal}
use Rattle.zst_model.specs.declared.refusals.refusal.Refusal.TheVariants as refusals
use Rattle.zst_model.specs.declared.refusals.stream_fault.StreamFault.TheVariants.{Truncated}
use Rattle.zst_model.specs.declared.refusals.subjects.AbsentSubject.TheVariants as missing
use Rattle.zst_model.specs.declared.sends.header.Point.{Point}
use Rattle.zst_model.specs.pools.AnswerLines.{ok_line, word}
use Rattle.zst_model.specs.pools.KeptPool.{kept_of}
use Rattle.zst_model.specs.pools.Pool.{Pool}
use Rattle.zst_model.specs.pools.Sessions.{busy_session, lesser, session_into}
use Rattle.zst_model.specs.pools.Step.{Stepped, stepped}
use Rattle.zst_model.specs.refusals.Refusal.{refusal_of}
use Rattle.zst_model.specs.refusals.Texts.{guid_text}
use Rattle.zst_model.specs.sends.Headers.{Sent}
use Rattle.zst_plan.specs.declared.receive.RecvAsk.{RecvAsk}
use Rattle.zst_recv.specs.Answers.{applied_of, point_at}
use Rattle.zst_reader.specs.InputReads.{stream_limit}
use Rattle.zst_recv.specs.Feeds.{fed_piece}
use Rattle.zst_recv.specs.ReceiveSteps.{Stage, Waits, Ends, Fed, Goes, Stops, left_by}
use Rattle.zst_recv.specs.Tokens.{token_told}
use Rattle.zst_script.specs.declared.event.Event.{Event}
use Rattle.zst_script.specs.declared.event.Event.TheVariants as events
use Rattle.zst_script.specs.declared.event.Side.{Side}
use Rattle.zst_model.specs.sends.SendPlan.{send_plan, with_list}
use Rattle.zst_send.specs.Openings.{rest_of}
use Rattle.zst_token.specs.Spelling.{token_text}
use Rattle.zst_token.specs.declared.token.Token.{Token}
use Rattle.zst_sessions.specs.World.{OpenSend, OpenReceive, World, at_side, other_side, is_side, put_side, with_running, send_with, receive_with, is_used, held_at, with_send, put_send, without_send, with_receive, put_receive, without_receive, next_piece, gone_on}

-- the lines of an event, or its refusal
abbrev pub Answer : Type 0
Answer = Result (List (List ℕ)) Refusal

-- what it answers, and what it leaves
pub record Moved : Type 0 where
  pub answer : Answer
  pub world : World

abbrev pub answers : List ℕ → World → Moved
answers line world = record { answer = Ok (line ∷ []); world = world }

abbrev pub refuses : Refusal → World → Moved
refuses refusal world = record { answer = Err refusal; world = world }

-- E31: the pool's disk has failed
abbrev pub if_works : Side → World → Moved → Moved
if_works side world rest = if (at_side side world).failed then refuses refusals.Failed world else rest

-- E3: no open session of this kind has the id
abbrev pub no_session : ℕ → Refusal
no_session id = refusals.Plan (plans.NoSuch (missing.Session id))

abbrev pub on_send : ℕ → World → (OpenSend → Moved) → Moved
on_send id world next = option_map_or next (send_with id world) (refuses (no_session id) world)

abbrev pub on_receive : ℕ → World → (OpenReceive → Moved) → Moved
on_receive id world next = option_map_or next (receive_with id world) (refuses (no_session id) world)

-- the line that tells a pool's number
abbrev pub number_line : Side → World → List ℕ
number_line side world = ok_line (at_side side world).pool.number

-- ---- commands

-- a command is as its definition says, beside what the sessions of its pool hold and claim
abbrev pub stepped_to : Side → World → Result Stepped Refusal → Moved
stepped_to side world (Ok done) = record { answer = Ok done.reply; world = with_running side done.pool world }
stepped_to side world (Err refusal) = refuses refusal world

abbrev pub told_by : World → Result Token PlanFault → Moved
told_by world (Ok token) = answers (token_text token) world
told_by world (Err fault) = refuses (refusal_of fault) world

-- ---- sessions begin

-- at most so many sends are open, and so many receives
unfoldable pub most_sends : ℕ
most_sends = 16

unfoldable pub most_receives : ℕ
most_receives = 16

-- E5 of the id, and E23
abbrev pub if_new_send : ℕ → World → Moved → Moved
if_new_send id world rest =
    if is_used id world then refuses (busy_session id) world else
    (if nat_lt (length world.sends) most_sends then rest else refuses (refusals.Limit quantities.Sends most_sends) world)

-- a send of what it gives: the refusals of its plan and of its source's list come first
abbrev pub opened_send : Side → ℕ → Option Point → World → Result Sent PlanFault → Moved
opened_send side id start world (Err fault) = refuses (refusal_of fault) world
opened_send side id start world (Ok sent) =
    if_new_send id world
    (answers (number_line side world) (with_send (record { id = id; side = side; sent = sent; start = start; given = 0 }) world))

-- a send by the token that the other pool tells: E14 comes before
abbrev pub resumed : Side → ℕ → World → Result Token PlanFault → Moved
resumed side id world (Err fault) = refuses (refusal_of fault) world
resumed side id world (Ok token) = opened_send side id (Some token.point) world (with_list (rest_of token (at_side side world).pool))

-- the session in whose way a receive is: one that receives into its target, or one that has its id; the one with the least id of them
abbrev pub in_the_way : Side → ℕ → List ℕ → World → Option ℕ
in_the_way side id target world =
    let claiming = session_into target (held_at side world) in
    if is_used id world then Some (lesser id claiming) else claiming

-- E5 of the id or the target, and E23
abbrev pub if_new_receive : Option ℕ → World → Moved → Moved
if_new_receive (Some other) world rest = refuses (busy_session other) world
if_new_receive None world rest = if nat_lt (length world.receives) most_receives then rest else refuses (refusals.Limit quantities.Receives most_receives) world

abbrev pub opened_receive : Side → ℕ → RecvAsk → World → Moved
opened_receive side id ask world =
    if_new_receive (in_the_way side id ask.target world) world
    (answers (number_line side world) (with_receive (record { id = id; side = side; ask = ask; text = []; stage = Waits }) world))

-- ---- pieces

-- so many bytes were taken
abbrev pub took : ℕ → List ℕ
took count = codes "took" ++ word count

-- where a receive stands: its point, or the guid of the snapshot that it made
abbrev pub stands_line : Stage → List ℕ
stands_line (Ends partial) = codes " done " ++ guid_text partial.header.to
stands_line stage = codes " point" ++ (word (point_at stage).object ++ word (point_at stage).offset)

abbrev pub pump_line : (count applied : ℕ) → Stage → List ℕ
pump_line count applied stage = took count ++ (codes " applied" ++ (word applied ++ stands_line stage))

-- a piece behind a text: E23 of a stream that would be longer than one may be, and then what a feed makes of it
abbrev pub feeding : RecvAsk → List ℕ → List ℕ → Stage → Pool → Fed
feeding ask text piece stage pool =
    if nat_lt stream_limit (length text + length piece)
    then Stops (left_by stage pool) (refusals.Limit quantities.Stream stream_limit)
    else fed_piece ask text piece stage pool

-- a receive behind a piece: one that is done has left
abbrev pub fed_on : OpenReceive → List ℕ → Stage → World → World
fed_on receive piece (Ends partial) world = without_receive receive.id world
fed_on receive piece stage world = put_receive receive.id (receive.text ++ piece) stage world

-- a feed of a piece; one that is refused ends its receive
abbrev pub fed_to : OpenReceive → List ℕ → (applied : ℕ) → World → Fed → Moved
fed_to receive piece applied world (Goes pool stage) = answers (pump_line (length piece) applied stage) (fed_on receive piece stage (with_running receive.side pool world))
fed_to receive piece applied world (Stops pool refusal) = refuses refusal (without_receive receive.id (with_running receive.side pool world))

-- the next piece of a send is fed to a receive; the send stands behind it, whatever the feed answers
abbrev pub pumped : ℕ → OpenSend → OpenReceive → World → Moved
pumped count send receive world =
    let piece = next_piece count send in
    let pool = (at_side receive.side world).pool in
    fed_to receive piece (applied_of receive.ask receive.text piece receive.stage pool) (put_send (gone_on count send) world)
    (feeding receive.ask receive.text piece receive.stage pool)

-- ---- sessions end

-- a receive is over before its END: what isn't kept of it goes
abbrev pub cut_off : OpenReceive → World → World
cut_off receive world = without_receive receive.id (with_running receive.side (left_by receive.stage (at_side receive.side world).pool) world)

-- all sessions of a pool are over, and of what they received that stays which is kept
abbrev pub ended : Side → World → World
ended side world = with_running side (kept_of (at_side side world).pool) (record world {
  sends = filter (λ send. not (is_side send.side side)) world.sends;
  receives = filter (λ receive. not (is_side receive.side side)) world.receives;
})

-- and the pool is opened again
abbrev pub reopened : Side → World → World
reopened side world = let left = ended side world in put_side side (record { pool = (at_side side left).pool; failed = false }) left

-- ---- all of them

-- what an event at this time answers and leaves, where no disk fails, is full or is damaged, and memory is found
unfoldable pub moved : (now : ℕ) → Event → World → Moved
moved now (events.Step side command) world =
    if_works side world (stepped_to side world (stepped (held_at side world) now command (at_side side world).pool))
moved now (events.Token side dataset) world = if_works side world (told_by world (token_told dataset (at_side side world).pool))
-- of a check this is only what it answers where the disk has failed
moved now (events.Check side) world = refuses refusals.Failed world
moved now (events.Send side id ask) world = if_works side world (opened_send side id None world (with_list (send_plan ask (at_side side world).pool)))
moved now (events.Resume side id dataset) world =
    if_works side world (if_works (other_side side) world (resumed side id world (token_told dataset (at_side (other_side side) world).pool)))
moved now (events.Receive side id ask) world = if_works side world (opened_receive side id ask world)
moved now (events.Pump sends receives count) world =
    on_send sends world (λ send. on_receive receives world (λ receive.
    if_works send.side world (if_works receive.side world (pumped count send receive world))))
moved now (events.Drop id count) world =
    on_send id world (λ send. if_works send.side world (answers (took (length (next_piece count send))) (put_send (gone_on count send) world)))
moved now (events.Close id) world = on_send id world (λ send. answers (codes "ok") (without_send id world))
moved now (events.Cut id) world =
    on_receive id world (λ receive. refuses (refusals.Stream (Truncated (length receive.text))) (cut_off receive world))
moved now (events.Reopen side) world = answers (number_line side world) (reopened side world)

-- What an event answers by its definition. Of a check of a pool whose disk works that is any report of it: the world doesn't say how many blocks it has, and where more than one place fails any of them is named.
abbrev pub AnswersBy : ℕ → Event → World → Answer → Type 0
AnswersBy now (events.Check side) world answer =
    (((at_side side world).failed ≡ true) × (answer ≡ Err refusals.Failed))
    ⊎ (((at_side side world).failed ≡ false) × ((count : ℕ) × (report : Report) × IsReportOf (at_side side world).pool count report × (answer ≡ Ok (report_line report ∷ []))))
AnswersBy now event world answer = answer ≡ (moved now event world).answer
