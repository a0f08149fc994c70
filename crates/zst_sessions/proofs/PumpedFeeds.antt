-- What a feed of the next piece of a send makes of the world that the engine stands for.
use Rattle.std.proofs.Common.{◌≡◌, ◌≢◌, ◌⊎◌, inl, inr, ◌<◌, ◌≤◌, ℕ, ◌+◌, Bool, true, false, not, ◌||◌, List, [], ◌∷◌, ◌++◌, length, map, filter, set, get_or, Option, Some, Result, Ok, Err, refl, sym, ap, ◌∙◌, subst, cond, nat_lt, ◌==◌, codes, arith}
use Rattle.std.specs.Prelude.{IsTrue}
use Rattle.std.specs.List.{Contains, remove}
use Rattle.std.specs.Option.{option_map_or}
use Rattle.std.proofs.lemmas.Bool.{ne_eqb}
use Rattle.std.proofs.lemmas.Bool.Decides.{nat_tests}
use Rattle.std.proofs.lemmas.List.Elements.{All-contains_itself}
use Rattle.zst_outside.specs.Images.{Leaves, Leaves-weaker}
use Rattle.zst_block.specs.Blocks.{Has}
use Rattle.zst_block.specs.IoCalls.{fails}
use Rattle.zst_dir.specs.RowNames.{Match}
use Rattle.zst_image.specs.Bodies.{free_by}
use Rattle.zst_image.specs.Reads.{Reads, bound_of}
use Rattle.zst_model.proofs.FoundElements.{found_passes}
use Rattle.zst_model.specs.declared.refusals.faults.Quantity.TheVariants as quantities
use Rattle.zst_model.specs.declared.refusals.plan_fault.PlanFault.TheVariants as plans
use Rattle.zst_model.specs.declared.refusals.refusal.Refusal.{Refusal}
use Rattle.zst_model.specs.declared.refusals.refusal.Refusal.TheVariants as refusals
use Rattle.zst_model.specs.pools.AnswerLines.{word}
use Rattle.zst_model.specs.pools.KeptPool.{kept_of}
use Rattle.zst_model.specs.pools.Pool.{Pool, Partial}
use Rattle.zst_plan.specs.declared.receive.RecvAsk.{RecvAsk}
use Rattle.zst_pool.specs.Calls.{IsAtRest}
use Rattle.zst_pool.specs.Faults.{pool_refusal}
use Rattle.zst_pool.specs.Partials.{without_unkept}
use Rattle.zst_pool.specs.declared.fault.PoolFault.{PoolFault}
use Rattle.zst_pool.specs.declared.fault.PoolFault.TheVariants as pools
use Rattle.zst_reader.specs.InputReads.{stream_limit}
use Rattle.zst_recv.specs.Answers.{FeedAnswer, FeedFault, Feeds, GoesOn, IsStopped, Tells, applied_of, goes_on, is_done, point_at, received_of}
use Rattle.zst_recv.specs.Faults.{recv_refusal, stop_at, stop_of}
use Rattle.zst_recv.specs.Feeds.{fed_piece}
use Rattle.zst_recv.specs.GoingOn.{FittingReceive, IsRow, ReceivesGoOn}
use Rattle.zst_recv.specs.ReceiveSteps.{Stage, Waits, Lives, Ends, Fed, Goes, Stops, left_by, pool_of}
use Rattle.zst_recv.specs.Stages.{Receives, ask_of, fed_of, received_by, stage_of}
use Rattle.zst_recv.specs.declared.fault.RecvFault.{RecvFault}
use Rattle.zst_recv.specs.declared.fault.RecvFault.TheVariants as faults
use Rattle.zst_recv.specs.declared.received_snapshot.ReceivedSnapshot.{ReceivedSnapshot}
use Rattle.zst_recv.specs.declared.recv.FeedReport.{FeedReport}
use Rattle.zst_recv.specs.declared.recv.Recv.{Recv}
use Rattle.zst_script.specs.declared.event.Event.{Event}
use Rattle.zst_script.specs.declared.event.Event.TheVariants as events
use Rattle.zst_script.specs.declared.event.Side.{Side}
use Rattle.zst_send.specs.Sends.{SendsGoOn}
use Rattle.zst_sessions.proofs.Beside.{receive_beside, sends_beside}
use Rattle.zst_sessions.proofs.ChangedMatches.{left_match, put_match}
use Rattle.zst_sessions.proofs.ChangedSides.{changed, fed_pool, on_side, one_id, other_target, pool_at, put_again, same_pools, side_stands, stands_changed}
use Rattle.zst_sessions.proofs.Matching.{named}
use Rattle.zst_sessions.specs.EngineSteps.{here_with, there_with}
use Rattle.zst_sessions.specs.Engines.{BeforeOrAfter, Kept, PoolStands, ReceiveStandsOn, Stands, kept_at}
use Rattle.zst_sessions.specs.EventReplies.{answer_of, standing_text}
use Rattle.zst_sessions.specs.Lawfulness.{IsWorld, MovesKeepWorlds}
use Rattle.zst_sessions.specs.Moves.{Answer, Moved, answers, cut_off, fed_on, fed_to, feeding, if_works, moved, no_session, on_receive, pump_line, pumped, refuses, stands_line, took}
use Rattle.zst_sessions.specs.Numbers.{NumbersRise}
use Rattle.zst_sessions.specs.Pumps.{FeedsKept, fed_reply, guid_of, settled, standing_of, too_long}
use Rattle.zst_sessions.specs.Replay.{AsDefined, FindsNoMemory, FindsNoRoom, LosesDisk, Moves, given_up, given_up_pump}
use Rattle.zst_sessions.specs.World.{OpenPool, OpenReceive, OpenSend, World, at_side, gone_on, moved_to, next_piece, put_send, put_side, receive_with, send_with, with_running}
use Rattle.zst_sessions.specs.declared.event_reply.Standing.TheVariants as standings
use Rattle.zst_sessions.specs.declared.open_sessions.OpenReceive as kept_receives
use Rattle.zst_sessions.specs.declared.open_sessions.OpenSend as kept_sends

-- What a feed makes of a world of which it changes one pool: a world to which the event moves with this answer, and for which what is kept then stands; and at every
-- moment each image of that pool reads as it did before the event, or as it does after it.
pub record FeedSteps (now : ℕ) (world : World) (event : Event) (side : Side) (here there new : Kept) (sends : List kept_sends.OpenSend) (left : List kept_receives.OpenReceive) (answer : Answer) : Type 0 where
  pub next : World
  pub moves : Moves now world event answer next
  pub stands : Stands true (here_with side new here) (there_with side new there) sends left next
  pub moments : Leaves (kept_at side here there).disk new.disk (BeforeOrAfter true side world (moved now event world).world)

-- ---- the line of a pump

-- what a reply says is the line of the definition
line_is : (taken count applied also : ℕ) (one other : List ℕ) → taken ≡ count → applied ≡ also → one ≡ other
    → took taken ++ (codes " applied" ++ (word applied ++ one)) ≡ took count ++ (codes " applied" ++ (word also ++ other))
line_is taken count applied also one other t a e =
    ap (λ (n : ℕ). took n ++ (codes " applied" ++ (word applied ++ one))) t ∙ ap (λ (n : ℕ). took count ++ (codes " applied" ++ (word n ++ one))) a
    ∙ ap (λ (l : List ℕ). took count ++ (codes " applied" ++ (word also ++ l))) e

-- where a receive stands that goes on, and one that is done
point_line : (report : FeedReport) (guid : ℕ) (stage : Stage) → is_done stage ≡ false → report.done ≡ is_done stage → report.point ≡ point_at stage → standing_text (standing_of report guid) ≡ stands_line stage
point_line report guid Waits goes done point =
    ap (λ (b : Bool). standing_text (cond b (standings.Done guid) (standings.Point report.point))) done ∙ ap (λ (p : _). standing_text (standings.Point p)) point
point_line report guid (Lives flags partial) goes done point =
    ap (λ (b : Bool). standing_text (cond b (standings.Done guid) (standings.Point report.point))) done ∙ ap (λ (p : _). standing_text (standings.Point p)) point
point_line report guid (Ends partial) goes done point = absurd cc

done_line : (report : FeedReport) (recv : Recv) (partial : Partial) → report.done ≡ true → received_by recv ≡ Some (received_of partial) → standing_text (standing_of report (guid_of recv)) ≡ stands_line (Ends partial)
done_line report recv partial done received =
    ap (λ (b : Bool). standing_text (cond b (standings.Done (guid_of recv)) (standings.Point report.point))) done
    ∙ ap (λ (o : Option ReceivedSnapshot). standing_text (standings.Done (option_map_or (λ made. made.guid) o 0))) received

-- ---- the definition

module _ (now : ℕ) (world : World) (sends receives count : ℕ) (send : OpenSend) (receive : OpenReceive) (found : send_with sends world ≡ Some send) (also : receive_with receives world ≡ Some receive) where
  abbrev pump : Event
  pump = events.Pump sends receives count

  -- the piece, the world behind its take, and the pool that is fed
  abbrev piece : List ℕ
  piece = next_piece count send

  abbrev given : World
  given = put_send (gone_on count send) world

  abbrev pool : Pool
  pool = (at_side receive.side world).pool

  abbrev definition : Fed
  definition = feeding receive.ask receive.text piece receive.stage pool

  -- what an event makes of it where both pools work
  pub moved_so : (at_side send.side world).failed ≡ false → (at_side receive.side world).failed ≡ false
      → moved now (events.Pump sends receives count) world ≡ fed_to receive (next_piece count send) (applied_of receive.ask receive.text (next_piece count send) receive.stage (at_side receive.side world).pool) (put_send (gone_on count send) world)
      (feeding receive.ask receive.text (next_piece count send) receive.stage (at_side receive.side world).pool)
  unfolding moved
  moved_so works alive =
      ap (λ (o : Option OpenSend). option_map_or (λ one. on_receive receives world (λ r. if_works one.side world (if_works r.side world (pumped count one r world)))) o (refuses (no_session sends) world)) found
      ∙ ap (λ (p : Option OpenReceive). option_map_or (λ r. if_works send.side world (if_works r.side world (pumped count send r world))) p (refuses (no_session receives) world)) also
      ∙ ap (λ (b : Bool). cond b (refuses refusals.Failed world) (if_works receive.side world (pumped count send receive world))) works
      ∙ ap (λ (b : Bool). cond b (refuses refusals.Failed world) (pumped count send receive world)) alive

  -- and what is left where it is given up
  left_so : given_up pump world ≡ cut_off receive given
  left_so = ap (λ (o : Option OpenSend). given_up_pump count o (receive_with receives world) world) found ∙ ap (λ (p : Option OpenReceive). given_up_pump count (Some send) p world) also

  there : Contains world.receives receive
  there = (found_passes (λ r. r.id == receives) world.receives receive also).0

  -- ---- the world behind a feed

  module _ (sends_go : SendsGoOn) (go_on : ReceivesGoOn) (fitting : FittingReceive) (keep : MovesKeepWorlds) (rise : NumbersRise) (stays : (target : List ℕ) (running : Pool) → kept_of (without_unkept target running) ≡ kept_of running)
      (works : (at_side send.side world).failed ≡ false) (alive : (at_side receive.side world).failed ≡ false) (lawful : IsWorld world)
      (here elsewhere new : Kept) (coded_sends : List kept_sends.OpenSend) (coded : List kept_receives.OpenReceive) (place : ℕ) (one : kept_receives.OpenReceive) (after : Recv) (fed : Result FeedReport RecvFault) (taken : ℕ)
      (stands : Stands true here elsewhere coded_sends coded given) (below : place < length coded) (is_there : get_or coded place one ≡ one)
      (matches : ReceiveStandsOn true (kept_at receive.side here elsewhere) pool one receive) (feeds : FeedsKept (kept_at receive.side here elsewhere) new one.recv after piece fed)
      (honest : new.disk.honest) (tells : IsTrue new.tells) (taken_is : taken ≡ length piece) where
    abbrev old : Kept
    old = kept_at receive.side here elsewhere

    old_stands : PoolStands true old (at_side receive.side world)
    old_stands = side_stands receive.side here elsewhere world stands.here_stands stands.there_stands

    old_works : old.failed ≡ false
    old_works = old_stands.mark ∙ alive

    rests : IsAtRest true old.disk old.state pool
    rests = old_stands.rests old_works

    so : Feeds true old.disk new.disk new.state after receive.text piece receive.stage pool fed
    so = feeds.feeds pool receive.text receive.stage honest old_works rests (matches.receives old_works)

    ask_is : ask_of after ≡ receive.ask
    ask_is = feeds.receive.ask ∙ matches.ask

    at : (get_or coded place one).id ≡ receive.id
    at = ap (λ (r : kept_receives.OpenReceive). r.id) is_there ∙ matches.id

    given_alive : (at_side receive.side given).failed ≡ false
    given_alive = ap (λ (p : OpenPool). p.failed) (same_pools receive.side given.sends world) ∙ alive

    -- ---- all other receives

    abbrev Known : OpenReceive → Type 0
    Known r = Contains world.receives r

    abbrev Old : kept_receives.OpenReceive → OpenReceive → Type 0
    Old x r = ReceiveStandsOn true (kept_at r.side here elsewhere) (at_side r.side given).pool x r

    abbrev NewAt : World → kept_receives.OpenReceive → OpenReceive → Type 0
    NewAt next x r = ReceiveStandsOn true (kept_at r.side (here_with receive.side new here) (there_with receive.side new elsewhere)) (at_side r.side next).pool x r

    later : (answer : Answer) (next : World) → Moves now world pump answer next → (side : Side) → (at_side side given).pool.number ≤ (at_side side next).pool.number
    later answer next moves side = subst (λ (p : OpenPool). p.pool.number ≤ (at_side side next).pool.number) (sym (same_pools side given.sends world)) (rise now world next pump answer side moves)

    others : (r : OpenReceive) → Known r → r.id ≢ receive.id → r.side ≡ receive.side → ¬ (r.ask.target ≡ (ask_of one.recv).target)
    others r known apart sides same = other_target world lawful r receive known there apart sides (same ∙ ap (λ (a : RecvAsk). a.target) matches.ask)

    stand_on : (answer : Answer) (next : World) → Moves now world pump answer next → (x : kept_receives.OpenReceive) (r : OpenReceive) → Old x r → Known r → r.id ≢ receive.id → NewAt next x r
    stand_on answer next moves x r was known apart =
        receive_beside go_on fitting (λ target. target ≡ (ask_of one.recv).target) receive.side r.side here elsewhere new feeds.keeps (at_side r.side given).pool (at_side r.side next).pool (later answer next moves r.side) x r
        (λ sides. others r known apart sides) was

    -- the world with this pool and these receives
    stands_so : (p : OpenPool) (change : List OpenReceive → List OpenReceive) (left : List kept_receives.OpenReceive) (answer : Answer) → Moves now world pump answer (changed receive.side p change given) → PoolStands true new p
        → Match (NewAt (changed receive.side p change given)) left (change world.receives)
        → Stands true (here_with receive.side new here) (there_with receive.side new elsewhere) coded_sends left (changed receive.side p change given)
    stands_so p change left answer moves is match =
        stands_changed receive.side here elsewhere new coded_sends coded left given p change stands is
        (sends_beside sends_go receive.side (λ target. target ≡ (ask_of one.recv).target) here elsewhere new coded_sends given.sends feeds.keeps stands.send_stands) match
        (keep now world (changed receive.side p change given) pump answer moves lawful)

    -- ---- the receive is over

    abbrev leaves : List OpenReceive → List OpenReceive
    leaves = filter (λ r. not (r.id == receive.id))

    left_stands : (p : OpenPool) (answer : Answer) → Moves now world pump answer (changed receive.side p leaves given) → PoolStands true new p
        → Stands true (here_with receive.side new here) (there_with receive.side new elsewhere) coded_sends (remove coded place) (changed receive.side p leaves given)
    left_stands p answer moves is =
        stands_so p leaves (remove coded place) answer moves is
        (left_match Old (NewAt (changed receive.side p leaves given)) (λ x. x.id) (λ r. r.id) (λ x r was. was.id) receive.id Known (stand_on answer (changed receive.side p leaves given) moves)
        coded world.receives place one lawful.receives (All-contains_itself world.receives) stands.receive_stands below at)

    -- ---- the receive stands elsewhere

    module _ (stage : Stage) where
      abbrev stood : OpenReceive
      stood = record receive { text = receive.text ++ piece; stage = stage }

      abbrev moves_on : List OpenReceive → List OpenReceive
      moves_on = map (moved_to receive.id (receive.text ++ piece) stage)

      moved_stands : (p : OpenPool) (answer : Answer) → Moves now world pump answer (changed receive.side p moves_on given) → PoolStands true new p → ReceiveStandsOn true new p.pool (record one { recv = after }) stood
          → Stands true (here_with receive.side new here) (there_with receive.side new elsewhere) coded_sends (set coded place (record one { recv = after })) (changed receive.side p moves_on given)
      moved_stands p answer moves is own =
          let next = changed receive.side p moves_on given in
          let x : kept_receives.OpenReceive = record one { recv = after } in
          let move = moved_to receive.id (receive.text ++ piece) stage in
          let its : NewAt next x stood = on_side (λ (k : Kept) (q : Pool). ReceiveStandsOn true k q x stood) receive.side here elsewhere new p moves_on given own in
          let itself : move receive ≡ stood = ap (λ (t : Bool). cond t stood receive) (named receive.id receive.id refl) in
          stands_so p moves_on (set coded place x) answer moves is
          (put_match Old (NewAt next) (λ x. x.id) (λ r. r.id) (λ x r was. was.id) receive.id Known (stand_on answer next moves)
          move (λ r differs. ap (λ (t : Bool). cond t (record r { text = receive.text ++ piece; stage = stage }) r) (ne_eqb r.id receive.id differs))
          coded world.receives place one x lawful.receives (All-contains_itself world.receives) stands.receive_stands below at
          (λ r was known.
          let this : r ≡ receive = one_id world lawful r receive known there (sym was.id ∙ at) in
          subst (λ (o : OpenReceive). NewAt next x (moved_to receive.id (receive.text ++ piece) stage o)) (sym this) (subst (NewAt next x) (sym itself) its)))

    -- ---- moments

    done_pool : (at_side receive.side (moved now pump world).world).pool ≡ pool_of definition
    done_pool =
        ap (λ (m : Moved). (at_side receive.side m.world).pool) (moved_so works alive)
        ∙ fed_pool receive piece (applied_of receive.ask receive.text piece receive.stage pool) given definition

    moments_by : Leaves old.disk new.disk (λ c. Reads true (kept_of pool) c ⊎ Reads true (kept_of (pool_of definition)) c) → Leaves old.disk new.disk (BeforeOrAfter true receive.side world (moved now pump world).world)
    moments_by = subst (λ (p : Pool). Leaves old.disk new.disk (λ c. Reads true (kept_of pool) c ⊎ Reads true (kept_of p) c)) (sym done_pool)

    -- ---- a pool that works

    new_works : (f : Result FeedReport RecvFault) → fed ≡ f → fails (stop_of f) ≡ false → new.failed ≡ false
    new_works f is stops = feeds.failed ∙ ap (λ (b : Bool). b || fails (stop_of fed)) old_works ∙ ap (λ (r : Result FeedReport RecvFault). fails (stop_of r)) is ∙ stops

    -- the pool with its mark
    abbrev with_mark : Pool → OpenPool
    with_mark next = record { pool = next; failed = (at_side receive.side given).failed }

    pool_stands : (next : Pool) → IsAtRest true new.disk new.state next → new.failed ≡ false → PoolStands true new (with_mark next)
    pool_stands next rested working = record {
      mark = working ∙ sym given_alive;
      rests = λ w. rested;
      ready = feeds.keeps.leaves.ready;
      lost = λ failed. absurd (let both : true ≡ false = sym failed ∙ working in cc);
    }

    -- ---- ends

    abbrev Steps : List kept_receives.OpenReceive → Answer → Type 0
    Steps left answer = FeedSteps now world pump receive.side here elsewhere new coded_sends left answer

    -- the definition refuses
    stopped : (next : Pool) (refusal : Refusal) → definition ≡ Stops next refusal → IsAtRest true new.disk new.state next → new.failed ≡ false
        → Leaves old.disk new.disk (λ c. Reads true (kept_of pool) c ⊎ Reads true (kept_of (pool_of definition)) c) → Steps (remove coded place) (Err refusal)
    stopped next refusal is rested working moments =
        let done : moved now pump world ≡ refuses refusal (changed receive.side (with_mark next) leaves given) =
        moved_so works alive ∙ ap (fed_to receive piece (applied_of receive.ask receive.text piece receive.stage pool) given) is in
        let moves : Moves now world pump (Err refusal) (changed receive.side (with_mark next) leaves given) =
        AsDefined (sym (ap (λ (m : Moved). m.answer) done)) (sym (ap (λ (m : Moved). m.world) done)) in
        record {
          next = changed receive.side (with_mark next) leaves given;
          moves = moves;
          stands = left_stands (with_mark next) (Err refusal) moves (pool_stands next rested working);
          moments = moments_by moments;
        }

    -- the event is given up
    left_is : changed receive.side (with_mark (left_by receive.stage pool)) leaves given ≡ given_up pump world
    left_is = ap (λ (p : OpenPool). changed receive.side (with_mark (left_by receive.stage p.pool)) leaves given) (sym (same_pools receive.side given.sends world)) ∙ sym left_so

    gave_up : (answer : Answer) → Moves now world pump answer (changed receive.side (with_mark (left_by receive.stage pool)) leaves given) → IsAtRest true new.disk new.state (left_by receive.stage pool) → new.failed ≡ false
        → Leaves old.disk new.disk (λ c. Reads true (kept_of pool) c ⊎ Reads true (kept_of (pool_of definition)) c) → Steps (remove coded place) answer
    gave_up answer moves rested working moments = record {
      next = changed receive.side (with_mark (left_by receive.stage pool)) leaves given;
      moves = moves;
      stands = left_stands (with_mark (left_by receive.stage pool)) answer moves (pool_stands (left_by receive.stage pool) rested working);
      moments = moments_by moments;
    }

    -- the disk failed
    kept_left : (stage : Stage) (running : Pool) → kept_of (left_by stage running) ≡ kept_of running
    kept_left Waits running = refl
    kept_left (Lives flags partial) running = stays partial.target running
    kept_left (Ends partial) running = refl

    abbrev failed : Pool → OpenPool
    failed next = record { pool = next; failed = true }

    lost_as : (next : Pool) → (next ≡ (at_side receive.side (given_up pump world)).pool) ⊎ (next ≡ (at_side receive.side (moved now pump world).world).pool) → Reads true (kept_of next) new.disk.seen → new.failed ≡ true
        → Leaves old.disk new.disk (λ c. Reads true (kept_of pool) c ⊎ Reads true (kept_of (pool_of definition)) c) → Steps (remove coded place) (Err refusals.DiskFault)
    lost_as next one_of reads lost moments =
        let left = changed receive.side (failed next) leaves given in
        let world_is : left ≡ put_side receive.side (failed next) (given_up pump world) =
        sym (put_again receive.side (with_mark (left_by receive.stage pool)) (failed next) leaves given) ∙ ap (put_side receive.side (failed next)) left_is in
        let moves : Moves now world pump (Err refusals.DiskFault) left = LosesDisk refl (inr (receive, also, record { pool = next; one_of = one_of; world_is = world_is })) in
        record {
          next = left;
          moves = moves;
          stands = left_stands (failed next) (Err refusals.DiskFault) moves (record {
            mark = lost;
            rests = λ w. absurd (let both : true ≡ false = sym lost ∙ w in cc);
            ready = λ w. absurd (let both : true ≡ false = sym lost ∙ w in cc);
            lost = λ l t. reads;
          });
          moments = moments_by moments;
        }

    -- ---- what the definition says where the stream isn't too long

    by_ask : FeedAnswer true new.disk new.state after receive.text piece receive.stage pool (fed_piece receive.ask receive.text piece receive.stage pool) fed
    by_ask = subst (λ (a : RecvAsk). FeedAnswer true new.disk new.state after receive.text piece receive.stage pool (fed_piece a receive.text piece receive.stage pool) fed) ask_is so.answer

    ask_moments : Leaves old.disk new.disk (λ c. Reads true (kept_of pool) c ⊎ Reads true (kept_of (pool_of (fed_piece receive.ask receive.text piece receive.stage pool))) c)
    ask_moments = subst (λ (a : RecvAsk). Leaves old.disk new.disk (λ c. Reads true (kept_of pool) c ⊎ Reads true (kept_of (pool_of (fed_piece a receive.text piece receive.stage pool))) c)) ask_is so.moments

    module _ (short : nat_lt stream_limit (length receive.text + length piece) ≡ false) where
      defined : definition ≡ fed_piece receive.ask receive.text piece receive.stage pool
      defined =
          ap (λ (b : Bool). cond b (Stops (left_by receive.stage pool) (refusals.Limit quantities.Stream stream_limit)) (fed_piece receive.ask receive.text piece receive.stage pool)) short

      moments : Leaves old.disk new.disk (λ c. Reads true (kept_of pool) c ⊎ Reads true (kept_of (pool_of definition)) c)
      moments = subst (λ (f : Fed). Leaves old.disk new.disk (λ c. Reads true (kept_of pool) c ⊎ Reads true (kept_of (pool_of f)) c)) (sym defined) ask_moments

      -- one that goes on
      stays_on : (report : FeedReport) (stage : Stage) (next : Pool) → is_done stage ≡ false → fed_on receive piece stage (with_running receive.side next given) ≡ changed receive.side (with_mark next) (map (moved_to receive.id (receive.text ++ piece) stage)) given
          → fed ≡ Ok report → fed_piece receive.ask receive.text piece receive.stage pool ≡ Goes next stage → IsAtRest true new.disk new.state next
          → Receives (bound_of true next.number) (Has new.disk.seen (free_by new.state.body)) after (receive.text ++ piece) stage → Tells (ask_of after) receive.text piece receive.stage stage pool report
          → Steps (settled (not report.done) place (record one { recv = after }) coded) (answer_of (fed_reply taken after (Ok report)))
      stays_on report stage next goes on_is was is rested received tell =
          let working = new_works (Ok report) was refl in
          let going : not report.done ≡ true = ap not (tell.done ∙ goes) in
          let applied = applied_of receive.ask receive.text piece receive.stage pool in
          let left = changed receive.side (with_mark next) (map (moved_to receive.id (receive.text ++ piece) stage)) given in
          let done : moved now pump world ≡ answers (pump_line (length piece) applied stage) (fed_on receive piece stage (with_running receive.side next given)) =
          moved_so works alive ∙ ap (fed_to receive piece applied given) (defined ∙ is) in
          let said : answer_of (fed_reply taken after (Ok report)) ≡ Ok (pump_line (length piece) applied stage ∷ []) =
          ap (λ (l : List ℕ). Ok (l ∷ [])) (line_is taken (length piece) report.applied applied _ _ taken_is
          (tell.applied ∙ ap (λ (a : RecvAsk). applied_of a receive.text piece receive.stage pool) ask_is) (point_line report (guid_of after) stage goes tell.done tell.point)) in
          let moves : Moves now world pump (answer_of (fed_reply taken after (Ok report))) left =
          AsDefined (said ∙ sym (ap (λ (m : Moved). m.answer) done)) (sym (ap (λ (m : Moved). m.world) done ∙ on_is)) in
          let on : goes_on fed ≡ true = ap (λ (r : Result FeedReport RecvFault). goes_on r) was ∙ going in
          let own : IsRow new.state.dir (ask_of one.recv).target (stage_of after) = feeds.own on matches.row in
          record {
            next = left;
            moves = moves;
            stands = subst (λ (b : Bool). Stands true (here_with receive.side new here) (there_with receive.side new elsewhere) coded_sends (settled b place (record one { recv = after }) coded) left) (sym going)
                (moved_stands stage (with_mark next) (answer_of (fed_reply taken after (Ok report))) moves (pool_stands next rested working) (record {
                  id = matches.id;
                  side = matches.side;
                  ask = ask_is;
                  live = feeds.receive.live ∙ on;
                  fits = feeds.receive.fits;
                  row = subst (λ (a : RecvAsk). IsRow new.state.dir a.target (stage_of after)) (sym feeds.receive.ask) own;
                  fed = received.reads.stands.pushed;
                  receives = λ w. received;
                }));
            moments = moments_by moments;
          }

      -- one that is done
      is_over : (report : FeedReport) (partial : Partial) (next : Pool) → fed ≡ Ok report → fed_piece receive.ask receive.text piece receive.stage pool ≡ Goes next (Ends partial) → IsAtRest true new.disk new.state next
          → received_by after ≡ Some (received_of partial) → Tells (ask_of after) receive.text piece receive.stage (Ends partial) pool report
          → Steps (settled (not report.done) place (record one { recv = after }) coded) (answer_of (fed_reply taken after (Ok report)))
      is_over report partial next was is rested received tell =
          let working = new_works (Ok report) was refl in
          let over : not report.done ≡ false = ap not tell.done in
          let applied = applied_of receive.ask receive.text piece receive.stage pool in
          let left = changed receive.side (with_mark next) leaves given in
          let done : moved now pump world ≡ answers (pump_line (length piece) applied (Ends partial)) left = moved_so works alive ∙ ap (fed_to receive piece applied given) (defined ∙ is) in
          let said : answer_of (fed_reply taken after (Ok report)) ≡ Ok (pump_line (length piece) applied (Ends partial) ∷ []) =
          ap (λ (l : List ℕ). Ok (l ∷ [])) (line_is taken (length piece) report.applied applied _ _ taken_is
          (tell.applied ∙ ap (λ (a : RecvAsk). applied_of a receive.text piece receive.stage pool) ask_is) (done_line report after partial tell.done received)) in
          let moves : Moves now world pump (answer_of (fed_reply taken after (Ok report))) left = AsDefined (said ∙ sym (ap (λ (m : Moved). m.answer) done)) (sym (ap (λ (m : Moved). m.world) done)) in
          record {
            next = left;
            moves = moves;
            stands = subst (λ (b : Bool). Stands true (here_with receive.side new here) (there_with receive.side new elsewhere) coded_sends (settled b place (record one { recv = after }) coded) left) (sym over)
                (left_stands (with_mark next) (answer_of (fed_reply taken after (Ok report))) moves (pool_stands next rested working));
            moments = moments_by moments;
          }

      fed_ok : (report : FeedReport) (stage : Stage) (next : Pool) → fed ≡ Ok report → fed_piece receive.ask receive.text piece receive.stage pool ≡ Goes next stage → IsAtRest true new.disk new.state next
          → GoesOn (bound_of true next.number) new.disk new.state after (receive.text ++ piece) stage → Tells (ask_of after) receive.text piece receive.stage stage pool report
          → Steps (settled (not report.done) place (record one { recv = after }) coded) (answer_of (fed_reply taken after (Ok report)))
      fed_ok report Waits next was is rested received tell = stays_on report Waits next refl refl was is rested received tell
      fed_ok report (Lives flags partial) next was is rested received tell = stays_on report (Lives flags partial) next refl refl was is rested received tell
      fed_ok report (Ends partial) next was is rested received tell = is_over report partial next was is rested received tell

      -- the disk failed: it reads as the pool before the feed, or as the one behind it
      disk_lost : fed ≡ Err (faults.Pool pools.DiskFault) → Steps (remove coded place) (Err refusals.DiskFault)
      disk_lost was = elim (feeds.lost (kept_of pool) (kept_of (pool_of (fed_piece receive.ask receive.text piece receive.stage pool))) ask_moments (λ c image. (old.state.body, rests.rows, rests.rests.each c image)) tells) [
        | inl before ↦ lost_as (left_by receive.stage pool)
            (inl (sym (pool_at receive.side (with_mark (left_by receive.stage pool)) leaves given) ∙ ap (λ (w : World). (at_side receive.side w).pool) left_is))
            (subst (λ (p : Pool). Reads true p new.disk.seen) (sym (kept_left receive.stage pool)) before) failing moments
        | inr behind ↦ lost_as (pool_of (fed_piece receive.ask receive.text piece receive.stage pool)) (inr (ap pool_of (sym defined) ∙ sym done_pool)) behind failing moments
      ]
        where
          failing : new.failed ≡ true
          failing = feeds.failed ∙ ap (λ (b : Bool). b || fails (stop_of fed)) old_works ∙ ap (λ (r : Result FeedReport RecvFault). fails (stop_of r)) was

      -- what is refused by the definition
      refused : (fault : RecvFault) → fed ≡ Err fault → fails (stop_at fault) ≡ false → (refusal : Refusal) → IsStopped true new.disk new.state (fed_piece receive.ask receive.text piece receive.stage pool) refusal
          → Steps (remove coded place) (Err refusal)
      refused fault was works_on refusal stop = stopped stop.next refusal (defined ∙ stop.definition_is) stop.rests (new_works (Err fault) was works_on) moments

      pool_faults : (fault : PoolFault) → fed ≡ Err (faults.Pool fault)
          → FeedFault true new.disk new.state receive.text piece receive.stage pool (fed_piece receive.ask receive.text piece receive.stage pool) fault → Steps (remove coded place) (Err (pool_refusal fault))
      pool_faults (pools.Plan (plans.Limit quantities.Stream number)) was (same, long, rested) = absurd (let l : nat_lt stream_limit (length receive.text + length piece) ≡ true = grind (arith, nat_tests, long) in cc)
      pool_faults (pools.Plan fault) was stop = refused (faults.Pool (pools.Plan fault)) was refl (pool_refusal (pools.Plan fault)) stop
      pool_faults (pools.CannotApply fault) was stop = absurd stop
      pool_faults (pools.Redacted object block) was stop = absurd stop
      pool_faults (pools.Full need largest) was (less, rested) =
          gave_up (Err (refusals.Full need largest)) (FindsNoRoom need largest refl less tt left_is) rested (new_works (Err (faults.Pool (pools.Full need largest))) was refl) moments
      pool_faults (pools.Damaged sector stated found) was stop = absurd stop
      pool_faults pools.DiskFault was stop = disk_lost was
      pool_faults pools.Failed was stop = absurd stop
      pool_faults pools.OutOfMemory was rested = gave_up (Err refusals.OutOfMemory) (FindsNoMemory refl left_is) rested (new_works (Err (faults.Pool pools.OutOfMemory)) was refl) moments

      short_steps : (f : Result FeedReport RecvFault) → fed ≡ f → FeedAnswer true new.disk new.state after receive.text piece receive.stage pool (fed_piece receive.ask receive.text piece receive.stage pool) f
          → Steps (settled (goes_on f) place (record one { recv = after }) coded) (answer_of (fed_reply taken after f))
      short_steps (Ok report) was is = fed_ok report is.after is.next was is.definition_is is.rests is.goes_on is.tells
      short_steps (Err (faults.Pool fault)) was is = pool_faults fault was is
      short_steps (Err (faults.Stream fault)) was is = refused (faults.Stream fault) was refl (recv_refusal (faults.Stream fault)) is
      short_steps (Err (faults.CannotApply index fault)) was is = refused (faults.CannotApply index fault) was refl (recv_refusal (faults.CannotApply index fault)) is

    -- a stream that is too long is refused before all else
    long_steps : nat_lt stream_limit (length receive.text + length piece) ≡ true → Steps (settled (goes_on fed) place (record one { recv = after }) coded) (answer_of (fed_reply taken after fed))
    long_steps long =
        let stream = matches.receives old_works in
        let more : stream_limit < fed_of one.recv + length piece = grind (arith, nat_tests, long, stream.reads.stands.pushed) in
        let was = feeds.long old_works more in
        let is = subst (λ (f : Result FeedReport RecvFault). FeedAnswer true new.disk new.state after receive.text piece receive.stage pool (fed_piece receive.ask receive.text piece receive.stage pool) f) was.0 by_ask in
        let defined : definition ≡ Stops (left_by receive.stage pool) (refusals.Limit quantities.Stream stream_limit) =
        ap (λ (b : Bool). cond b (Stops (left_by receive.stage pool) (refusals.Limit quantities.Stream stream_limit)) (fed_piece receive.ask receive.text piece receive.stage pool)) long in
        subst (λ (f : Result FeedReport RecvFault). Steps (settled (goes_on f) place (record one { recv = after }) coded) (answer_of (fed_reply taken after f))) (sym was.0)
        (stopped (left_by receive.stage pool) (refusals.Limit quantities.Stream stream_limit) defined is.2 (new_works (Err too_long) was.0 refl)
        (Leaves-weaker old.disk new.disk (λ c. ⊥) (λ c. Reads true (kept_of pool) c ⊎ Reads true (kept_of (pool_of definition)) c) was.1 (λ c none. absurd none)))

    pub feed_steps : FeedSteps now world (events.Pump sends receives count) receive.side here elsewhere new coded_sends (settled (goes_on fed) place (record one { recv = after }) coded) (answer_of (fed_reply taken after fed))
    feed_steps = by_length (nat_lt stream_limit (length receive.text + length piece)) refl
      where
        by_length : (b : Bool) → nat_lt stream_limit (length receive.text + length piece) ≡ b
            → FeedSteps now world (events.Pump sends receives count) receive.side here elsewhere new coded_sends (settled (goes_on fed) place (record one { recv = after }) coded) (answer_of (fed_reply taken after fed))
        by_length true long = long_steps long
        by_length false short = short_steps short fed refl by_ask
