-- No pool's number falls.
use Rattle.std.proofs.Common.{◌≡◌, ◌⊎◌, inl, inr, ◌≤◌, ◌+◌, ℕ, Bool, true, false, ◌&&◌, List, [], ◌∷◌, ◌++◌, length, Option, Some, None, Result, Ok, Err, refl, sym, ap, subst, cond, nat_lt, arith}
use Rattle.std.specs.Option.{option_map_or}
use Rattle.zst_laws.specs.CommitCounts.{AnswersKeep, CommitsCount}
use Rattle.zst_model.specs.declared.pools.command.Command.{Command}
use Rattle.zst_model.specs.declared.refusals.plan_fault.PlanFault.{PlanFault}
use Rattle.zst_model.specs.declared.refusals.refusal.Refusal.{Refusal}
use Rattle.zst_model.specs.declared.refusals.refusal.Refusal.TheVariants as refusals
use Rattle.zst_model.specs.declared.refusals.faults.Quantity.TheVariants as quantities
use Rattle.zst_model.specs.declared.sends.header.Point.{Point}
use Rattle.zst_model.specs.pools.Pool.{Pool, Partial, partial_of}
use Rattle.zst_model.specs.pools.Sessions.{busy_session}
use Rattle.zst_model.specs.pools.Step.{Stepped, commits, stepped}
use Rattle.zst_model.specs.sends.Headers.{Sent}
use Rattle.zst_model.proofs.Results.{ok_parts}
use Rattle.zst_plan.specs.declared.receive.RecvAsk.{RecvAsk}
use Rattle.zst_pool.specs.Partials.{next_commit, with_finished, with_partial}
use Rattle.zst_recv.proofs.CommitLemmas.{commit_is}
use Rattle.zst_recv.specs.Answers.{applied_of}
use Rattle.zst_reader.specs.InputReads.{stream_limit}
use Rattle.zst_recv.specs.Feeds.{fault_of, fed_piece, new_records}
use Rattle.zst_recv.specs.ReceiveSteps.{Stage, Waits, Lives, Ends, Batch, Fed, Goes, Stops, at_stage, batch_of, committed, fed, first_fault, is_kept, keeps_front, left_by, pool_of, put, put_at, settled}
use Rattle.zst_recv.specs.Tokens.{token_of_partial, token_told}
use Rattle.zst_script.specs.declared.event.Event.{Event}
use Rattle.zst_script.specs.declared.event.Event.TheVariants as events
use Rattle.zst_script.specs.declared.event.Side.{Side}
use Rattle.zst_script.specs.declared.event.Side.TheVariants.{Here, There}
use Rattle.zst_model.specs.sends.SendPlan.{send_plan, with_list}
use Rattle.zst_send.specs.Openings.{rest_of}
use Rattle.zst_record.specs.Heads.{Covered}
use Rattle.zst_stream.specs.Reading.{reading}
use Rattle.zst_token.specs.declared.token.Token.{Token}
use Rattle.zst_sessions.specs.Moves.{Moved, answers, number_line, cut_off, ended, fed_to, feeding, if_new_receive, in_the_way, most_receives, most_sends, moved, no_session, on_receive, on_send, opened_send, pumped, refuses, resumed, stepped_to, told_by}
use Rattle.zst_sessions.specs.Numbers.{NumbersRise, SamePartials, TokensAreOwn}
use Rattle.zst_sessions.specs.Replay.{DiskFails, Fails, AsDefined, FindsNoRoom, FindsNoMemory, LosesDisk, TakesNoPiece, given_up, given_up_pump}
use Rattle.zst_sessions.specs.World.{OpenPool, OpenSend, OpenReceive, World, at_side, other_side, put_side, with_running, held_at, is_used, send_with, receive_with, put_send, gone_on, next_piece}

-- ---- tokens

pub tokens_own : TokensAreOwn
tokens_own dataset pool other same = go (partial_of dataset pool) (partial_of dataset other) same
  where
    go : (a b : Option Partial) → SamePartials a b → token_of_partial dataset a ≡ token_of_partial dataset b
    go None None s = refl
    go None (Some b) s = absurd s
    go (Some a) None s = absurd s
    go (Some a) (Some b) s = ap (λ (p : Partial). token_of_partial dataset (Some p)) s.rest

-- ---- feeds

left_number : (stage : Stage) (pool : Pool) → pool.number ≤ (left_by stage pool).number
left_number Waits pool = omega arith
left_number (Lives flags partial) pool = omega arith
left_number (Ends partial) pool = omega arith

next_number : (pool next : Pool) → next_commit pool ≡ Ok next → pool.number ≤ next.number
next_number pool next e = let more : next.number ≡ pool.number + 1 = ap (λ (p : Pool). p.number) (commit_is pool next e) in omega (arith, more)

put_number : (rolls : Bool) (stage : Stage) (pool next : Pool) → put_at rolls stage pool ≡ Ok next → pool.number ≤ next.number
put_number rolls Waits pool next e = let same : pool.number ≡ next.number = ap (λ (p : Pool). p.number) (ok_parts pool next e) in omega (arith, same)
put_number rolls (Lives flags partial) pool next e = next_number (with_partial rolls partial pool) next e
put_number rolls (Ends partial) pool next e = next_number (with_finished partial pool) next e

batch_number : (batch : Batch) (pool next : Pool) → put batch pool ≡ Ok next → pool.number ≤ next.number
batch_number batch pool next e = go batch.taken e
  where
    go : (t : Bool) → cond t (put_at batch.rolls batch.stage pool) (Ok pool) ≡ Ok next → pool.number ≤ next.number
    go true e = put_number batch.rolls batch.stage pool next e
    go false e = let same : pool.number ≡ next.number = ap (λ (p : Pool). p.number) (ok_parts pool next e) in omega (arith, same)

committed_number : (before : Stage) (pool : Pool) (batch : Batch) (f : Pool → Fed) → ((next : Pool) → pool_of (f next) ≡ next) → (r : Result Pool Refusal) → put batch pool ≡ r
    → pool.number ≤ (pool_of (committed before pool r f)).number
committed_number before pool batch f is (Ok next) e =
    let same : (pool_of (f next)).number ≡ next.number = ap (λ (p : Pool). p.number) (is next) in
    let rose = batch_number batch pool next e in
    omega (arith, same, rose)
committed_number before pool batch f is (Err refusal) e = left_number before pool

settled_number : (before : Stage) (pool : Pool) (batch : Batch) (fault : Option Refusal) → pool.number ≤ (pool_of (settled before pool batch fault)).number
settled_number before pool batch None = committed_number before pool batch (λ next. Goes next batch.stage) (λ next. refl) (put batch pool) refl
settled_number before pool batch (Some refusal) = go (keeps_front refusal && is_kept batch.stage)
  where
    go : (t : Bool) → pool.number ≤ (pool_of (cond t (committed before pool (put batch pool) (λ next. Stops next refusal)) (Stops (left_by before pool) refusal))).number
    go true = committed_number before pool batch (λ next. Stops next refusal) (λ next. refl) (put batch pool) refl
    go false = left_number before pool

fed_number : (ask : RecvAsk) (text piece : List ℕ) (stage : Stage) (pool : Pool) → pool.number ≤ (pool_of (feeding ask text piece stage pool)).number
unfolding fed
fed_number ask text piece stage pool = go (nat_lt stream_limit (length text + length piece))
  where
    records : List Covered
    records = new_records text piece

    go : (t : Bool) → pool.number ≤ (pool_of (cond t (Stops (left_by stage pool) (refusals.Limit quantities.Stream stream_limit)) (fed_piece ask text piece stage pool))).number
    go true = left_number stage pool
    go false =
        let done = batch_of ask pool records (at_stage stage) in
        settled_number stage pool done.batch (first_fault done.fault (fault_of (reading (text ++ piece)).outcome))

-- ---- worlds

-- no number falls
abbrev Rise : World → World → Type 0
Rise world next = (side : Side) → (at_side side world).pool.number ≤ (at_side side next).pool.number

stays : (world : World) → Rise world world
stays world side = omega arith

goes_on : (a b c : World) → Rise a b → Rise b c → Rise a c
goes_on a b c one two side = let p = one side in let q = two side in omega (arith, p, q)

-- other sessions
sessions_rise : (world : World) (sends : List OpenSend) (receives : List OpenReceive) → Rise world (record world { sends = sends; receives = receives })
sessions_rise world sends receives Here = omega arith
sessions_rise world sends receives There = omega arith

-- another pool on a side
put_rises : (side : Side) (pool : OpenPool) (world : World) → (at_side side world).pool.number ≤ pool.pool.number → Rise world (put_side side pool world)
put_rises Here pool world le Here = le
put_rises Here pool world le There = omega arith
put_rises There pool world le Here = omega arith
put_rises There pool world le There = le

-- two worlds with one pool on a side
same_number : (side : Side) (world : World) (sends : List OpenSend) (receives : List OpenReceive) → (at_side side (record world { sends = sends; receives = receives })).pool ≡ (at_side side world).pool
same_number Here world sends receives = refl
same_number There world sends receives = refl

module _ (commits_count : CommitsCount) (answers_keep : AnswersKeep) (now : ℕ) (world : World) where
  either : (t : Bool) (refusal : Refusal) (rest : Moved) → Rise world rest.world → Rise world (cond t (refuses refusal world) rest).world
  either true refusal rest rises = stays world
  either false refusal rest rises = rises

  step_number : (command : Command) (pool : Pool) (done : Stepped) (held : _) → stepped held now command pool ≡ Ok done → pool.number ≤ done.pool.number
  step_number command pool done held e = go (commits command) refl
    where
      go : (t : Bool) → commits command ≡ t → pool.number ≤ done.pool.number
      go true is = let same = commits_count held now command pool done e is in omega (arith, same)
      go false is = let same : done.pool.number ≡ pool.number = ap (λ (p : Pool). p.number) (answers_keep held now command pool done e is) in omega (arith, same)

  stepped_rises : (side : Side) (command : Command) (r : Result Stepped Refusal) → stepped (held_at side world) now command (at_side side world).pool ≡ r → Rise world (stepped_to side world r).world
  stepped_rises side command (Ok done) e = put_rises side _ world (step_number command (at_side side world).pool done (held_at side world) e)
  stepped_rises side command (Err refusal) e = stays world

  told_rises : (r : Result Token PlanFault) → Rise world (told_by world r).world
  told_rises (Ok token) = stays world
  told_rises (Err fault) = stays world

  opened_rises : (side : Side) (id : ℕ) (start : Option Point) (r : Result Sent PlanFault) → Rise world (opened_send side id start world r).world
  opened_rises side id start (Err fault) = stays world
  opened_rises side id start (Ok sent) = go (is_used id world) (nat_lt (length world.sends) most_sends)
    where
      one : OpenSend
      one = record { id = id; side = side; sent = sent; start = start; given = 0 }

      done : Moved
      done = answers (number_line side world) (record world { sends = world.sends ++ one ∷ [] })

      go : (t s : Bool) → Rise world (cond t (refuses (busy_session id) world) (cond s done (refuses (refusals.Limit quantities.Sends most_sends) world))).world
      go true s = stays world
      go false true = sessions_rise world (world.sends ++ one ∷ []) world.receives
      go false false = stays world

  resumed_rises : (side : Side) (id : ℕ) (r : Result Token PlanFault) → Rise world (resumed side id world r).world
  resumed_rises side id (Err fault) = stays world
  resumed_rises side id (Ok token) = opened_rises side id (Some token.point) (with_list (rest_of token (at_side side world).pool))

  new_receive_rises : (o : Option ℕ) (rest : Moved) → Rise world rest.world → Rise world (if_new_receive o world rest).world
  new_receive_rises (Some other) rest rises = stays world
  new_receive_rises None rest rises = go (nat_lt (length world.receives) most_receives)
    where
      go : (t : Bool) → Rise world (cond t rest (refuses (refusals.Limit quantities.Receives most_receives) world)).world
      go true = rises
      go false = stays world

  on_send_rises : (id : ℕ) (next : OpenSend → Moved) → ((send : OpenSend) → Rise world (next send).world) → Rise world (on_send id world next).world
  on_send_rises id next rises = go (send_with id world)
    where
      go : (o : Option OpenSend) → Rise world (option_map_or next o (refuses (no_session id) world)).world
      go None = stays world
      go (Some send) = rises send

  on_receive_rises : (id : ℕ) (next : OpenReceive → Moved) → ((receive : OpenReceive) → Rise world (next receive).world) → Rise world (on_receive id world next).world
  on_receive_rises id next rises = go (receive_with id world)
    where
      go : (o : Option OpenReceive) → Rise world (option_map_or next o (refuses (no_session id) world)).world
      go None = stays world
      go (Some receive) = rises receive

-- what a feed leaves
fed_rises : (base : World) (receive : OpenReceive) (piece : List ℕ) (applied : ℕ) (fed : Fed) → (at_side receive.side base).pool.number ≤ (pool_of fed).number → Rise base (fed_to receive piece applied base fed).world
fed_rises base receive piece applied (Stops pool refusal) le = goes_on base _ _ (put_rises receive.side _ base le) (sessions_rise (with_running receive.side pool base) _ _)
fed_rises base receive piece applied (Goes pool Waits) le = goes_on base _ _ (put_rises receive.side _ base le) (sessions_rise (with_running receive.side pool base) _ _)
fed_rises base receive piece applied (Goes pool (Lives flags partial)) le = goes_on base _ _ (put_rises receive.side _ base le) (sessions_rise (with_running receive.side pool base) _ _)
fed_rises base receive piece applied (Goes pool (Ends partial)) le = goes_on base _ _ (put_rises receive.side _ base le) (sessions_rise (with_running receive.side pool base) _ _)

cut_rises : (base : World) (receive : OpenReceive) → Rise base (cut_off receive base)
cut_rises base receive =
    goes_on base _ _ (put_rises receive.side _ base (left_number receive.stage (at_side receive.side base).pool)) (sessions_rise (with_running receive.side (left_by receive.stage (at_side receive.side base).pool) base) _ _)

put_send_rises : (world : World) (send : OpenSend) → Rise world (put_send send world)
put_send_rises world send = sessions_rise world _ _

pumped_rises : (count : ℕ) (send : OpenSend) (receive : OpenReceive) (world : World) → Rise world (pumped count send receive world).world
pumped_rises count send receive world =
    let piece = next_piece count send in
    let pool = (at_side receive.side world).pool in
    let base = put_send (gone_on count send) world in
    let le : pool.number ≤ (pool_of (feeding receive.ask receive.text piece receive.stage pool)).number = fed_number receive.ask receive.text piece receive.stage pool in
    let same : (at_side receive.side base).pool.number ≡ pool.number = ap (λ (p : Pool). p.number) (same_number receive.side world base.sends world.receives) in
    goes_on world base _ (put_send_rises world (gone_on count send))
    (fed_rises base receive piece (applied_of receive.ask receive.text piece receive.stage pool) (feeding receive.ask receive.text piece receive.stage pool) (omega (arith, le, same)))

ended_rises : (side : Side) (world : World) → Rise world (ended side world)
ended_rises side world =
    goes_on world (record world { sends = (ended side world).sends; receives = (ended side world).receives }) _ (sessions_rise world _ _) (kept side)
  where
    kept : (side : Side) → Rise (record world { sends = (ended side world).sends; receives = (ended side world).receives }) (ended side world)
    kept Here Here = omega arith
    kept Here There = omega arith
    kept There Here = omega arith
    kept There There = omega arith

marked_rises : (side : Side) (failed : Bool) (world : World) → Rise world (put_side side (record { pool = (at_side side world).pool; failed = failed }) world)
marked_rises side failed world = put_rises side _ world (omega arith)

moved_rises : CommitsCount → AnswersKeep → (now : ℕ) (world : World) (event : Event) → Rise world (moved now event world).world
unfolding moved
moved_rises counts keep now world (events.Step side command) =
    either counts keep now world (at_side side world).failed _ _ (stepped_rises counts keep now world side command (stepped (held_at side world) now command (at_side side world).pool) refl)
moved_rises counts keep now world (events.Token side dataset) = either counts keep now world (at_side side world).failed _ _ (told_rises counts keep now world (token_told dataset (at_side side world).pool))
moved_rises counts keep now world (events.Check side) = stays world
moved_rises counts keep now world (events.Send side id ask) = either counts keep now world (at_side side world).failed _ _ (opened_rises counts keep now world side id None (with_list (send_plan ask (at_side side world).pool)))
moved_rises counts keep now world (events.Resume side id dataset) =
    either counts keep now world (at_side side world).failed _ _ (either counts keep now world (at_side (other_side side) world).failed _ _
    (resumed_rises counts keep now world side id (token_told dataset (at_side (other_side side) world).pool)))
moved_rises counts keep now world (events.Receive side id ask) =
    either counts keep now world (at_side side world).failed _ _ (new_receive_rises counts keep now world (in_the_way side id ask.target world) _ (sessions_rise world _ _))
moved_rises counts keep now world (events.Pump sends receives count) =
    on_send_rises counts keep now world sends _ (λ send. on_receive_rises counts keep now world receives _ (λ receive.
    either counts keep now world (at_side send.side world).failed _ _ (either counts keep now world (at_side receive.side world).failed _ _ (pumped_rises count send receive world))))
moved_rises counts keep now world (events.Drop id count) =
    on_send_rises counts keep now world id _ (λ send. either counts keep now world (at_side send.side world).failed _ _ (put_send_rises world (gone_on count send)))
moved_rises counts keep now world (events.Close id) = on_send_rises counts keep now world id _ (λ send. sessions_rise world _ _)
moved_rises counts keep now world (events.Cut id) = on_receive_rises counts keep now world id _ (λ receive. cut_rises world receive)
moved_rises counts keep now world (events.Reopen side) = goes_on world (ended side world) _ (ended_rises side world) (marked_rises side false (ended side world))

given_up_rises : (event : Event) (world : World) → Rise world (given_up event world)
given_up_rises (events.Step side command) world = stays world
given_up_rises (events.Token side dataset) world = stays world
given_up_rises (events.Check side) world = stays world
given_up_rises (events.Send side id ask) world = stays world
given_up_rises (events.Resume side id dataset) world = stays world
given_up_rises (events.Receive side id ask) world = stays world
given_up_rises (events.Pump sends receives count) world = go (send_with sends world) (receive_with receives world)
  where
    go : (o : Option OpenSend) (p : Option OpenReceive) → Rise world (given_up_pump count o p world)
    go None p = stays world
    go (Some send) None = stays world
    go (Some send) (Some receive) = goes_on world (put_send (gone_on count send) world) _ (put_send_rises world (gone_on count send)) (cut_rises (put_send (gone_on count send) world) receive)
given_up_rises (events.Drop id count) world = stays world
given_up_rises (events.Close id) world = stays world
given_up_rises (events.Cut id) world = stays world
given_up_rises (events.Reopen side) world = ended_rises side world

-- a disk was lost
put_over : (side : Side) (pool : OpenPool) (world left : World) → Rise world left → (at_side side world).pool.number ≤ pool.pool.number → Rise world (put_side side pool left)
put_over Here pool world left rise le Here = le
put_over Here pool world left rise le There = rise There
put_over There pool world left rise le Here = rise Here
put_over There pool world left rise le There = le

fails_rise : (side : Side) (world left done next : World) → Rise world left → Rise world done → Fails side left done next → Rise world next
fails_rise side world left done next one two fails = subst (Rise world) (sym fails.world_is) (put_over side _ world left one (go fails.one_of))
  where
    go : (fails.pool ≡ (at_side side left).pool) ⊎ (fails.pool ≡ (at_side side done).pool) → (at_side side world).pool.number ≤ fails.pool.number
    go (inl same) = let e : fails.pool.number ≡ (at_side side left).pool.number = ap (λ (p : Pool). p.number) same in let le = one side in omega (arith, e, le)
    go (inr same) = let e : fails.pool.number ≡ (at_side side done).pool.number = ap (λ (p : Pool). p.number) same in let le = two side in omega (arith, e, le)

lost_rises : CommitsCount → AnswersKeep → (now : ℕ) (world next : World) (event : Event) → DiskFails now event world next → Rise world next
lost_rises counts keep now world next (events.Step side command) fails =
    fails_rise side world world (moved now (events.Step side command) world).world next (stays world) (moved_rises counts keep now world (events.Step side command)) fails
lost_rises counts keep now world next (events.Token side dataset) fails = absurd fails
lost_rises counts keep now world next (events.Check side) fails = fails_rise side world world world next (stays world) (stays world) fails
lost_rises counts keep now world next (events.Send side id ask) fails = fails_rise side world world world next (stays world) (stays world) fails
lost_rises counts keep now world next (events.Resume side id dataset) fails = fails_rise side world world world next (stays world) (stays world) fails
lost_rises counts keep now world next (events.Receive side id ask) fails = absurd fails
lost_rises counts keep now world next (events.Pump sends receives count) (inl take) = fails_rise take.0.side world world world next (stays world) (stays world) take.2
lost_rises counts keep now world next (events.Pump sends receives count) (inr feed) =
    fails_rise feed.0.side world (given_up (events.Pump sends receives count) world) (moved now (events.Pump sends receives count) world).world next
    (given_up_rises (events.Pump sends receives count) world) (moved_rises counts keep now world (events.Pump sends receives count)) feed.2
lost_rises counts keep now world next (events.Drop id count) take = fails_rise take.0.side world world world next (stays world) (stays world) take.2
lost_rises counts keep now world next (events.Close id) fails = absurd fails
lost_rises counts keep now world next (events.Cut id) fails = absurd fails
lost_rises counts keep now world next (events.Reopen side) fails = fails_rise side world (ended side world) (ended side world) next (ended_rises side world) (ended_rises side world) fails

pub numbers_rise : CommitsCount → AnswersKeep → NumbersRise
numbers_rise counts keep now world next event answer side (AsDefined a e) = subst (Rise world) (sym e) (moved_rises counts keep now world event) side
numbers_rise counts keep now world next event answer side (FindsNoRoom need largest a less may e) = subst (Rise world) (sym e) (given_up_rises event world) side
numbers_rise counts keep now world next event answer side (FindsNoMemory a e) = subst (Rise world) (sym e) (given_up_rises event world) side
numbers_rise counts keep now world next event answer side (TakesNoPiece sends receives count which a e) = subst (Rise world) (sym e) (stays world) side
numbers_rise counts keep now world next event answer side (LosesDisk a fails) = lost_rises counts keep now world next event fails side
