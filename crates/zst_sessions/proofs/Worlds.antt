-- What holds between sessions and pools goes on to hold.
use Rattle.std.proofs.Common.{◌≡◌, ◌≢◌, ◌⊎◌, inl, inr, ℕ, Bool, true, false, not, ◌||◌, List, [], ◌∷◌, ◌++◌, length, map, filter, Option, Some, None, is_some, Result, Ok, Err, refl, sym, ap, ◌∙◌, subst, cond, nat_lt, ◌==◌, eqb-true}
use Rattle.std.specs.List.{All, AllPairs, Contains}
use Rattle.std.specs.Prelude.{bytes_eq}
use Rattle.std.specs.Option.{option_map_or}
use Rattle.std.proofs.lemmas.List.Elements.{All-append, All-cons, All-contains, All-nil, All-weaker, Contains-append_right}
use Rattle.std.proofs.lemmas.List.Kept.{AllPairs-filter}
use Rattle.zst_laws.specs.HoldingSessions.{LeastIsNamed}
use Rattle.zst_model.proofs.InsertedLaws.{All-from_contains, AllPairs-map, contains-map, map_contains}
use Rattle.zst_model.proofs.OrderLaws.{bytes_same}
use Rattle.zst_model.specs.declared.refusals.plan_fault.PlanFault.{PlanFault}
use Rattle.zst_model.specs.declared.refusals.refusal.Refusal.{Refusal}
use Rattle.zst_model.specs.declared.refusals.refusal.Refusal.TheVariants as refusals
use Rattle.zst_model.specs.declared.sends.header.Point.{Point}
use Rattle.zst_model.specs.pools.Pool.{Pool, partial_of}
use Rattle.zst_model.specs.pools.Sessions.{has_claimed, lesser, session_into}
use Rattle.zst_model.specs.pools.Step.{Stepped, stepped}
use Rattle.zst_model.specs.sends.Headers.{Sent}
use Rattle.zst_model.proofs.FilteredLists.{contains-filter, filter_parts}
use Rattle.zst_model.proofs.FoundElements.{found_passes}
use Rattle.zst_plan.specs.declared.receive.RecvAsk.{RecvAsk}
use Rattle.zst_recv.specs.ReceiveSteps.{Stage, Waits, Lives, Ends, Fed, Goes, Stops, left_by, pool_of}
use Rattle.zst_recv.specs.Tokens.{token_told}
use Rattle.zst_script.specs.declared.event.Event.{Event}
use Rattle.zst_script.specs.declared.event.Event.TheVariants as events
use Rattle.zst_script.specs.declared.event.Side.{Side}
use Rattle.zst_script.specs.declared.event.Side.TheVariants.{Here, There}
use Rattle.zst_model.specs.sends.SendPlan.{send_plan, with_list}
use Rattle.zst_send.specs.Openings.{rest_of}
use Rattle.zst_token.specs.declared.token.Token.{Token}
use Rattle.zst_sessions.specs.World.{OpenPool, OpenSend, OpenReceive, World, at_side, other_side, is_side, put_side, claim_of, hold_of, sends_on, receives_on, held_at, is_used, send_with, receive_with, put_send, moved_to, next_piece, gone_on}
use Rattle.zst_sessions.specs.Moves.{Moved, cut_off, ended, fed_to, feeding, if_new_receive, if_works, in_the_way, most_receives, most_sends, moved, no_session, on_receive, on_send, opened_send, pumped, refuses, resumed, stepped_to, told_by}
use Rattle.zst_sessions.specs.Replay.{DiskFails, Fails, AsDefined, FindsNoRoom, FindsNoMemory, LosesDisk, TakesNoPiece, given_up, given_up_pump}
use Rattle.zst_sessions.specs.Lawfulness.{ClaimedStays, EndsLeaveOthers, FeedsLeaveOthers, FeedsStand, IsEnded, IsStanding, IsWorld, MovesKeepWorlds}
use Rattle.zst_sessions.proofs.FoundSessions.{placed}
use Rattle.zst_sessions.proofs.SessionLists.{AllPairs-snoc, id_differs, moved_ask, moved_id, moved_side, none_found, pair_of, placed_id}

-- ---- pools on sides

-- what holds of a pool, and of the one that is put on a side, holds of the pool that is then there
at_put : (P : Pool → Type 0) (a side : Side) (pool : OpenPool) (world : World) → P (at_side a world).pool → (a ≡ side → P pool.pool) → P (at_side a (put_side side pool world)).pool
at_put P Here Here pool world old new = new refl
at_put P Here There pool world old new = old
at_put P There Here pool world old new = old
at_put P There There pool world old new = new refl

same_at : (P : Pool → Type 0) (a : Side) (world : World) (sends : List OpenSend) (receives : List OpenReceive) → P (at_side a world).pool → P (at_side a (record world { sends = sends; receives = receives })).pool
same_at P Here world sends receives is = is
same_at P There world sends receives is = is

put_receives : (side : Side) (pool : OpenPool) (world : World) → (put_side side pool world).receives ≡ world.receives
put_receives Here pool world = refl
put_receives There pool world = refl

pub put_sends : (side : Side) (pool : OpenPool) (world : World) → (put_side side pool world).sends ≡ world.sends
put_sends Here pool world = refl
put_sends There pool world = refl

-- ---- worlds

abbrev Stands : World → OpenReceive → Type 0
Stands world receive = IsStanding receive.ask receive.stage (at_side receive.side world).pool

abbrev Targets : OpenReceive → OpenReceive → Type 0
Targets a b = a.side ≡ b.side → a.ask.target ≢ b.ask.target

abbrev SendIds : OpenSend → OpenSend → Type 0
SendIds a b = a.id ≢ b.id

abbrev ReceiveIds : OpenReceive → OpenReceive → Type 0
ReceiveIds a b = a.id ≢ b.id

-- a partial state that stays leaves its receive standing
stands_on : (ask : RecvAsk) (stage : Stage) (old new : Pool) → partial_of ask.target new ≡ partial_of ask.target old → IsStanding ask stage old → IsStanding ask stage new
stands_on ask Waits old new same stands = tt
stands_on ask (Lives flags partial) old new same stands = same ∙ stands
stands_on ask (Ends partial) old new same stands = stands

-- fewer sessions, and another pool on a side in which those that are left stand
fewer : (world : World) (sends : List OpenSend) (receives : List OpenReceive) (side : Side) (pool : OpenPool) → AllPairs SendIds sends → AllPairs ReceiveIds receives → AllPairs Targets receives
    → ((r : OpenReceive) → Contains receives r → Stands world r) → ((r : OpenReceive) → Contains receives r → r.side ≡ side → IsStanding r.ask r.stage pool.pool)
    → IsWorld (put_side side pool (record world { sends = sends; receives = receives }))
fewer world sends receives side pool ids also targets old new =
    let next = record world { sends = sends; receives = receives } in
    record {
      sends = subst (AllPairs SendIds) (sym (put_sends side pool next)) ids;
      receives = subst (AllPairs ReceiveIds) (sym (put_receives side pool next)) also;
      targets = subst (AllPairs Targets) (sym (put_receives side pool next)) targets;
      standing = subst (All (Stands (put_side side pool next))) (sym (put_receives side pool next))
          (All-from_contains (Stands (put_side side pool next)) receives (λ r there.
          at_put (IsStanding r.ask r.stage) r.side side pool next (same_at (IsStanding r.ask r.stage) r.side world sends receives (old r there)) (new r there)));
    }

module _ (world : World) (is : IsWorld world) where
  stood : (r : OpenReceive) → Contains world.receives r → Stands world r
  stood r there = All-contains (Stands world) world.receives r is.standing there

  -- a receive with the id of another is that one
  one_id : (a b : OpenReceive) → Contains world.receives a → Contains world.receives b → a.id ≡ b.id → a ≡ b
  one_id a b there also same = elim (pair_of ReceiveIds world.receives a b is.receives there also) [
    | inl e ↦ e
    | inr (inl apart) ↦ absurd (apart same)
    | inr (inr apart) ↦ absurd (apart (sym same))
  ]

  -- receives with other ids into one pool have other targets
  other_target : (a b : OpenReceive) → Contains world.receives a → Contains world.receives b → a.id ≢ b.id → a.side ≡ b.side → a.ask.target ≢ b.ask.target
  other_target a b there also apart sides = elim (pair_of Targets world.receives a b is.targets there also) [
    | inl e ↦ absurd (apart (ap (λ (r : OpenReceive). r.id) e))
    | inr (inl differ) ↦ differ sides
    | inr (inr differ) ↦ (λ same. differ (sym sides) (sym same))
  ]

  -- another pool on a side in which its receives stand
  with_pool : (side : Side) (pool : OpenPool) → ((r : OpenReceive) → Contains world.receives r → r.side ≡ side → IsStanding r.ask r.stage pool.pool) → IsWorld (put_side side pool world)
  with_pool side pool new = fewer world world.sends world.receives side pool is.sends is.receives is.targets stood new

  -- other sends
  pub with_sends : (sends : List OpenSend) → AllPairs SendIds sends → IsWorld (record world { sends = sends })
  with_sends sends ids = record {
    sends = ids;
    receives = is.receives;
    targets = is.targets;
    standing = All-from_contains (Stands (record world { sends = sends })) world.receives (λ r there. same_at (IsStanding r.ask r.stage) r.side world sends world.receives (stood r there));
  }

  pub put_keeps : (send : OpenSend) → IsWorld (put_send send world)
  put_keeps send =
      with_sends (map (placed send) world.sends)
      (AllPairs-map SendIds SendIds (placed send) (λ x y apart same. apart (sym (placed_id send x) ∙ same ∙ placed_id send y)) world.sends is.sends)

  -- a receive is over: the pool on its side is one in which those with other ids stand
  without : (receive : OpenReceive) (sends : List OpenSend) (pool : OpenPool) → AllPairs SendIds sends
      → ((r : OpenReceive) → Contains world.receives r → r.id ≢ receive.id → r.side ≡ receive.side → IsStanding r.ask r.stage pool.pool)
      → IsWorld (put_side receive.side pool (record world { sends = sends; receives = filter (λ r. not (r.id == receive.id)) world.receives }))
  without receive sends pool ids new =
      fewer world sends (filter keep world.receives) receive.side pool ids (AllPairs-filter ReceiveIds keep world.receives is.receives) (AllPairs-filter Targets keep world.receives is.targets)
      (λ r there. stood r (filter_parts keep world.receives r there).0)
      (λ r there sides. let had = filter_parts keep world.receives r there in new r had.0 (id_differs r.id receive.id (go (r.id == receive.id) had.1)) sides)
    where
      keep : OpenReceive → Bool
      keep r = not (r.id == receive.id)

      go : (t : Bool) → not t ≡ true → t ≡ false
      go true e = absurd cc
      go false e = refl

-- ---- pools on sides, again

-- what holds of the pool that is put on a side holds of the pool there
at_own : (P : Pool → Type 0) (a side : Side) (pool : OpenPool) (world : World) → a ≡ side → P pool.pool → P (at_side a (put_side side pool world)).pool
at_own P Here Here pool world same new = new
at_own P Here There pool world same new = absurd cc
at_own P There Here pool world same new = absurd cc
at_own P There There pool world same new = new

same_side : (a b : Side) → a ≡ b → is_side a b ≡ true
same_side Here Here same = refl
same_side Here There same = absurd cc
same_side There Here same = absurd cc
same_side There There same = refl

-- the sessions are changed after a pool was put on a side, or before
left_after : (side : Side) (pool : OpenPool) (world : World) (change : List OpenReceive → List OpenReceive)
    → record (put_side side pool world) { receives = change (put_side side pool world).receives } ≡ put_side side pool (record world { receives = change world.receives })
left_after Here pool world change = refl
left_after There pool world change = refl

-- a pool's mark alone
pub mark_keeps : (world : World) → IsWorld world → (side : Side) (failed : Bool) → IsWorld (put_side side (record { pool = (at_side side world).pool; failed = failed }) world)
mark_keeps world is side failed =
    with_pool world is side (record { pool = (at_side side world).pool; failed = failed })
    (λ r there sides. subst (λ (s : Side). IsStanding r.ask r.stage (at_side s world).pool) sides (stood world is r there))

-- ---- one receive

module _ (world : World) (is : IsWorld world) (receive : OpenReceive) (there : Contains world.receives receive) where
  -- the other receives stand in this pool on its side
  abbrev OthersStand : Pool → Type 0
  OthersStand pool = (r : OpenReceive) → Contains world.receives r → r.id ≢ receive.id → r.side ≡ receive.side → IsStanding r.ask r.stage pool

  -- it is over
  without_it : (pool : OpenPool) → OthersStand pool.pool → IsWorld (record (put_side receive.side pool world) { receives = filter (λ r. not (r.id == receive.id)) (put_side receive.side pool world).receives })
  without_it pool others =
      subst IsWorld (sym (left_after receive.side pool world (filter (λ r. not (r.id == receive.id)))))
      (without world is receive world.sends pool is.sends others)

  -- it stands elsewhere
  moved_it : (text : List ℕ) (stage : Stage) (pool : OpenPool) → OthersStand pool.pool → IsStanding receive.ask stage pool.pool
      → IsWorld (record (put_side receive.side pool world) { receives = map (moved_to receive.id text stage) (put_side receive.side pool world).receives })
  moved_it text stage pool others own = subst IsWorld (sym (left_after receive.side pool world (map move))) (record {
    sends = subst (AllPairs SendIds) (sym (put_sends receive.side pool next)) is.sends;
    receives = subst (AllPairs ReceiveIds) (sym (put_receives receive.side pool next))
        (AllPairs-map ReceiveIds ReceiveIds move (λ x y apart same. apart (sym (moved_id receive.id text stage x) ∙ same ∙ moved_id receive.id text stage y)) world.receives is.receives);
    targets = subst (AllPairs Targets) (sym (put_receives receive.side pool next))
        (AllPairs-map Targets Targets move (λ x y apart sides same. apart (sym (moved_side receive.id text stage x) ∙ sides ∙ moved_side receive.id text stage y)
        (ap (λ (a : RecvAsk). a.target) (sym (moved_ask receive.id text stage x)) ∙ same ∙ ap (λ (a : RecvAsk). a.target) (moved_ask receive.id text stage y))) world.receives is.targets);
    standing = subst (All (Stands (put_side receive.side pool next))) (sym (put_receives receive.side pool next))
        (All-from_contains (Stands (put_side receive.side pool next)) next.receives (λ r had. let from = map_contains move world.receives r had in subst (Stands (put_side receive.side pool next)) from.2 (stands from.0 from.1)));
  })
    where
      move : OpenReceive → OpenReceive
      move = moved_to receive.id text stage

      next : World
      next = record world { receives = map (moved_to receive.id text stage) world.receives }

      stands : (one : OpenReceive) → Contains world.receives one → Stands (put_side receive.side pool next) (moved_to receive.id text stage one)
      stands one had = go (one.id == receive.id) refl
        where
          go : (t : Bool) → (one.id == receive.id) ≡ t → Stands (put_side receive.side pool next) (cond t (record one { text = text; stage = stage }) one)
          go true same =
              let this : one ≡ receive = one_id world is one receive had there (eqb-true one.id receive.id same) in
              at_own (IsStanding one.ask stage) one.side receive.side pool next (ap (λ (r : OpenReceive). r.side) this)
              (subst (λ (r : OpenReceive). IsStanding r.ask stage pool.pool) (sym this) own)
          go false same =
              at_put (IsStanding one.ask one.stage) one.side receive.side pool next (same_at (IsStanding one.ask one.stage) one.side world world.sends next.receives (stood world is one had))
              (others one had (id_differs one.id receive.id same))

  -- a feed
  fed_keeps : (piece : List ℕ) (applied : ℕ) (fed : Fed) → OthersStand (pool_of fed) → ((next : Pool) (after : Stage) → fed ≡ Goes next after → IsEnded after ⊎ IsStanding receive.ask after next)
      → IsWorld (fed_to receive piece applied world fed).world
  fed_keeps piece applied (Stops pool refusal) others own = without_it (record { pool = pool; failed = (at_side receive.side world).failed }) others
  fed_keeps piece applied (Goes pool Waits) others own = moved_it (receive.text ++ piece) Waits (record { pool = pool; failed = (at_side receive.side world).failed }) others tt
  fed_keeps piece applied (Goes pool (Lives flags partial)) others own = moved_it (receive.text ++ piece) (Lives flags partial) (record { pool = pool; failed = (at_side receive.side world).failed }) others (go (own pool (Lives flags partial) refl))
    where
      go : ⊥ ⊎ IsStanding receive.ask (Lives flags partial) pool → IsStanding receive.ask (Lives flags partial) pool
      go (inl none) = absurd none
      go (inr stands) = stands
  fed_keeps piece applied (Goes pool (Ends partial)) others own = without_it (record { pool = pool; failed = (at_side receive.side world).failed }) others

-- ---- events

module _ (claims : ClaimedStays) (leave : FeedsLeaveOthers) (stand : FeedsStand) (ends : EndsLeaveOthers) (least : LeastIsNamed) where
  module _ (now : ℕ) (world : World) (is : IsWorld world) where
    claimed : (side : Side) (r : OpenReceive) → Contains world.receives r → r.side ≡ side → Contains (held_at side world) (claim_of r)
    claimed side r there sides =
        Contains-append_right (map hold_of (sends_on side world)) (map claim_of (receives_on side world)) (claim_of r)
        (contains-map claim_of (receives_on side world) r (contains-filter (λ receive. is_side receive.side side) world.receives r there (same_side r.side side sides)))

    on_side : (side : Side) (r : OpenReceive) → Contains world.receives r → r.side ≡ side → IsStanding r.ask r.stage (at_side side world).pool
    on_side side r there sides = subst (λ (s : Side). IsStanding r.ask r.stage (at_side s world).pool) sides (stood world is r there)

    -- the receives of a pool stand in what a command made of it
    step_stands : (side : Side) (command : _) (done : Stepped) → stepped (held_at side world) now command (at_side side world).pool ≡ Ok done
        → (r : OpenReceive) → Contains world.receives r → r.side ≡ side → IsStanding r.ask r.stage done.pool
    step_stands side command done e r there sides =
        stands_on r.ask r.stage (at_side side world).pool done.pool (claims (held_at side world) now r.id r.ask.target command (at_side side world).pool done (claimed side r there sides) e) (on_side side r there sides)

    -- in what a feed of another receive leaves, and in what its end leaves
    feed_stands : (receive : OpenReceive) (there : Contains world.receives receive) (piece : List ℕ)
        → OthersStand world is receive there (pool_of (feeding receive.ask receive.text piece receive.stage (at_side receive.side world).pool))
    feed_stands receive there piece r also apart sides =
        stands_on r.ask r.stage (at_side receive.side world).pool (pool_of (feeding receive.ask receive.text piece receive.stage (at_side receive.side world).pool))
        (leave receive.ask receive.text piece r.ask.target receive.stage (at_side receive.side world).pool (stood world is receive there) (other_target world is r receive also there apart sides))
        (on_side receive.side r also sides)

    end_stands : (receive : OpenReceive) (there : Contains world.receives receive) → OthersStand world is receive there (left_by receive.stage (at_side receive.side world).pool)
    end_stands receive there r also apart sides =
        stands_on r.ask r.stage (at_side receive.side world).pool (left_by receive.stage (at_side receive.side world).pool)
        (ends receive.ask r.ask.target receive.stage (at_side receive.side world).pool (stood world is receive there) (other_target world is r receive also there apart sides))
        (on_side receive.side r also sides)

    cut_keeps : (receive : OpenReceive) → Contains world.receives receive → IsWorld (cut_off receive world)
    cut_keeps receive there =
        without_it world is receive there (record { pool = left_by receive.stage (at_side receive.side world).pool; failed = (at_side receive.side world).failed }) (end_stands receive there)

    -- all sessions of a pool are over, and the pool is another: none is left that stands in it
    ended_keeps : (side : Side) (pool : OpenPool) → IsWorld (put_side side pool (record world {
      sends = filter (λ send. not (is_side send.side side)) world.sends;
      receives = filter (λ receive. not (is_side receive.side side)) world.receives;
    }))
    ended_keeps side pool =
        fewer world (filter (λ send. not (is_side send.side side)) world.sends) (filter keep world.receives) side pool
        (AllPairs-filter SendIds (λ send. not (is_side send.side side)) world.sends is.sends) (AllPairs-filter ReceiveIds keep world.receives is.receives) (AllPairs-filter Targets keep world.receives is.targets)
        (λ r there. stood world is r (filter_parts keep world.receives r there).0)
        (λ r there sides. absurd (let had = (filter_parts keep world.receives r there).1 in let own = same_side r.side side sides in go (is_side r.side side) had own))
      where
        keep : OpenReceive → Bool
        keep receive = not (is_side receive.side side)

        go : (t : Bool) → not t ≡ true → t ≡ true → ⊥
        go true e d = cc
        go false e d = cc

    -- ---- one event

    either : (t : Bool) (refusal : Refusal) (rest : Moved) → IsWorld rest.world → IsWorld (cond t (refuses refusal world) rest).world
    either true refusal rest on = is
    either false refusal rest on = on

    either_if : (t : Bool) (refusal : Refusal) (rest : Moved) → (t ≡ false → IsWorld rest.world) → IsWorld (cond t (refuses refusal world) rest).world
    either_if true refusal rest on = is
    either_if false refusal rest on = on refl

    either_last : (t : Bool) (refusal : Refusal) (rest : Moved) → IsWorld rest.world → IsWorld (cond t rest (refuses refusal world)).world
    either_last true refusal rest on = on
    either_last false refusal rest on = is

    on_send_keeps : (id : ℕ) (next : OpenSend → Moved) → ((one : OpenSend) → IsWorld (next one).world) → IsWorld (on_send id world next).world
    on_send_keeps id next on = go (send_with id world)
      where
        go : (o : Option OpenSend) → IsWorld (option_map_or next o (refuses (no_session id) world)).world
        go None = is
        go (Some one) = on one

    on_receive_keeps : (id : ℕ) (next : OpenReceive → Moved) → ((one : OpenReceive) → Contains world.receives one → IsWorld (next one).world) → IsWorld (on_receive id world next).world
    on_receive_keeps id next on = go (receive_with id world) refl
      where
        go : (o : Option OpenReceive) → receive_with id world ≡ o → IsWorld (option_map_or next o (refuses (no_session id) world)).world
        go None e = is
        go (Some one) e = on one (found_passes (λ receive. receive.id == id) world.receives one e).0

    stepped_keeps : (side : Side) (command : _) (r : Result Stepped Refusal) → stepped (held_at side world) now command (at_side side world).pool ≡ r → IsWorld (stepped_to side world r).world
    stepped_keeps side command (Ok done) e = with_pool world is side (record { pool = done.pool; failed = (at_side side world).failed }) (step_stands side command done e)
    stepped_keeps side command (Err refusal) e = is

    told_keeps : (r : Result Token PlanFault) → IsWorld (told_by world r).world
    told_keeps (Ok token) = is
    told_keeps (Err fault) = is

    none_of : {A : Type 0} (o : Option A) → is_some o ≡ false → o ≡ None
    none_of None e = refl
    none_of (Some x) e = absurd cc

    both_none : (a b : Bool) → (a || b) ≡ false → (a ≡ false) × (b ≡ false)
    both_none true b e = absurd cc
    both_none false b e = (refl, e)

    -- one more send
    sends_more : (send : OpenSend) → is_used send.id world ≡ false → IsWorld (record world { sends = world.sends ++ send ∷ [] })
    sends_more send unused =
        let none = none_of (send_with send.id world) (both_none (is_some (send_with send.id world)) (is_some (receive_with send.id world)) unused).0 in
        with_sends world is (world.sends ++ send ∷ [])
        (AllPairs-snoc SendIds world.sends send is.sends
        (All-weaker (λ (one : OpenSend). (one.id == send.id) ≡ false) (λ one. one.id ≢ send.id) (λ one fails. id_differs one.id send.id fails) world.sends (none_found (λ one. one.id == send.id) world.sends none)))

    opened_keeps : (side : Side) (id : ℕ) (start : Option Point) (r : Result Sent PlanFault) → IsWorld (opened_send side id start world r).world
    opened_keeps side id start (Ok sent) =
        either_if (is_used id world) _ _ (λ unused. either_last (nat_lt (length world.sends) most_sends) _ _ (sends_more (record { id = id; side = side; sent = sent; start = start; given = 0 }) unused))
    opened_keeps side id start (Err fault) = is

    resumed_keeps : (side : Side) (id : ℕ) (r : Result Token PlanFault) → IsWorld (resumed side id world r).world
    resumed_keeps side id (Ok token) = opened_keeps side id (Some token.point) (with_list (rest_of token (at_side side world).pool))
    resumed_keeps side id (Err fault) = is

    -- one more receive
    receives_more : (receive : OpenReceive) → receive.stage ≡ Waits → is_used receive.id world ≡ false → session_into receive.ask.target (held_at receive.side world) ≡ None
        → IsWorld (record world { receives = world.receives ++ receive ∷ [] })
    receives_more receive waits unused free =
        let none = none_of (receive_with receive.id world) (both_none (is_some (send_with receive.id world)) (is_some (receive_with receive.id world)) unused).1 in
        let claimed_by = (least (has_claimed receive.ask.target) (held_at receive.side world)).1 free in
        let next = record world { receives = world.receives ++ receive ∷ [] } in
        record {
          sends = is.sends;
          receives = AllPairs-snoc ReceiveIds world.receives receive is.receives
              (All-weaker (λ (one : OpenReceive). (one.id == receive.id) ≡ false) (λ one. one.id ≢ receive.id) (λ one fails. id_differs one.id receive.id fails) world.receives (none_found (λ one. one.id == receive.id) world.receives none));
          targets = AllPairs-snoc Targets world.receives receive is.targets
              (All-from_contains (λ one. Targets one receive) world.receives (λ one there sides same. absurd (differ one.ask.target same (claimed_by (claim_of one) (claimed receive.side one there sides)))));
          standing = All-append (Stands next) world.receives (receive ∷ [])
              (All-from_contains (Stands next) world.receives (λ r there. same_at (IsStanding r.ask r.stage) r.side world world.sends next.receives (stood world is r there)))
              (All-cons (Stands next) receive [] (subst (λ (s : Stage). IsStanding receive.ask s (at_side receive.side next).pool) (sym waits) tt) (All-nil (Stands next)));
        }
      where
        differ : (target : List ℕ) → target ≡ receive.ask.target → bytes_eq target receive.ask.target ≡ false → ⊥
        differ target same fails = let also = bytes_same target receive.ask.target same in cc

    in_way : (side : Side) (id : ℕ) (target : List ℕ) → in_the_way side id target world ≡ None → (is_used id world ≡ false) × (session_into target (held_at side world) ≡ None)
    in_way side id target e = go (is_used id world) (session_into target (held_at side world)) e
      where
        go : (t : Bool) (o : Option ℕ) → cond t (Some (lesser id o)) o ≡ None → (t ≡ false) × (o ≡ None)
        go true o e = absurd cc
        go false o e = (refl, e)

    new_receive_keeps : (o : Option ℕ) (rest : Moved) → (o ≡ None → IsWorld rest.world) → IsWorld (if_new_receive o world rest).world
    new_receive_keeps (Some busy) rest on = is
    new_receive_keeps None rest on = either_last (nat_lt (length world.receives) most_receives) _ rest (on refl)

    -- a pump: the send has given its piece first
    pumped_keeps : (count : ℕ) (one : OpenSend) (receive : OpenReceive) → Contains world.receives receive → IsWorld (pumped count one receive world).world
    pumped_keeps count one receive there =
        let piece = next_piece count one in
        let pool = (at_side receive.side world).pool in
        fed_keeps (put_send (gone_on count one) world) (put_keeps world is (gone_on count one)) receive there piece _ (feeding receive.ask receive.text piece receive.stage pool)
        (feed_stands receive there piece) (λ next after e. stand receive.ask receive.text piece receive.stage after pool next (stood world is receive there) e)

    moved_keeps : (event : Event) → IsWorld (moved now event world).world
    unfolding moved
    moved_keeps (events.Step side command) = either (at_side side world).failed _ _ (stepped_keeps side command (stepped (held_at side world) now command (at_side side world).pool) refl)
    moved_keeps (events.Token side dataset) = either (at_side side world).failed _ _ (told_keeps (token_told dataset (at_side side world).pool))
    moved_keeps (events.Check side) = is
    moved_keeps (events.Send side id ask) = either (at_side side world).failed _ _ (opened_keeps side id None (with_list (send_plan ask (at_side side world).pool)))
    moved_keeps (events.Resume side id dataset) =
        either (at_side side world).failed _ _ (either (at_side (other_side side) world).failed _ _ (resumed_keeps side id (token_told dataset (at_side (other_side side) world).pool)))
    moved_keeps (events.Receive side id ask) =
        either (at_side side world).failed _ _ (new_receive_keeps (in_the_way side id ask.target world) _ (λ none.
        let free = in_way side id ask.target none in receives_more (record { id = id; side = side; ask = ask; text = []; stage = Waits }) refl free.0 free.1))
    moved_keeps (events.Pump sends receives count) =
        on_send_keeps sends _ (λ one. on_receive_keeps receives _ (λ receive there.
        either (at_side one.side world).failed _ _ (either (at_side receive.side world).failed _ _ (pumped_keeps count one receive there))))
    moved_keeps (events.Drop id count) = on_send_keeps id _ (λ one. either (at_side one.side world).failed _ _ (put_keeps world is (gone_on count one)))
    moved_keeps (events.Close id) =
        on_send_keeps id _ (λ one. with_sends world is (filter (λ send. not (send.id == id)) world.sends) (AllPairs-filter SendIds (λ send. not (send.id == id)) world.sends is.sends))
    moved_keeps (events.Cut id) = on_receive_keeps id _ (λ receive there. cut_keeps receive there)
    moved_keeps (events.Reopen side) = mark_keeps (ended side world) (ended_keeps side _) side false

  -- ---- an event that is given up, or loses a disk

  -- what is left of a pump
  gave_up : (now : ℕ) (world : World) → IsWorld world → (count : ℕ) (one : OpenSend) (receive : OpenReceive) → Contains world.receives receive → IsWorld (cut_off receive (put_send (gone_on count one) world))
  gave_up now world is count one receive there = cut_keeps now (put_send (gone_on count one) world) (put_keeps world is (gone_on count one)) receive there

  given_up_keeps : (now : ℕ) (world : World) → IsWorld world → (event : Event) → IsWorld (given_up event world)
  given_up_keeps now world is (events.Step side command) = is
  given_up_keeps now world is (events.Token side dataset) = is
  given_up_keeps now world is (events.Check side) = is
  given_up_keeps now world is (events.Send side id ask) = is
  given_up_keeps now world is (events.Resume side id dataset) = is
  given_up_keeps now world is (events.Receive side id ask) = is
  given_up_keeps now world is (events.Pump sends receives count) = go (send_with sends world) (receive_with receives world) refl
    where
      go : (o : Option OpenSend) (p : Option OpenReceive) → receive_with receives world ≡ p → IsWorld (given_up_pump count o p world)
      go None p e = is
      go (Some one) None e = is
      go (Some one) (Some receive) e = gave_up now world is count one receive (found_passes (λ r. r.id == receives) world.receives receive e).0
  given_up_keeps now world is (events.Drop id count) = is
  given_up_keeps now world is (events.Close id) = is
  given_up_keeps now world is (events.Cut id) = is
  given_up_keeps now world is (events.Reopen side) = ended_keeps now world is side _

  -- a disk was lost: the pool is what was left, or what was done, in which the receives that are left stand too
  fails_keeps : (side : Side) (left done next : World) → IsWorld left → Fails side left done next
      → ((r : OpenReceive) → Contains left.receives r → r.side ≡ side → IsStanding r.ask r.stage (at_side side done).pool) → IsWorld next
  fails_keeps side left done next is fails stands = subst IsWorld (sym fails.world_is) (go fails.one_of)
    where
      mark : Pool → OpenPool
      mark pool = record { pool = pool; failed = true }

      go : (fails.pool ≡ (at_side side left).pool) ⊎ (fails.pool ≡ (at_side side done).pool) → IsWorld (put_side side (record { pool = fails.pool; failed = true }) left)
      go (inl same) = subst (λ (p : Pool). IsWorld (put_side side (record { pool = p; failed = true }) left)) (sym same) (mark_keeps left is side true)
      go (inr same) = subst (λ (p : Pool). IsWorld (put_side side (record { pool = p; failed = true }) left)) (sym same) (with_pool left is side (record { pool = (at_side side done).pool; failed = true }) stands)

  on_own_side : (world : World) → IsWorld world → (side : Side) (r : OpenReceive) → Contains world.receives r → r.side ≡ side → IsStanding r.ask r.stage (at_side side world).pool
  on_own_side world is side r there sides = subst (λ (s : Side). IsStanding r.ask r.stage (at_side s world).pool) sides (stood world is r there)

  stepped_receives : (side : Side) (world : World) (r : Result Stepped Refusal) → (stepped_to side world r).world.receives ≡ world.receives
  stepped_receives side world (Ok done) = put_receives side _ world
  stepped_receives side world (Err refusal) = refl

  step_receives : (now : ℕ) (side : Side) (command : _) (world : World) → (moved now (events.Step side command) world).world.receives ≡ world.receives
  unfolding moved
  step_receives now side command world = go (at_side side world).failed
    where
      go : (t : Bool) → (cond t (refuses refusals.Failed world) (stepped_to side world (stepped (held_at side world) now command (at_side side world).pool))).world.receives ≡ world.receives
      go true = refl
      go false = stepped_receives side world (stepped (held_at side world) now command (at_side side world).pool)

  -- the pool of a receive behind a pump: as it was, or what the feed made of it
  side_pool : (side : Side) (pool : OpenPool) (world : World) → (at_side side (put_side side pool world)).pool ≡ pool.pool
  side_pool Here pool world = refl
  side_pool There pool world = refl

  with_pool_at : (side : Side) (world : World) (receives : List OpenReceive) → (at_side side (record world { receives = receives })).pool ≡ (at_side side world).pool
  with_pool_at Here world receives = refl
  with_pool_at There world receives = refl

  fed_pool : (receive : OpenReceive) (piece : List ℕ) (applied : ℕ) (world : World) (fed : Fed) → (at_side receive.side (fed_to receive piece applied world fed).world).pool ≡ pool_of fed
  fed_pool receive piece applied world (Stops pool refusal) = with_pool_at receive.side _ _ ∙ side_pool receive.side _ world
  fed_pool receive piece applied world (Goes pool Waits) = with_pool_at receive.side _ _ ∙ side_pool receive.side _ world
  fed_pool receive piece applied world (Goes pool (Lives flags partial)) = with_pool_at receive.side _ _ ∙ side_pool receive.side _ world
  fed_pool receive piece applied world (Goes pool (Ends partial)) = with_pool_at receive.side _ _ ∙ side_pool receive.side _ world

  module _ (now : ℕ) (world : World) (is : IsWorld world) (sends receives count : ℕ) (receive : OpenReceive) (found : receive_with receives world ≡ Some receive) where
    there : Contains world.receives receive
    there = (found_passes (λ r. r.id == receives) world.receives receive found).0

    event : Event
    event = events.Pump sends receives count

    abbrev Good : World → Type 0
    Good done = OthersStand world is receive there (at_side receive.side done).pool

    good_world : Good world
    good_world r also apart sides = on_own_side world is receive.side r also sides

    good_pumped : (one : OpenSend) → Good (pumped count one receive world).world
    good_pumped one =
        let piece = next_piece count one in
        let fed = feeding receive.ask receive.text piece receive.stage (at_side receive.side world).pool in
        subst (λ (p : Pool). OthersStand world is receive there p) (sym (fed_pool receive piece _ (put_send (gone_on count one) world) fed)) (feed_stands now world is receive there piece)

    good_either : (t : Bool) (refusal : Refusal) (rest : Moved) → Good rest.world → Good (cond t (refuses refusal world) rest).world
    good_either true refusal rest good = good_world
    good_either false refusal rest good = good

    -- in what the pump makes of the pool the other receives stand, whether or not its send is there
    good_moved : Good (moved now (events.Pump sends receives count) world).world
    unfolding moved
    good_moved = go (send_with sends world) (receive_with receives world) found
      where
        next : OpenSend → OpenReceive → Moved
        next one r = if_works one.side world (if_works r.side world (pumped count one r world))

        some : (a b : OpenReceive) → Some a ≡ Some b → a ≡ b
        some a b e = cc

        go : (o : Option OpenSend) (p : Option OpenReceive) → p ≡ Some receive
            → Good (option_map_or (λ one. option_map_or (λ r. if_works one.side world (if_works r.side world (pumped count one r world))) p (refuses (no_session receives) world)) o (refuses (no_session sends) world)).world
        go None p e = good_world
        go (Some one) None e = absurd cc
        go (Some one) (Some r) e =
            subst (λ (x : OpenReceive). Good (if_works one.side world (if_works x.side world (pumped count one x world))).world) (sym (some r receive e))
            (good_either (at_side one.side world).failed _ _ (good_either (at_side receive.side world).failed _ _ (good_pumped one)))

    none_done : send_with sends world ≡ None → (moved now (events.Pump sends receives count) world).world ≡ world
    unfolding moved
    none_done none = ap (λ (o : Option OpenSend). (option_map_or (λ one. on_receive receives world (λ r. if_works one.side world (if_works r.side world (pumped count one r world)))) o (refuses (no_session sends) world)).world) none

    left_is : (one : OpenSend) → send_with sends world ≡ Some one → given_up (events.Pump sends receives count) world ≡ cut_off receive (put_send (gone_on count one) world)
    left_is one some = ap (λ (o : Option OpenSend). given_up_pump count o (receive_with receives world) world) some ∙ ap (λ (p : Option OpenReceive). given_up_pump count (Some one) p world) found

    keep : OpenReceive → Bool
    keep r = not (r.id == receive.id)

    other_than : (r : OpenReceive) → keep r ≡ true → r.id ≢ receive.id
    unfolding keep
    other_than r kept = id_differs r.id receive.id (go (r.id == receive.id) kept)
      where
        go : (t : Bool) → not t ≡ true → t ≡ false
        go true e = absurd cc
        go false e = refl

    cut_receives : (one : OpenSend) → (cut_off receive (put_send (gone_on count one) world)).receives ≡ filter keep world.receives
    unfolding keep
    cut_receives one = ap (filter (λ r. not (r.id == receive.id))) (put_receives receive.side _ (put_send (gone_on count one) world))

    feed_fails : (next : World) → Fails receive.side (given_up (events.Pump sends receives count) world) (moved now (events.Pump sends receives count) world).world next → IsWorld next
    feed_fails next fails = go (send_with sends world) refl
      where
        go : (o : Option OpenSend) → send_with sends world ≡ o → IsWorld next
        go None none =
            fails_keeps receive.side world world next is
            (subst (λ (done : World). Fails receive.side world done next) (none_done none)
            (subst (λ (left : World). Fails receive.side left (moved now (events.Pump sends receives count) world).world next) (ap (λ (o : Option OpenSend). given_up_pump count o (receive_with receives world) world) none) fails))
            (λ r also sides. on_own_side world is receive.side r also sides)
        go (Some one) some =
            let left = cut_off receive (put_send (gone_on count one) world) in
            fails_keeps receive.side left (moved now (events.Pump sends receives count) world).world next (gave_up now world is count one receive there)
            (subst (λ (w : World). Fails receive.side w (moved now (events.Pump sends receives count) world).world next) (left_is one some) fails)
            (λ r also sides.
            let had = filter_parts keep world.receives r (subst (λ (rs : List OpenReceive). Contains rs r) (cut_receives one) also) in
            good_moved r had.0 (other_than r had.1) sides)

  lost_keeps : (now : ℕ) (world next : World) → IsWorld world → (event : Event) → DiskFails now event world next → IsWorld next
  lost_keeps now world next is (events.Step side command) fails =
      fails_keeps side world (moved now (events.Step side command) world).world next is fails (λ r there sides.
      on_own_side (moved now (events.Step side command) world).world (moved_keeps now world is (events.Step side command)) side r
      (subst (λ (rs : List OpenReceive). Contains rs r) (sym (step_receives now side command world)) there) sides)
  lost_keeps now world next is (events.Token side dataset) fails = absurd fails
  lost_keeps now world next is (events.Check side) fails = fails_keeps side world world next is fails (λ r there sides. on_own_side world is side r there sides)
  lost_keeps now world next is (events.Send side id ask) fails = fails_keeps side world world next is fails (λ r there sides. on_own_side world is side r there sides)
  lost_keeps now world next is (events.Resume side id dataset) fails = fails_keeps side world world next is fails (λ r there sides. on_own_side world is side r there sides)
  lost_keeps now world next is (events.Receive side id ask) fails = absurd fails
  lost_keeps now world next is (events.Pump sends receives count) (inl take) = fails_keeps take.0.side world world next is take.2 (λ r there sides. on_own_side world is take.0.side r there sides)
  lost_keeps now world next is (events.Pump sends receives count) (inr feed) = feed_fails now world is sends receives count feed.0 feed.1 next feed.2
  lost_keeps now world next is (events.Drop id count) take = fails_keeps take.0.side world world next is take.2 (λ r there sides. on_own_side world is take.0.side r there sides)
  lost_keeps now world next is (events.Close id) fails = absurd fails
  lost_keeps now world next is (events.Cut id) fails = absurd fails
  lost_keeps now world next is (events.Reopen side) fails =
      fails_keeps side (ended side world) (ended side world) next (ended_keeps now world is side _) fails (λ r there sides. on_own_side (ended side world) (ended_keeps now world is side _) side r there sides)

  pub moves_keep : MovesKeepWorlds
  moves_keep now world next event answer (AsDefined a e) is = subst IsWorld (sym e) (moved_keeps now world is event)
  moves_keep now world next event answer (FindsNoRoom need largest a less may e) is = subst IsWorld (sym e) (given_up_keeps now world is event)
  moves_keep now world next event answer (FindsNoMemory a e) is = subst IsWorld (sym e) (given_up_keeps now world is event)
  moves_keep now world next event answer (TakesNoPiece sends receives count which a e) is = subst IsWorld (sym e) is
  moves_keep now world next event answer (LosesDisk a fails) is = lost_keeps now world next is event fails
